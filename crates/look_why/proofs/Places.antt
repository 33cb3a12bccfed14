-- A walk over the lines before one.
use Rattle.std.proofs.Common.{◌≡◌, ℕ, suc, ◌-◌, ◌<◌, ◌≤◌, List, length, arith, subst, refl}
use Rattle.mix_bits.specs.Addresses.{onward}
use Rattle.mix_bits.specs.declared.isa.Isa.{Isa}
use Rattle.mix_top.specs.ScriptLines.{behind_line, first_line}
use Rattle.look_why.specs.Places.{HasCount, Leads}

-- what the rest of the lines leads to, all of them lead to
pub record Reached (set : Isa) (lines : ℕ) (text : List ℕ) (at : ℕ) (left : ℕ) (rest : List ℕ) (next : ℕ) : Type 0 where
  pub within : length rest ≤ length text
  pub leads : (address : ℕ) → Leads set left rest next address → Leads set lines text at address

pub reached-on : (set : Isa) (lines : ℕ) (text : List ℕ) (at left : ℕ) (rest : List ℕ) (next : ℕ) (line behind : List ℕ) (count after : ℕ)
    → 0 < left → line ≡ first_line rest → behind ≡ behind_line rest → length behind ≤ length rest → HasCount set line next count → after ≡ onward next count
    → Reached set lines text at left rest next → Reached set lines text at (left - 1) behind after
reached-on set lines text at left rest next line behind count after some first others less has is reached =
    let one : suc (left - 1) ≡ left = omega (arith, some) in
    let within : length rest ≤ length text = reached.within in
    let has-first : HasCount set (first_line rest) next count = subst (λ l. HasCount set l next count) first has in
    record {
      within = omega (arith, within, less);
      leads = λ address leads.
          reached.leads address (subst (λ n. Leads set n rest next address) one
          (count, has-first, subst (λ b. Leads set (left - 1) b (onward next count) address) others (subst (λ a. Leads set (left - 1) behind a address) is leads)));
    }

pub reached-ends : (set : Isa) (lines : ℕ) (text : List ℕ) (at left : ℕ) (rest : List ℕ) (next : ℕ) → left ≤ 0 → Reached set lines text at left rest next → Leads set lines text at next
reached-ends set lines text at left rest next none reached =
    let zeros : 0 ≡ left = omega (arith, none) in reached.leads next (subst (λ n. Leads set n rest next next) zeros refl)

pub reached-begins : (set : Isa) (lines : ℕ) (text : List ℕ) (at : ℕ) → Reached set lines text at lines text at
reached-begins set lines text at = record { within = omega arith; leads = λ address leads. leads }
