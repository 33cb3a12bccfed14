-- An operation with all its words is what it makes of them.
use Rattle.std.proofs.Common.{ℕ, ◌≡◌, ◌≢◌, ◌≤◌, ◌⊎◌, inl, inr, nat_lt, Bool, true, false, if◌then◌else◌, List, ◌∷◌, length, refl, ap, sym, ◌∙◌, arith}
use Rattle.std.proofs.lemmas.Bool.Decides.{nat_tests}
use Rattle.m68_isa.specs.declared.instructions.Instr68.{Instr68}
use Rattle.m68_isa.specs.declared.instructions.Decoded68.TheVariants.{Op, Short, Illegal as NoInstruction}
use Rattle.m68_isa.specs.declared.found.Found.{Found}
use Rattle.m68_isa.specs.declared.found.Found.TheVariants.{Made, Privileged, Illegal}
use Rattle.m68_isa.specs.Decode.{ended}
use Rattle.m68_isa.specs.Operations.{operation, read}
use Rattle.m68_isa.specs.First.{First, first_of}
use Rattle.m68_isa.specs.declared.op.Op68.{Op68}
use Rattle.m68_isa.specs.declared.op.Op68.TheVariants.{LineA, LineF}
use Rattle.m68_isa.specs.Made.{made}
use Rattle.m68_isa.specs.laws.Needs.{used_by, HasUsed, AreSame, whole, IsKept}
use Rattle.m68_isa.proofs.Used.{keeps}
use Rattle.m68_isa.proofs.ByOperation.{by_operation}

enough : (used count : ℕ) → used ≤ count → nat_lt count used ≡ false
enough used count many = grind (arith, nat_tests)

by_test : (i : Instr68) (used : ℕ) (good missing : Bool) → (if missing then Short else (if good then Op i used else NoInstruction)) ≢ Short → missing ≡ false
by_test i used good true other = absurd (other refl)
by_test i used good false other = refl

ends_whole : (found : Found) (count : ℕ) → HasUsed found → (5 ≤ count) ⊎ (ended found count ≢ Short) → ended found count ≡ whole found
ends_whole (Made i used good) count most (inl many) = rw (enough used count (omega arith)) refl
ends_whole (Made i used good) count most (inr other) = rw (by_test i used good (nat_lt count used) other) refl
ends_whole Privileged count most there = refl
ends_whole Illegal count most there = refl

pub none_missing : (op : Op68) (f : First) (ws : List ℕ) → (5 ≤ length ws) ⊎ (ended (made op f ws) (length ws) ≢ Short) → ended (made op f ws) (length ws) ≡ whole (made op f ws)
none_missing op f ws there = ends_whole (made op f ws) (length ws) (keeps op f ws ws).0 there

-- an operation of neither line A nor line F
pub read_other : (op : Op68) (f : First) (ws : List ℕ) → (op ≡ LineA → ⊥) → (op ≡ LineF → ⊥) → read op f ws ≡ ended (made op f ws) (length ws)
read_other LineA f ws first second = absurd (first refl)
read_other LineF f ws first second = absurd (second refl)
read_other op f ws first second = refl

-- what ends as an instruction was made with all its words
op_of_test : (i j : Instr68) (used n : ℕ) (good missing : Bool) → (if missing then Short else (if good then Op i used else NoInstruction)) ≡ Op j n → (Made i used good ≡ Made j n true)
op_of_test i j used n true true is = cc
op_of_test i j used n false true is = cc
op_of_test i j used n true false is = cc
op_of_test i j used n false false is = cc

made_of : (found : Found) (count : ℕ) (i : Instr68) (used : ℕ) → ended found count ≡ Op i used → found ≡ Made i used true
made_of (Made j n good) count i used is = op_of_test j i n used good (nat_lt count n) is
made_of Privileged count i used is = cc
made_of Illegal count i used is = cc

ended_again : (found again : Found) (count more : ℕ) (ws us : List ℕ) (i : Instr68) (used : ℕ) → (AreSame (used_by found) ws us → again ≡ found) → ended found count ≡ Op i used → AreSame used ws us → used ≤ more → ended again more ≡ Op i used
ended_again found again count more ws us i used keeps is same many =
    let made = made_of found count i used is in
    let alike : again ≡ found = keeps (λ k below. same k (let n = ap used_by made in omega arith)) in
    ap (λ x. ended x more) (alike ∙ made) ∙ rw (enough used more many) refl

read_again : (op : Op68) (f : First) (ws us : List ℕ) (i : Instr68) (used : ℕ) → read op f ws ≡ Op i used → AreSame used ws us → used ≤ length us → read op f us ≡ Op i used
read_again LineA f ws us i used is same many = cc
read_again LineF f ws us i used is same many = cc
read_again op f ws us i used is same many = ended_again (made op f ws) (made op f us) (length ws) (length us) ws us i used (keeps op f ws us).1 is same many

pub kept : (w : ℕ) → IsKept w
kept w ws us i used is same many =
    let f = first_of w in by_operation w us ∙ read_again (operation f) f (w ∷ ws) (w ∷ us) i used (sym (by_operation w ws) ∙ is) same many
