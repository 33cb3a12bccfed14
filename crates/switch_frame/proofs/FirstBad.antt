-- The first frame that a chain cannot have.
use Rattle.std.proofs.Common.{◌≡◌, inl, inr, ℕ, zero, suc, ◌<◌, ◌≤◌, ◌==◌, Bool, cond, true, false, Result, Ok, Err, IfErr, arith, ap, sym, ◌∙◌, refl}
use Rattle.std.proofs.lemmas.Bool.{cases_Bool}
use Rattle.mix_bits.specs.declared.isa.Isa.{Isa}
use Rattle.mix_bits.specs.Isas.{is_isa}
use Rattle.big_memory.specs.Memory.{Memory}
use Rattle.big_memory.specs.Numbers.{long_at}
use Rattle.switch_frame.specs.Chain.{most_frames}
use Rattle.switch_frame.specs.ChecksClauses.{GoesOn, IsFirstBad, IsWrongAt, inside, outward}
use Rattle.switch_frame.specs.Checks.{caller_at, checked, is_good, walk}
use Rattle.switch_frame.proofs.Found.{checked-none, checked-walks}
use Rattle.switch_frame.proofs.Walks.{walk-bad, walk-ends, walk-last, walk-on}

same_refusal : (x y : ℕ) (r : Result ℕ ℕ) → r ≡ Err x → r ≡ Err y → y ≡ x
same_refusal x y r p q = cc

not_refused : (P : Type 0) (x y : ℕ) (r : Result ℕ ℕ) → r ≡ Ok x → r ≡ Err y → P
not_refused P x y r p q = absurd (cc)

-- a frame before others that go on
goes : (m : Memory) (main callee : Isa) (top place : ℕ) → GoesOn m main callee top
    → ((k : ℕ) → k < place → GoesOn m main (inside m k (caller_at m top) (long_at top m.bytes)) (outward m k (long_at top m.bytes)))
    → (k : ℕ) → k < suc place → GoesOn m main (inside m k callee top) (outward m k top)
goes m main callee top place here rest zero less = here
goes m main callee top place here rest (suc k) less = rest k (omega (arith, less))

-- the frame at `top` is the one
here-bad : (m : Memory) (main : Isa) (most count : ℕ) (callee : Isa) (top lo : ℕ) → walk m main (suc most) count callee top ≡ Err lo → is_good m main callee top ≡ false
    → IsFirstBad m main (suc most) callee top lo
here-bad m main most count callee top lo h fails =
    let at : lo ≡ top = same_refusal top lo (walk m main (suc most) count callee top) (walk-bad m main callee most count top fails) h in
    record { place = zero; within = omega arith; address = at; before = λ k less. absurd (omega (arith, less)); bad = λ less. ap (is_good m main callee) at ∙ fails }

-- it stands outside the frame at `top`
further : (m : Memory) (main : Isa) (most : ℕ) (callee : Isa) (top lo : ℕ) → is_good m main callee top ≡ true → (long_at top m.bytes == 0) ≡ false
    → IsFirstBad m main most (caller_at m top) (long_at top m.bytes) lo → IsFirstBad m main (suc most) callee top lo
further m main most callee top lo good on rest = record {
  place = suc rest.place;
  within = omega (arith, rest.within);
  address = rest.address;
  before = goes m main callee top rest.place (record { good = good; outer = on }) rest.before;
  bad = λ less. rest.bad (omega (arith, less));
}

first-bad : (m : Memory) (main : Isa) (most count : ℕ) (callee : Isa) (top lo : ℕ) → walk m main most count callee top ≡ Err lo → IsFirstBad m main most callee top lo
first-bad m main zero count callee top lo h = record {
  place = zero;
  within = omega arith;
  address = same_refusal top lo (walk m main zero count callee top) (walk-ends m main callee count top) h;
  before = λ k less. absurd (omega (arith, less));
  bad = λ less. absurd (omega (arith, less));
}
first-bad m main (suc most) count callee top lo h =
    elim (cases_Bool (is_good m main callee top)) [
      | inl good ↦ elim (cases_Bool (long_at top m.bytes == 0)) [
        | inl last ↦ not_refused (IsFirstBad m main (suc most) callee top lo) (suc count) lo (walk m main (suc most) count callee top) (walk-last m main callee most count top good last) h
        | inr on ↦ further m main most callee top lo good on
            (first-bad m main most (suc count) (caller_at m top) (long_at top m.bytes) lo (sym (walk-on m main callee most count top good on) ∙ h))
      ]
      | inr fails ↦ here-bad m main most count callee top lo h fails
    ]

-- without a frame
no-frame : (b : Bool) (r : Result ℕ ℕ) (lo : ℕ) → r ≡ cond b (Ok 0) (Err 0) → r ≡ Err lo → (lo ≡ 0) × (b ≡ false)
no-frame true r lo is h = absurd (cc)
no-frame false r lo is h = (cc, refl)

wrong-at : (m : Memory) (top : ℕ) (active main : Isa) (lo : ℕ) → checked m top active main ≡ Err lo → IsWrongAt m top active main lo
wrong-at m top active main lo h = record {
  none = λ none. no-frame (is_isa active main) (checked m top active main) lo (checked-none m top active main none) h;
  some = λ live. first-bad m main most_frames 0 active top lo (sym (checked-walks m top active main live) ∙ h);
}

pub if-wrong : (m : Memory) (top : ℕ) (active main : Isa) (r : Result ℕ ℕ) → r ≡ checked m top active main → IfErr r (λ lo. IsWrongAt m top active main lo)
if-wrong m top active main (Ok count) is = tt
if-wrong m top active main (Err lo) is = wrong-at m top active main lo (sym is)
