-- Words 0000 xxx0 that neither name a status register nor work on a place.
use Rattle.std.proofs.Common.{ℕ, ◌≡◌, ◌≢◌, ◌⊎◌, inl, inr, ◌==◌, ◌&&◌, Bool, true, false, refl, arith}
use Rattle.std.proofs.lemmas.Bool.Decides.{nat_tests}
use Rattle.m68_isa.specs.declared.op.Op68.TheVariants.{Illegal}
use Rattle.m68_isa.specs.First.{first_of}
use Rattle.m68_isa.specs.Immediates.{has_logic, is_immediate, is_sized_alterable}
use Rattle.m68_isa.specs.Operations.{operation}

pub apart : (n k : ℕ) → n ≢ k → (n == k) ≡ false
apart n k other = grind (arith, nat_tests, other)

pub never_both : (b c : Bool) → (b ≡ false) ⊎ (c ≡ false) → (b && c) ≡ false
never_both true c (inl is) = cc
never_both false c _ = refl
never_both true c (inr is) = is

upper_of : (u : ℕ) → has_logic u ≡ true → (u ≡ 0) ⊎ (u ≡ 1) ⊎ (u ≡ 5)
upper_of u is = grind (arith, nat_tests, is)

pub no_status : (w : ℕ) → (first_of w).line ≡ 0 → (first_of w).bit8 ≡ 0 → has_logic (first_of w).upper ≡ true → is_sized_alterable (first_of w) ≡ false
    → (((first_of w).size == 0) && is_immediate (first_of w)) ≡ false → (((first_of w).size == 1) && is_immediate (first_of w)) ≡ false
    → Illegal ≡ operation (first_of w)
no_status w line even logic place byte word =
    elim (upper_of (first_of w).upper logic) [
      | inl zero ↦ rw (line, even, zero, place, byte, word) refl
      | inr (inl one) ↦ rw (line, even, one, place, byte, word) refl
      | inr (inr five) ↦ rw (line, even, five, place, byte, word) refl
    ]
