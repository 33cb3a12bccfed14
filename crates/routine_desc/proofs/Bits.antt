-- A flag is a bit.
use Rattle.std.proofs.Common.{◌≡◌, ℕ, ◌==◌, true, arith}
use Rattle.std.specs.Int.RustNames.{bit_and}
use Rattle.std.proofs.lemmas.Bool.Decides.{nat_tests}
use Rattle.std.proofs.lemmas.Nat.Bits.{and_pow}
use Rattle.routine_desc.specs.Layout.{has_flag}
use Rattle.routine_desc.specs.LayoutClauses.{is_flag}

pub bit-test : (flags flag : ℕ) → is_flag flag ≡ true → (bit_and flags flag == flag) ≡ has_flag flags flag
bit-test flags flag is =
    grind (arith, nat_tests, and_pow flags 0, and_pow flags 1, and_pow flags 2, and_pow flags 3, and_pow flags 4, and_pow flags 5)
