-- The condition codes of a number, as bits again.
use Rattle.std.proofs.Common.{ℕ, ◌≡◌, ◌/◌, ◌%◌, ◌==◌, Bool, true, false, arith, refl}
use Rattle.std.proofs.lemmas.Bool.Decides.{nat_tests}
use Rattle.std.specs.Int.{from_bool}
use Rattle.m68_isa.specs.Registers.{ccr_bits, ccr_of}
use Rattle.m68_isa.specs.declared.registers.Ccr.{Ccr}

bit_back : (n : ℕ) → from_bool (n % 2 == 1) ≡ n % 2
bit_back n = grind (arith, nat_tests)

pub read_back : (n : ℕ) → ccr_bits (ccr_of n) ≡ n % 32
read_back n = omega (arith, bit_back (n / 16), bit_back (n / 8), bit_back (n / 4), bit_back (n / 2), bit_back n)

-- each of the 32 sets of condition codes, by the flags from X down
flags_back : (x n z v c : Bool) → ccr_of (ccr_bits (record { x = x; n = n; z = z; v = v; c = c })) ≡ record { x = x; n = n; z = z; v = v; c = c }
flags_back true true true true true = refl
flags_back true true true true false = refl
flags_back true true true false true = refl
flags_back true true true false false = refl
flags_back true true false true true = refl
flags_back true true false true false = refl
flags_back true true false false true = refl
flags_back true true false false false = refl
flags_back true false true true true = refl
flags_back true false true true false = refl
flags_back true false true false true = refl
flags_back true false true false false = refl
flags_back true false false true true = refl
flags_back true false false true false = refl
flags_back true false false false true = refl
flags_back true false false false false = refl
flags_back false true true true true = refl
flags_back false true true true false = refl
flags_back false true true false true = refl
flags_back false true true false false = refl
flags_back false true false true true = refl
flags_back false true false true false = refl
flags_back false true false false true = refl
flags_back false true false false false = refl
flags_back false false true true true = refl
flags_back false false true true false = refl
flags_back false false true false true = refl
flags_back false false true false false = refl
flags_back false false false true true = refl
flags_back false false false true false = refl
flags_back false false false false true = refl
flags_back false false false false false = refl

pub bits_back : (flags : Ccr) → ccr_of (ccr_bits flags) ≡ flags
bits_back flags = flags_back flags.x flags.n flags.z flags.v flags.c
