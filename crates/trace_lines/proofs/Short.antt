-- Texts that are too short for a number.
use Rattle.std.proofs.Common.{◌≡◌, ℕ, ◌<◌, ◌&&◌, ◌==◌, List, length, take, Bool, true, false, Some, None, if◌then◌else◌, arith, refl}
use Rattle.std.proofs.lemmas.Bool.Decides.{nat_tests}
use Rattle.std.proofs.lemmas.List.{length-take}
use Rattle.mix_bits.specs.Numbers.{hexadecimal_number}
use Rattle.trace_lines.specs.inner.Pieces.{hex_front}

fails : (b c : Bool) (n : ℕ) → b ≡ false → (if b && c then Some n else None) ≡ None
fails true c n is = absurd (cc)
fails false c n is = refl

differ : (m n : ℕ) → m < n → (m == n) ≡ false
differ m n less = grind (arith, nat_tests)

pub short_hex : (digits : ℕ) (text : List ℕ) → length text < digits → hex_front digits text ≡ None
unfolding hexadecimal_number
short_hex digits text short = fails _ _ _ (differ (length (take digits text)) digits (omega (arith, length-take digits text)))
