-- Words as signed numbers, without a bound: two's complement
-- (PowerPC 601 RISC Microprocessor User's Manual, chapter 2).
use Rattle.std.specs.Prelude.{ℕ, ℤ, Bool}
use Rattle.mix_bits.specs.Sizes.{signed_of}
use Rattle.mix_bits.specs.Signs.{is_negative as is_negative_of, leaves}
use Rattle.mix_bits.specs.declared.size.Size.TheVariants.{Four}

-- the signed number that a word is
abbrev pub signed : ℕ → ℤ
signed word = signed_of word Four

abbrev pub is_negative : ℕ → Bool
is_negative word = is_negative_of Four word

-- whether a number is no signed word
abbrev pub leaves_word : ℤ → Bool
leaves_word z = leaves Four z
