-- When a trap instruction traps (PowerPC 601 RISC Microprocessor User's Manual, chapter 10, tw and twi).
use Rattle.std.specs.Prelude.{ℕ, ◌==◌, Bool, true, false, ◌&&◌, ◌||◌}
use Rattle.mix_bits.specs.Digits.{digit_of}
use Rattle.ppc_alu.specs.ConditionBits.{is_less}

-- one of the conditions that TO picks holds: less or greater as signed numbers, equal, less or greater as
-- unsigned numbers, from its first bit to its last
abbrev pub traps_on : ℕ → ℕ → ℕ → Bool
traps_on to a b =
    (digit_of to 4 1 == 1 && is_less true a b)
    || (digit_of to 3 1 == 1 && is_less true b a)
    || (digit_of to 2 1 == 1 && a == b)
    || (digit_of to 1 1 == 1 && is_less false a b)
    || (digit_of to 0 1 == 1 && is_less false b a)
