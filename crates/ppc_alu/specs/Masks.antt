-- Masks of the rotate instructions: sets of bit places, counted from the most significant bit
-- (PowerPC 601 RISC Microprocessor User's Manual, chapter 10, rlwimi, rlwinm and rlwnm).
use Rattle.std.specs.Prelude.{ℕ, zero, suc, ◌+◌, ◌-◌, ◌*◌, ◌/◌, ◌^◌, ◌==◌, nat_le, Bool, ◌&&◌, ◌||◌, if◌then◌else◌, bit_and, bit_or}
use Rattle.std.specs.Int.{from_bool}

-- whether a place lies from mb to me, going on from 31 to 0 where me is before mb
abbrev pub is_inside : ℕ → ℕ → ℕ → Bool
is_inside mb me place = if nat_le mb me then nat_le mb place && nat_le place me else nat_le mb place || nat_le place me

-- the number whose first k bits a set of places gives
abbrev pub number_of : ℕ → (ℕ → Bool) → ℕ
number_of zero is_set = 0
number_of (suc k) is_set = 2 * number_of k is_set + from_bool (is_set k)

abbrev pub mask_of : ℕ → ℕ → ℕ
mask_of mb me = number_of 32 (is_inside mb me)
