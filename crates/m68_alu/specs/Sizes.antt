-- The numbers of a size, without a bound.
use Rattle.std.specs.Prelude.{ℕ, ◌==◌, false}
use Rattle.mix_bits.specs.declared.size.Size.{Size}
use Rattle.mix_bits.specs.Signs.{half, is_negative, leaves}
use Rattle.m68_isa.specs.declared.registers.Ccr.{Ccr}

-- N and Z by a result, V and C cleared, X as it was
abbrev pub result_flags : Size → ℕ → Ccr → Ccr
result_flags s value old = record { x = old.x; n = is_negative s value; z = value == 0; v = false; c = false }
