-- NOT (M68000 Family Programmer's Reference Manual, section 4).
use Rattle.std.specs.Prelude.{ℕ, ◌-◌}
use Rattle.mix_bits.specs.declared.size.Size.{Size}
use Rattle.mix_bits.specs.Sizes.{modulus, truncated}
use Rattle.m68_isa.specs.declared.registers.Ccr.{Ccr}
use Rattle.m68_alu.specs.declared.sums.Out.{Out}
use Rattle.m68_alu.specs.Sizes.{result_flags}

-- the ones complement
abbrev pub complement : Size → Ccr → ℕ → Out
complement size old d = let value = modulus size - 1 - truncated d size in record { value = value; ccr = result_flags size value old }
