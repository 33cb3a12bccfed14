-- AND, OR and EOR.
use Rattle.std.specs.Prelude.{ℕ, bit_and, bit_or, bit_xor}
use Rattle.mix_bits.specs.declared.size.Size.{Size}
use Rattle.mix_bits.specs.Sizes.{truncated}
use Rattle.m68_isa.specs.declared.registers.Ccr.{Ccr}
use Rattle.m68_isa.specs.declared.instructions.LogicOp.{LogicOp}
use Rattle.m68_isa.specs.declared.instructions.LogicOp.TheVariants.{And, Or, Eor}
use Rattle.m68_alu.specs.declared.sums.Out.{Out}
use Rattle.m68_alu.specs.Sizes.{result_flags}

abbrev pub bits_of : LogicOp → ℕ → ℕ → ℕ
bits_of And d s = bit_and d s
bits_of Or d s = bit_or d s
bits_of Eor d s = bit_xor d s

-- the result of values of a size
abbrev pub combined : LogicOp → Size → ℕ → ℕ → Ccr → Out
combined op size d s old = record { value = bits_of op d s; ccr = result_flags size (bits_of op d s) old }

-- destination op source
abbrev pub combination : LogicOp → Size → Ccr → ℕ → ℕ → Out
combination op size old d s = combined op size (truncated d size) (truncated s size) old
