-- What the shared code of an operation leaves, by the size that it is called with.
use Rattle.std.specs.Prelude.{ℕ, ◌+◌}
use Rattle.mix_bits.specs.declared.size.Size.{Size}
use Rattle.m68_isa.specs.declared.registers.Ccr.{Ccr}
use Rattle.m68_isa.specs.declared.registers.Regs68.{Regs68}
use Rattle.m68_isa.specs.declared.instructions.LogicOp.TheVariants.{And as WithAnd, Or as WithOr, Eor as WithEor}
use Rattle.m68_isa.specs.First.{first_of, size_of}
use Rattle.m68_isa.specs.Operands.{immediate_at, immediate_words, operand_at}
use Rattle.m68_alu.specs.declared.sums.Out.{Out}
use Rattle.m68_alu.specs.Sums.{sum, sum_with_x, difference, difference_with_x}
use Rattle.m68_alu.specs.Decimal.{decimal_added, decimal_subtracted}
use Rattle.m68_alu.specs.Logical.{combination}
use Rattle.big_memory.specs.Memory.{Memory}
use Rattle.big_memory.specs.Steps.{After}
use Rattle.m68_ea.specs.Words.{words_at}
use Rattle.m68_effects.specs.declared.operation.Operation.{Operation}
use Rattle.m68_effects.specs.declared.operation.Operation.TheVariants.{Add, Addx, Sub, Subx, Neg, Negx, Abcd, Sbcd, Nbcd, And, Or, Eor, Not}
use Rattle.m68_effects.specs.Logic.{complement}
use Rattle.m68_effects.specs.Parts.{changed, into_data}
use Rattle.m68_effects.specs.laws.Operations.{runs_with}

-- the result of an operation on a destination and a source, which the negations and NOT do without
abbrev pub result_of : Operation → Size → Ccr → ℕ → ℕ → Out
result_of Add size old d s = sum size d s
result_of Addx size old d s = sum_with_x size old d s
result_of Sub size old d s = difference size d s
result_of Subx size old d s = difference_with_x size old d s
result_of Neg size old d s = difference size 0 d
result_of Negx size old d s = difference_with_x size old 0 d
result_of Abcd size old d s = decimal_added d s old
result_of Sbcd size old d s = decimal_subtracted d s old
result_of Nbcd size old d s = decimal_subtracted 0 d old
result_of And size old d s = combination WithAnd size old d s
result_of Or size old d s = combination WithOr size old d s
result_of Eor size old d s = combination WithEor size old d s
result_of Not size old d s = complement size old d

-- an operation with a number on the operand of a first word, of a size, whose words begin with word `first`
abbrev pub changed_at : Size → Operation → ℕ → ℕ → ℕ → Regs68 → Memory → After Regs68
changed_at size op first by w r m =
    let to = operand_at (words_at m r.pc) first size (first_of w).mode (first_of w).lower in
    runs_with r w to (λ next. changed r m next size to.ea (λ d. result_of op size r.ccr d by))

-- the same of the size that the first word tells
abbrev pub changed_by : Operation → ℕ → ℕ → ℕ → Regs68 → Memory → After Regs68
changed_by op first by w r m = changed_at (size_of (first_of w).size) op first by w r m

-- an operation with immediate data, whose words come first, of a size, and of the size that the first word tells
abbrev pub changed_by_data_at : Size → Operation → ℕ → Regs68 → Memory → After Regs68
changed_by_data_at size op w r m = changed_at size op (1 + immediate_words size) (immediate_at (words_at m r.pc) 1 size) w r m

abbrev pub changed_by_data : Operation → ℕ → Regs68 → Memory → After Regs68
changed_by_data op w r m = changed_by_data_at (size_of (first_of w).size) op w r m

-- an operation on the data register and the operand of a first word, of a size, and of the size that it tells
abbrev pub taken_at : Size → Operation → ℕ → Regs68 → Memory → After Regs68
taken_at size op w r m =
    let from = operand_at (words_at m r.pc) 1 size (first_of w).mode (first_of w).lower in
    runs_with r w from (λ next. into_data r m next size from.ea (first_of w).upper (result_of op size r.ccr))

abbrev pub taken_by : Operation → ℕ → Regs68 → Memory → After Regs68
taken_by op w r m = taken_at (size_of (first_of w).size) op w r m
