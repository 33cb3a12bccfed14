-- Moves of a known size.
use Rattle.std.specs.Prelude.{ℕ, ◌&&◌}
use Rattle.mix_bits.specs.declared.size.Size.{Size}
use Rattle.m68_isa.specs.declared.registers.Regs68.{Regs68}
use Rattle.m68_isa.specs.declared.instructions.Instr68.TheVariants.{Move}
use Rattle.m68_isa.specs.declared.found.Found.TheVariants.{Made}
use Rattle.m68_isa.specs.First.{first_of}
use Rattle.m68_isa.specs.Moves.{move_mode}
use Rattle.m68_isa.specs.Operands.{operand_at}
use Rattle.big_memory.specs.Memory.{Memory}
use Rattle.big_memory.specs.Steps.{After}
use Rattle.m68_ea.specs.Words.{words_at}
use Rattle.m68_effects.specs.laws.Ops.{runs_made}

-- a move of this size from an operand to another one, each a mode and a register
abbrev pub moved : Size → ℕ × ℕ → ℕ × ℕ → Regs68 → Memory → ℕ → After Regs68
moved size from to r m word =
    let source = operand_at (words_at m r.pc) 1 size from.0 from.1 in
    let target = operand_at (words_at m r.pc) source.next size to.0 to.1 in
    runs_made r m word (Made (Move size source.ea target.ea) target.next (source.good && target.good))

-- a move of this size between the operands of its first word
abbrev pub moves : Size → Regs68 → Memory → ℕ → After Regs68
moves size r m word =
    let f = first_of word in
    moved size (f.mode, f.lower) (move_mode f, f.upper) r m word
