-- What the operation of a first word does, where no word of its instruction is missing
-- (M68000 Family Programmer's Reference Manual, section 4).
use Rattle.std.specs.Prelude.{ℕ, ◌*◌, if◌then◌else◌}
use Rattle.mix_bits.specs.Addresses.{onward}
use Rattle.mix_bits.specs.declared.fault.FaultKind.TheVariants.{Vector, Privileged as IsPrivileged, Illegal as IsIllegal}
use Rattle.m68_isa.specs.declared.registers.Regs68.{Regs68}
use Rattle.m68_isa.specs.declared.found.Found.{Found}
use Rattle.m68_isa.specs.declared.found.Found.TheVariants.{Made, Privileged, Illegal}
use Rattle.m68_isa.specs.First.{first_of}
use Rattle.m68_isa.specs.declared.op.Op68.{Op68}
use Rattle.m68_isa.specs.declared.op.Op68.TheVariants.{LineA, LineF}
use Rattle.m68_isa.specs.Made.{made}
use Rattle.big_memory.specs.Memory.{Memory}
use Rattle.big_memory.specs.Steps.{After}
use Rattle.big_memory.specs.Steps.After.{Leaves}
use Rattle.m68_ea.specs.Words.{words_at}
use Rattle.m68_effects.specs.Parts.{after}
use Rattle.m68_effects.specs.Rows.{effect}
use Rattle.m68_effects.specs.Step.{stops}

-- the instruction that a first word `w` begins, or why there is none
abbrev pub runs_made : Regs68 → Memory → ℕ → Found → After Regs68
runs_made r m w (Made i used good) = if good then after (effect r m (onward r.pc (2 * used)) i) else stops r IsIllegal w
runs_made r m w Privileged = stops r IsPrivileged w
runs_made r m w Illegal = stops r IsIllegal w

abbrev pub by_op : Op68 → Regs68 → Memory → ℕ → After Regs68
by_op LineA r m w = Leaves w
by_op LineF r m w = stops r Vector 11
by_op op r m w = runs_made r m w (made op (first_of w) (words_at m r.pc))
