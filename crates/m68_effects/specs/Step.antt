-- One step of 68K code, whose next instruction is at `pc`: its words are fetched as far as the first one
-- tells (M68000 Family Programmer's Reference Manual, section 4).
use Rattle.std.specs.Prelude.{ℕ, ◌*◌, ◌%◌, ◌==◌, if◌then◌else◌, List, length, slice_index}
use Rattle.mix_bits.specs.declared.fault.FaultKind.{FaultKind}
use Rattle.mix_bits.specs.declared.fault.FaultKind.TheVariants.{Odd, Outside, Vector, Privileged as IsPrivileged, Illegal as IsIllegal}
use Rattle.m68_isa.specs.declared.registers.Regs68.{Regs68}
use Rattle.m68_isa.specs.declared.instructions.Decoded68.{Decoded68}
use Rattle.m68_isa.specs.declared.instructions.Decoded68.TheVariants.{Op, LineA, LineF, Privileged, Illegal, Short}
use Rattle.m68_isa.specs.Decode.{decoded}
use Rattle.big_memory.specs.Memory.{Memory}
use Rattle.mix_bits.specs.Faults.{fault_at}
use Rattle.m68_ea.specs.Words.{words_at}
use Rattle.mix_bits.specs.Addresses.{onward}
use Rattle.big_memory.specs.Steps.{After}
use Rattle.big_memory.specs.Steps.After.{Leaves, Stops}
use Rattle.m68_effects.specs.Parts.{after}
use Rattle.m68_effects.specs.Rows.{effect}

-- the instruction stops with a fault that tells one number
abbrev pub stops : Regs68 → FaultKind → ℕ → After Regs68
stops r kind detail = Stops (fault_at r.pc kind detail)

-- what the words at `pc` are, of which so many lie in memory; a word of line A leaves the set, and one of
-- line F is the exception with vector 11
abbrev pub runs_decoded : Regs68 → Memory → List ℕ → Decoded68 → After Regs68
runs_decoded r m ws (Op i used) = after (effect r m (onward r.pc (2 * used)) i)
runs_decoded r m ws (LineA word) = Leaves word
runs_decoded r m ws LineF = stops r Vector 11
runs_decoded r m ws Privileged = stops r IsPrivileged (slice_index ws 0)
runs_decoded r m ws Illegal = stops r IsIllegal (slice_index ws 0)
runs_decoded r m ws Short = stops r Outside (onward r.pc (2 * length ws))

-- an odd `pc` comes first
unfoldable pub stepped : Regs68 → Memory → After Regs68
stepped r m = if r.pc % 2 == 1 then stops r Odd r.pc else runs_decoded r m (words_at m r.pc) (decoded (words_at m r.pc))
