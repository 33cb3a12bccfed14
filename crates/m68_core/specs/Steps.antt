-- What `step68` answers (M68000 Family Programmer's Reference Manual, section 4).
use Rattle.std.specs.Prelude.{◌≡◌}
use Rattle.m68_isa.specs.declared.registers.Regs68.{Regs68}
use Rattle.big_memory.specs.Memory.{Memory}
use Rattle.big_memory.specs.Steps.{After}
use Rattle.big_memory.specs.Steps.After.{Goes, Leaves, Stops}
use Rattle.big_memory.specs.StoresClauses.{OnlyFree}
use Rattle.m68_core.specs.declared.step.Out68.{Out68}
use Rattle.m68_core.specs.declared.step.Out68.TheVariants.{Next, Line, Stop}

-- the step from registers r and memory m, to registers next and memory n
abbrev pub Steps : After Regs68 → Out68 → Regs68 → Regs68 → Memory → Memory → Type 0
Steps step Next r next m n = (step ≡ Goes next n) × OnlyFree m n
Steps step (Line word) r next m n = (step ≡ Leaves word) × (next ≡ r) × (n ≡ m)
Steps step (Stop why) r next m n = (step ≡ Stops why) × (next ≡ r) × (n ≡ m)
