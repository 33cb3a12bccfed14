-- What a step of PowerPC code answers. The answers are this project's own.
use Rattle.std.specs.Prelude.{◌≡◌}
use Rattle.big_memory.specs.Memory.{Memory}
use Rattle.big_memory.specs.StoresClauses.{OnlyFree}
use Rattle.big_memory.specs.Steps.{After}
use Rattle.big_memory.specs.Steps.After.{Goes, Leaves, Stops}
use Rattle.ppc_isa.specs.declared.registers.RegsPpc.{RegsPpc}
use Rattle.ppc_core.specs.declared.step.OutPpc.{OutPpc}
use Rattle.ppc_core.specs.declared.step.OutPpc.TheVariants.{Next, Host, Stop}

-- a call that does the step, from registers r and memory m to registers next and memory n. Where the step
-- goes on, memory has changed at most where a store may change it; elsewhere nothing has changed
abbrev pub Steps : After RegsPpc → OutPpc → RegsPpc → RegsPpc → Memory → Memory → Type 0
Steps step Next r next m n = (step ≡ Goes next n) × OnlyFree m n
Steps step (Host k) r next m n = (step ≡ Leaves k) × (next ≡ r) × (n ≡ m)
Steps step (Stop fault) r next m n = (step ≡ Stops fault) × (next ≡ r) × (n ≡ m)
