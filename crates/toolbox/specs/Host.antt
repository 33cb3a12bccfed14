-- A host call as a step of the machine.
use Rattle.std.specs.Prelude.{ℕ}
use Rattle.mix_bits.specs.declared.fault.Fault.{Fault}
use Rattle.big_memory.specs.Faults.{fault_of}
use Rattle.switch_frame.specs.declared.active.Active.{Active}
use Rattle.switch_frame.specs.Files.{pc_of}
use Rattle.toolbox.specs.declared.function.Function.{Function}
use Rattle.toolbox.specs.Functions.{function_at}
use Rattle.toolbox.specs.Effects.{Resources, Effects, Effect, effect}
use Rattle.toolbox.specs.Effects.Effect.{Gives, Crosses as CrossesInto, Leaves as LeavesWith, Refuses}
use Rattle.toolbox.specs.Registers.{operands_of, answered}

-- what a host call sees and changes
pub record Host : Type 0 where
  pub active : Active
  pub resources : Resources

-- how it goes on: with effects, by a crossing with a universal pointer and a procInfo, with the program's exit code,
-- or with a fault
pub data Hosted : Type 0 where
  Goes : Host → Effects → Hosted
  Crosses : ℕ → ℕ → Hosted
  Leaves : ℕ → Hosted
  Stops : Fault → Hosted

-- the registers after a function's effect
abbrev pub settled : Function → Active → Effect → Hosted
settled f active (Gives r x effects) = Goes (record { active = answered f x active; resources = r }) effects
settled f active (CrossesInto pointer info) = Crosses pointer info
settled f active (LeavesWith code) = Leaves code
settled f active (Refuses access) = Stops (fault_of (pc_of active) access)

-- a call of a function
abbrev pub calls : Function → Host → Hosted
calls f h = settled f h.active (effect f (operands_of f h.active) h.resources)

-- the call of the function with this number
unfoldable pub host : ℕ → Host → Hosted
host index h = calls (function_at index) h
