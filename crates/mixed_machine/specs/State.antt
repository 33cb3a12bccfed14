-- The state of the machine between two steps. What it has put out and traced is no part of it.
use Rattle.std.specs.Prelude.{ℕ, List}
use Rattle.mix_bits.specs.declared.isa.Isa.{Isa}
use Rattle.big_memory.specs.Memory.{Memory}
use Rattle.switch_frame.specs.declared.active.Active.{Active}
use Rattle.switch_frame.specs.Records.{Record}
use Rattle.switch_frame.specs.Chain.{cleared}
use Rattle.switch_frame.specs.Seen.{seen_by}
use Rattle.host_heap.specs.Space.{Space}
use Rattle.toolbox.specs.Effects.{Around}

pub record State : Type 0 where
  -- the bytes of RAM from address 0 on, beside the switch frames: 0 where a frame is live
  pub memory : List ℕ
  -- the registers of the active set
  pub active : Active
  -- the suspended callers, the innermost first
  pub callers : List Record
  -- the heap's bounds and blocks
  pub heap : Space
  -- what the outside still holds: input, devices, their journal and their answers
  pub around : Around
  -- the instruction set of the main program
  pub main : Isa
  -- the A5 of the program's 68K code
  pub a5 : ℕ
  -- the stack pointer with which the main program is to reach its exit gate
  pub start_sp : ℕ

-- memory as loads and stores see it: a frame's image in its range, which is guarded
abbrev pub seen : State → Memory
seen s = seen_by s.memory s.callers

-- the state with memory that is seen so; no store changes a frame
abbrev pub with_seen : Memory → State → State
with_seen m s = record s { memory = cleared m.bytes s.callers }

-- the state with other registers
abbrev pub with_active : Active → State → State
with_active active s = record s { active = active }
