-- A machine in memory: the state that it stands for, and what its parts have to satisfy.
use Rattle.std.specs.Prelude.{◌≡◌, ℕ, List, length}
use Rattle.mix_bits.specs.declared.isa.Isa.{Isa}
use Rattle.switch_frame.specs.declared.active.Active.{Active}
use Rattle.switch_frame.specs.Records.{Record}
use Rattle.switch_frame.specs.Chain.{Chain, records, cleared}
use Rattle.switch_frame.specs.Calls.{IsOutermost, active_set}
use Rattle.switch_frame.specs.Program.{HasGatePage, HasHeap, start_sp_of}
use Rattle.toolbox.specs.Effects.{Around}
use Rattle.mixed_machine.specs.declared.body.Body.{Body}
use Rattle.mixed_machine.specs.State.{State}

-- the suspended callers, as the frames in memory tell them, the innermost first
unfoldable pub callers_of : Body → List Record
callers_of b = records b.ram.bytes b.top

-- the memory beside their frames
unfoldable pub memory_of : Body → List ℕ
memory_of b = cleared b.ram.bytes (callers_of b)

-- the state that a machine stands for beside the outside: it is read from the machine alone
abbrev pub flat : Body → Active → Around → State
flat b active around =
    record {
      memory = memory_of b;
      active = active;
      callers = callers_of b;
      heap = b.heap;
      around = around;
      main = b.main;
      a5 = b.a5;
      start_sp = b.start_sp;
    }

-- a whole machine while a set is active: its suspended callers stand in a whole chain of frames
pub record IsWhole (b : Body) (set : Isa) : Type 0 where
  pub chain : Chain b.ram b.top (callers_of b)
  pub active : set ≡ active_set b.main (callers_of b)
  pub outermost : IsOutermost b.main (callers_of b)
  pub page : HasGatePage b.a5 (memory_of b)
  pub start : b.start_sp ≡ start_sp_of b.main (length b.ram.bytes)
  pub heap : HasHeap b.heap.low b.heap.high b.ram
