-- A run of one step.
use Rattle.std.specs.Prelude.{◌≡◌, ℕ}
use Rattle.switch_frame.specs.Records.{isa_of}
use Rattle.call_trace.specs.declared.end.End.{End}
use Rattle.mixed_machine.specs.State.{State}
use Rattle.mixed_machine.specs.Exec.{How, exec}
use Rattle.mixed_machine.specs.Exec.End.{Ended}
use Rattle.mixed_machine.specs.Endings.{end_of}

-- a run of one step
pub record Steps (s t : State) (end : End) : Type 0 where
  pub left : ℕ
  pub how : How
  pub ends : exec 1 s ≡ Ended how t left
  pub end_is : end ≡ end_of (isa_of t.active) how
