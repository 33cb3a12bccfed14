-- The commands before are done.
use Rattle.std.proofs.Common.{length}
use Rattle.mix_engine.specs.Beside.{AreSame}
use Rattle.mix_top.specs.Places.{place_beside}
use Rattle.mix_top.proofs.Telling.{RunningAt}
use Rattle.mix_top.proofs.play.run_script.Given as goal

abbrev pub decreases-commands : goal.decreases-commands
decreases-commands g l = length l.left

abbrev pub invariant-commands : goal.invariant-commands
invariant-commands g l = record {
  running : RunningAt l.initial.left l.left
      (place_beside g.I.Source.left g.I.Source.faults g.O.Sink.held g.O.Sink.faults g.T.Sink.held g.T.Sink.faults g.D.Devices.state l.initial.debug l.initial.outside)
      (place_beside g.I.Source.left g.I.Source.faults g.O.Sink.held g.O.Sink.faults g.T.Sink.held g.T.Sink.faults g.D.Devices.state l.debug l.outside);
  same : AreSame l.initial.outside l.outside;
}
