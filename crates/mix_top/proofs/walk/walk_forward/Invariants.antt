-- So many steps are done.
use Rattle.std.proofs.Common.{◌≡◌, ◌-◌, ◌≤◌}
use Rattle.mixed_machine.specs.declared.stop.Stop.TheVariants.{Limit}
use Rattle.mix_engine.specs.Beside.{AreSame}
use Rattle.mix_top.specs.Places.{place_beside}
use Rattle.mix_top.proofs.Walking.{GoingAt}
use Rattle.mix_top.proofs.walk.walk_forward.Given as goal

abbrev pub decreases-steps : goal.decreases-steps
decreases-steps g l = l.count - l.done

abbrev pub invariant-steps : goal.invariant-steps
invariant-steps g l = record {
  few : l.done ≤ l.count;
  cell : l.stop ≡ Limit;
  going : GoingAt l.until l.count l.done
      (place_beside g.I.Source.left g.I.Source.faults g.O.Sink.held g.O.Sink.faults g.T.Sink.held g.T.Sink.faults g.D.Devices.state l.initial.debug l.initial.outside)
      (place_beside g.I.Source.left g.I.Source.faults g.O.Sink.held g.O.Sink.faults g.T.Sink.held g.T.Sink.faults g.D.Devices.state l.debug l.outside);
  same : AreSame l.initial.outside l.outside;
}
