-- So many steps are taken back.
use Rattle.std.proofs.Common.{◌-◌, ◌≤◌}
use Rattle.toolbox.specs.Effects.{Around}
use Rattle.mix_top.specs.Debuggers.{session_of}
use Rattle.mix_top.proofs.Walking.{Backing}
use Rattle.mix_top.proofs.walk.walk_back.Given as goal

abbrev pub decreases-taken : goal.decreases-taken
decreases-taken l = l.count - l.done

abbrev pub invariant-taken : goal.invariant-taken
invariant-taken l = record {
  few : l.done ≤ l.count;
  backing : (around : Around) → Backing l.count l.done (session_of l.initial.debug around) (session_of l.debug around);
}
