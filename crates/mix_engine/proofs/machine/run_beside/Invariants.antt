-- Each turn but the last gives up a suspended caller.
use Rattle.std.proofs.Common.{◌≡◌, length}
use Rattle.mixed_machine.specs.Machine.{callers_of}
use Rattle.mix_engine.specs.Beside.{machine_in}
use Rattle.mix_engine.proofs.Ways.{Way}
use Rattle.mix_engine.proofs.machine.run_beside.Given as goal

abbrev pub decreases-turns : goal.decreases-turns
decreases-turns g l = length (callers_of l.body)

abbrev pub invariant-turns : goal.invariant-turns
invariant-turns g l =
    Way 0 l.initial.left l.left
    (machine_in l.initial.body l.initial.active (g.W.World.seen l.initial.world))
    (machine_in l.body l.active (g.W.World.seen l.world))
    × ((g.W.World.seen l.world).lent ≡ (g.W.World.seen l.initial.world).lent)
