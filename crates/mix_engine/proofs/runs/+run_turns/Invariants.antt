-- The callers are those at entry, and the steps done so far lead from the machine at entry to the machine now. Each call
-- of a callee is made with fewer steps left.
use Rattle.std.proofs.Common.{◌≡◌}
use Rattle.mix_engine.specs.Beside.{machine_in}
use Rattle.mix_engine.proofs.Looping.{Turning}
use Rattle.mix_engine.proofs.runs.+run_turns.Given as goal

abbrev pub decreases-run_turns : goal.decreases-run_turns
decreases-run_turns g l = l.steps.now

abbrev pub decreases-steps : goal.decreases-steps
decreases-steps g l = l.steps

abbrev pub invariant-steps : goal.invariant-steps
invariant-steps g l =
    Turning l.initial.steps l.steps
    (machine_in l.initial.body l.initial.active (g.W.World.seen l.initial.world))
    (machine_in l.body l.active (g.W.World.seen l.world))
    × ((g.W.World.seen l.world).lent ≡ (g.W.World.seen l.initial.world).lent)
