-- Each step goes on, or ends the run.
use Rattle.std.proofs.Common.{arith, refl}
use Rattle.mixed_machine.proofs.Crossings.{count-begins}
use Rattle.mix_top.proofs.Crossings.{counting-on, ran-all, ran-exits, ran-faults}
use Rattle.mix_top.proofs.sample_run.count_crossings.Goals as goal

pub steps-init : goal.steps-init
steps-init c = record { frames = c.live-frames.ensures; whole = c.requires; counting = count-begins _ _ }

pub steps-preserved : goal.steps-preserved
steps-preserved c =
    record {
      frames = c.live-after.ensures;
      whole = c.in-Limit.ensures.whole;
      counting = counting-on _ c.steps.left _ _ _ _ _ c.steps.calls c.steps.returns _ _ _ _ (omega arith) c.steps.invariant.frames c.live-after.ensures c.from-calls.ensures
          c.from-returns.ensures c.steps.invariant.counting c.in-Limit.ensures.step;
    }

pub returns-in-Exit : goal.returns-in-Exit
returns-in-Exit c = ran-exits c.args.steps c.steps.left c.steps.calls c.steps.returns c.in-Exit.code _ _ _ _ (omega arith) refl c.steps.invariant.counting c.in-Exit.ensures.step

pub returns-in-Fault : goal.returns-in-Fault
returns-in-Fault c = ran-faults c.args.steps c.steps.left c.steps.calls c.steps.returns _ c.in-Fault.fault _ _ _ (omega arith) c.steps.invariant.counting c.in-Fault.ensures.step

pub returns : goal.returns
returns c = ran-all c.args.steps c.steps.left c.steps.calls c.steps.returns _ _ (omega arith) c.steps.invariant.counting
