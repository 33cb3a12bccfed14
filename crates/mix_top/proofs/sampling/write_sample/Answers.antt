-- The line of the sample, or the want of memory, is a way to end.
use Rattle.std.proofs.Common.{None, refl}
use Rattle.mix_top.specs.Ends.SampleWay.{no_room, sample_ran}
use Rattle.mix_top.proofs.Ways.{accounted-sample, ends-memory, sample-told}
use Rattle.mix_top.proofs.sampling.write_sample.Goals as goal

pub returns-in-Ok-clause-ends : goal.returns-in-Ok-clause-ends
returns-in-Ok-clause-ends g c = λ k.
    record {
      accounted = accounted-sample _ _ c.args.calls c.args.depth c.in-Ok.sampled c.in-Ok.sampled.end _ (record { steps = c.without_steps.ensures.steps; input = refl; rack = refl; trace = refl; keep = refl })
          (sample-told c.args.calls c.args.depth c.in-Ok.sampled c.in-Ok.sampled.end _ _ _ c.without_steps.result c.without_steps.ensures.status c.put_sample.ensures);
      way = sample_ran (record {
        sampled = c.in-Ok.sampled;
        is = c.in-Ok.ensures;
        only = record { steps = c.without_steps.ensures.steps; input = refl; rack = refl; trace = refl; keep = refl };
        out = sample-told c.args.calls c.args.depth c.in-Ok.sampled c.in-Ok.sampled.end _ _ _ c.without_steps.result c.without_steps.ensures.status c.put_sample.ensures;
      });
    }

pub returns-in-Err-clause-ends : goal.returns-in-Err-clause-ends
returns-in-Err-clause-ends g c = λ k. ends-memory None _ (λ old new result early. no_room early) _ _ _ _ c.without_steps-in-Err.ensures.status c.without_steps-in-Err.ensures.steps refl refl c.close_without_memory.ensures
