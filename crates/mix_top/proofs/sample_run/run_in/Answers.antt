-- The machine starts as its program does.
use Rattle.std.proofs.Common.{subst}
use Rattle.mix_top.specs.Samples.{CountedRun, nothing}
use Rattle.mix_top.proofs.sample_run.run_in.Goals as goal

pub returns : goal.returns
returns c =
    record {
      program = c.in_ok-program.program;
      loaded = c.in_ok-program.ensures.is;
      ran = subst (λ s. CountedRun c.args.steps s c.count_crossings.result) (c.in_ok-machine.ensures.state nothing) c.count_crossings.ensures;
    }
