-- The machine at the program's start ran.
use Rattle.std.proofs.Common.{refl}
use Rattle.mix_top.specs.Ends.ProgramWay.{no_machine, ran}
use Rattle.mix_top.proofs.Ways.{ends-memory, ran-from}
use Rattle.mix_top.proofs.run.run_program.Goals as goal

pub returns-in-Ok-clause-ends : goal.returns-in-Ok-clause-ends
returns-in-Ok-clause-ends g c =
    record { accounted = c.run_machine_beside.ensures.ends.accounted; way = ran (ran-from _ _ _ c.args.steps _ _ _ c.in-Ok.ensures.state c.run_machine_beside.ensures.ends.way) }

pub returns-in-Err-clause-ends : goal.returns-in-Err-clause-ends
returns-in-Err-clause-ends g c = ends-memory _ _ (λ old new result early. no_machine early) _ _ _ _ c.without_steps.ensures.status c.without_steps.ensures.steps refl refl c.close_without_memory.ensures
