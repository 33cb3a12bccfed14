use Rattle.mix_load.proofs.Behind.{fork-counted}
use Rattle.mix_load.proofs.Forks.{fork-refuses}
use Rattle.mix_load.proofs.fork.add_fork.Goals as goal

pub returns-in-Ok-clause-is : goal.returns-in-Ok-clause-is
returns-in-Ok-clause-is c =
    fork-counted c.code_count.result c.args.bytes.now c.args.image c.add_resources.result _ c.in-Ok.ensures.is c.add_resources.ensures.is c.code_count.ensures.all c.code_count.ensures.few

pub returns-in-Err-clause-is : goal.returns-in-Err-clause-is
returns-in-Err-clause-is c =
    fork-refuses c.args.bytes.now c.args.image c.in-Err.e c.fork_error.result c.fork_error.ensures.memory c.fork_error.ensures.other c.in-Err.ensures.is
