use Rattle.std.proofs.Common.{refl}
use Rattle.look_gdb.specs.Serving.ServesMachine.{no_memory, served}
use Rattle.look_gdb.proofs.serving.serve_beside.Goals as goal

pub returns-in-Ok-clause-serves : goal.returns-in-Ok-clause-serves
returns-in-Ok-clause-serves g c = served c.in-Ok.served c.in-Ok.ensures c.serve.ensures.serves

pub returns-in-Err-clause-serves : goal.returns-in-Err-clause-serves
returns-in-Err-clause-serves g c = no_memory refl refl refl
