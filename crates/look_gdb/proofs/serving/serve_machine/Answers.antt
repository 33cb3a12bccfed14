use Rattle.std.proofs.Common.{refl}
use Rattle.look_gdb.specs.Serving.ServesFresh.{no_devices}
use Rattle.look_gdb.proofs.serving.serve_machine.Goals as goal

pub returns-in-Ok-clause-serves : goal.returns-in-Ok-clause-serves
returns-in-Ok-clause-serves g c = c.in-Ok.ensures.serves

pub returns-in-Err-clause-serves : goal.returns-in-Err-clause-serves
returns-in-Err-clause-serves g c = no_devices refl c.in-Err.ensures.serves.0 (cc (c.in-Err.ensures.serves.1, c.in-Err.ensures.output))
