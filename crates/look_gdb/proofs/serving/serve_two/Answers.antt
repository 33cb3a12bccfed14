use Rattle.look_gdb.specs.Serving.ServesFresh.{beside}
use Rattle.look_gdb.proofs.serving.serve_two.Goals as goal

pub returns-clause-serves : goal.returns-clause-serves
returns-clause-serves g c = beside (g.D.Devices.state c.args.devices) c.requires.fresh c.serve_beside.ensures.serves
