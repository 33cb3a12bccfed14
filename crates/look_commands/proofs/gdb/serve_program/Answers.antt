-- The machine at the start of the program is the one that gdb is served with.
use Rattle.look_commands.specs.Gdb.ServesProgram.{served}
use Rattle.look_commands.proofs.gdb.serve_program.Goals as goal

pub returns-in-Ok : goal.returns-in-Ok
returns-in-Ok g c = served _ c.in-Ok.ensures.state c.serve.ensures
