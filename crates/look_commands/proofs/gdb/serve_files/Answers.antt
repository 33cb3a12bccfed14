-- The program that the files make is the one that gdb is served with.
use Rattle.look_commands.proofs.Serving.{loaded}
use Rattle.look_commands.proofs.gdb.serve_files.Goals as goal

pub returns-in-Ok : goal.returns-in-Ok
returns-in-Ok g c = loaded _ _ _ _ _ _ _ c.in-Ok.ensures.is c.serve_program.ensures
