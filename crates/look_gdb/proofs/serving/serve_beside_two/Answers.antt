use Rattle.look_gdb.proofs.serving.serve_beside_two.Goals as goal

pub returns-clause-serves : goal.returns-clause-serves
returns-clause-serves g c = c.serve_two.ensures.serves
