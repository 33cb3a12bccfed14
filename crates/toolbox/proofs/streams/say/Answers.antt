-- A piece that is put, and no piece.
use Rattle.toolbox.proofs.Carried.{empty-is, said, said_nothing}
use Rattle.toolbox.proofs.streams.say.Goals as goal

pub returns-then-is_empty-clause-does : goal.returns-then-is_empty-clause-does
returns-then-is_empty-clause-does g c = λ function operands memory heap input rack is.
    said_nothing c.laws.ensures function operands c.one.result memory heap input rack _ c.args.piece.now c.one.ensures is
    (empty-is c.args.piece.now c.is_empty.result c.is_empty.ensures c.if-is_empty.true)

pub returns-in-Ok-clause-does : goal.returns-in-Ok-clause-does
returns-in-Ok-clause-does g c = λ function operands memory heap input rack is.
    said c.laws.ensures function operands c.one-in-Ok.result memory heap input rack _ _ c.args.piece.now c.one-in-Ok.ensures is
    (record { taken = c.in-Ok.ensures.bytes; calm = c.in-Ok.ensures.cause.same })
