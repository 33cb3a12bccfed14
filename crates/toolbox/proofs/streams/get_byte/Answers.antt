-- The byte, or the end.
use Rattle.std.proofs.Common.{◌∙◌, ap}
use Rattle.toolbox.specs.Effects.{results}
use Rattle.toolbox.proofs.Carried.{took, took_end}
use Rattle.toolbox.proofs.streams.get_byte.Goals as goal

pub returns-in-Ok-Some : goal.returns-in-Ok-Some
returns-in-Ok-Some g c = λ operands memory heap rack out.
    took c.laws.ensures operands c.one.result memory heap rack out _ _ _ _ c.in-Ok-Some.byte
    (c.one.ensures ∙ ap (λ n. results n 0) c.from.ensures) (rw c.in-Ok-Some.field-0-is at c.in-Ok-Some.ensures.bytes) c.in-Ok-Some.ensures.cause.same

pub returns-in-Ok-None : goal.returns-in-Ok-None
returns-in-Ok-None g c = λ operands memory heap rack out.
    let told = rw c.in-Ok-None.field-0-is at c.in-Ok-None.ensures.bytes in
    took_end c.laws.ensures operands c.at_end.result memory heap rack out _ _ _ _ c.at_end.ensures told.0 told.1 c.in-Ok-None.ensures.cause.same
