-- A text is put, or a front of it.
use Rattle.std.proofs.Common.{inl, inr, refl}
use Rattle.look_commands.proofs.said.print.Goals as goal

pub returns-in-Ok : goal.returns-in-Ok
returns-in-Ok g c = inl (refl, c.in-Ok.ensures.bytes)

pub returns-in-Err : goal.returns-in-Err
returns-in-Err g c = inr (refl, c.in-Err.ensures.bytes)
