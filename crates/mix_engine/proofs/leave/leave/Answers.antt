use Rattle.std.proofs.Common.{◌∙◌, ap, sym}
use Rattle.switch_frame.specs.CallsClauses.{innermost}
use Rattle.mixed_machine.specs.Machine.{callers_of}
use Rattle.mix_engine.proofs.Framing.{callers-are, links-are}
use Rattle.mix_engine.proofs.Returning.{first-is}
use Rattle.mix_engine.proofs.leave.leave.Goals as goal

pub top-requires : goal.top-requires
top-requires g c = links-are c.args.body.now c.requires.chain

pub leave_callee-requires-clause-first : goal.leave_callee-requires-clause-first
leave_callee-requires-clause-first g c =
    let body = c.args.body.now in first-is c.in-Some.held (callers_of body) (sym c.in-Some.is ∙ c.top.ensures.value ∙ ap innermost (sym (callers-are body)))

pub returns-in-None-clause-does : goal.returns-in-None-clause-does
returns-in-None-clause-does g c = c.leave_program.ensures (g.W.World.seen c.args.world.now).trace
