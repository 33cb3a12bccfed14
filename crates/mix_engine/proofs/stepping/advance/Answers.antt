use Rattle.std.proofs.Common.{sym, subst}
use Rattle.mix_engine.specs.inner.Cores.{IsNumber}
use Rattle.mix_engine.proofs.Advancing.{advances-gate, advances-leave, advances-next, advances-stop}
use Rattle.mix_engine.proofs.stepping.advance.Goals as goal

pub leave_code-requires-clause-number : goal.leave_code-requires-clause-number
leave_code-requires-clause-number g c =
    subst (λ w. IsNumber w c.run_code.new.fault.detail) (sym c.in-Leave.ensures.codes.last.2) c.in-Leave.ensures.codes.last.1

pub returns-in-Next-clause-does : goal.returns-in-Next-clause-does
returns-in-Next-clause-does g c = advances-next c.body_laws.ensures _ _ _ _ _ _ _ _ c.in-Next.ensures.codes

pub returns-in-Stop-clause-does : goal.returns-in-Stop-clause-does
returns-in-Stop-clause-does g c = advances-stop c.body_laws.ensures _ _ _ _ _ _ _ _ c.in-Stop.ensures.whole c.in-Stop.ensures.codes

pub returns-in-Gate-clause-does : goal.returns-in-Gate-clause-does
returns-in-Gate-clause-does g c = advances-gate c.body_laws.ensures _ _ _ _ _ _ _ _ _ _ (g.W.World.seen c.args.world.now) (g.W.World.seen c.leave.new.world) c.in-Gate.ensures.codes c.leave.ensures.rest c.leave.ensures.does

pub returns-in-Leave-clause-does : goal.returns-in-Leave-clause-does
returns-in-Leave-clause-does g c = advances-leave c.body_laws.ensures _ _ _ _ _ _ _ _ _ _ _ c.in-Leave.ensures.codes c.leave_code.ensures.does
