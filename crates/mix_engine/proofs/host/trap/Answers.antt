use Rattle.std.proofs.Common.{Some, None, refl, ap}
use Rattle.toolbox.specs.Functions.{trap_number}
use Rattle.mixed_machine.specs.Host.{hosts, traps_to}
use Rattle.mixed_machine.specs.Machine.{flat}
use Rattle.mix_engine.proofs.Amid.{acts-from}
use Rattle.mix_engine.proofs.Leavings.{no-trap}
use Rattle.mix_engine.proofs.host.trap.Goals as goal

pub returns-in-Some-clause-does : goal.returns-in-Some-clause-does
returns-in-Some-clause-does g c =
    acts-from (λ s. traps_to s c.args.word (trap_number c.args.word)) (λ s. hosts s c.in-Some.index) _ _ _ _ _ refl
    (λ around. ap (traps_to (flat c.args.body.now c.args.active.now around) c.args.word) (c.trap_laws.ensures c.args.word (Some c.in-Some.index) c.in-Some.ensures)) c.call_function.ensures.does

pub returns-in-None-clause-does : goal.returns-in-None-clause-does
returns-in-None-clause-does g c =
    rw c.no_trap.ensures.did (no-trap c.body_laws.ensures c.args.word _ _ _ _ _ c.requires.whole (c.trap_laws.ensures c.args.word None c.in-None.ensures) c.no_trap.ensures.cell)
