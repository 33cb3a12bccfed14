use Rattle.std.proofs.Common.{refl, ap}
use Rattle.toolbox.specs.Functions.{trap_number}
use Rattle.mixed_machine.specs.Host.{hosts, traps_to}
use Rattle.mixed_machine.specs.Machine.{flat}
use Rattle.mix_engine.specs.inner.Cores.{leaves_code}
use Rattle.mix_engine.proofs.Amid.{acts-from, amid-seen}
use Rattle.mix_engine.proofs.Leavings.{m68-traps}
use Rattle.mix_engine.proofs.host.leave_code.Goals as goal

pub returns-then-number-eq-MIXED_MODE_MAGIC-clause-does : goal.returns-then-number-eq-MIXED_MODE_MAGIC-clause-does
returns-then-number-eq-MIXED_MODE_MAGIC-clause-does g c =
    amid-seen c.body_laws.ensures (λ s. leaves_code c.args.active.now s c.args.fault.now.detail) _ _ _ _ _ _ (g.W.World.seen c.args.world.now) (g.W.World.seen c.cross_from_68k.new.world)
    c.cross_from_68k.ensures.rest c.cross_from_68k.ensures.does

pub returns-else-number-eq-MIXED_MODE_MAGIC-clause-does : goal.returns-else-number-eq-MIXED_MODE_MAGIC-clause-does
returns-else-number-eq-MIXED_MODE_MAGIC-clause-does g c =
    acts-from (λ s. leaves_code c.args.active.now s c.args.fault.now.detail) (λ s. traps_to s c.args.fault.now.detail (trap_number c.args.fault.now.detail)) _ _ _ _ _
    refl
    (λ around. m68-traps c.args.active.now c.in-M68.field-0 c.args.fault.now.detail (flat c.args.body.now c.args.active.now around) c.in-M68.is c.if-number-eq-MIXED_MODE_MAGIC.false)
    c.trap.ensures.does

pub returns-in-Ppc-clause-does : goal.returns-in-Ppc-clause-does
returns-in-Ppc-clause-does g c =
    acts-from (λ s. leaves_code c.args.active.now s c.args.fault.now.detail) (λ s. hosts s c.args.fault.now.detail) _ _ _ _ _ refl
    (λ around. ap (λ w. leaves_code w (flat c.args.body.now c.args.active.now around) c.args.fault.now.detail) c.in-Ppc.is) c.call_import.ensures.does
