use Rattle.std.proofs.Common.{refl}
use Rattle.toolbox.specs.Host.{host}
use Rattle.mixed_machine.specs.Host.{host_of, hosted_by, hosts, universal}
use Rattle.mixed_machine.specs.Machine.{flat}
use Rattle.mix_engine.proofs.Amid.{acts-from, amid-seen}
use Rattle.mix_engine.proofs.Leavings.{hosts-are, hosts-cross}
use Rattle.mix_engine.proofs.host.call_any.Goals as goal

pub returns-in-Went-clause-does : goal.returns-in-Went-clause-does
returns-in-Went-clause-does g c =
    acts-from (λ s. hosts s c.args.index) (λ s. hosted_by (universal s s.active) s (host c.args.index (host_of s))) _ _ _ _ _ refl
    (λ around. hosts-are (flat c.args.body.now c.args.active.now around) c.args.index) (c.in-Went.ensures.does (λ s. universal s s.active))

pub returns-in-Cross-clause-does : goal.returns-in-Cross-clause-does
returns-in-Cross-clause-does g c =
    acts-from (λ s. hosts s c.args.index) (λ s. universal s s.active c.in-Cross.pointer c.in-Cross.info) _ _ _ _ _ c.in-Cross.ensures.does.1
    (λ around. hosts-cross (flat c.args.body.now c.args.active.now around) c.args.index c.in-Cross.pointer c.in-Cross.info (c.in-Cross.ensures.does.0 around))
    (amid-seen c.body_laws.ensures (λ s. universal s s.active c.in-Cross.pointer c.in-Cross.info) _ _ _ _ _ _ (g.W.World.seen c.call.new.world) (g.W.World.seen c.cross_at.new.world) c.cross_at.ensures.rest c.cross_at.ensures.does)
