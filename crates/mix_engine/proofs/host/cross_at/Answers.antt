use Rattle.std.proofs.Common.{refl, subst}
use Rattle.switch_frame.specs.Records.{isa_of}
use Rattle.mode_switch.specs.Views.{wanted_of}
use Rattle.mode_switch.specs.Wanted.Want.{Jumps}
use Rattle.mixed_machine.specs.Enter.{crosses}
use Rattle.mixed_machine.specs.Host.{universal}
use Rattle.mixed_machine.specs.Machine.{IsWhole}
use Rattle.mix_engine.proofs.Leavings.{does-from, m68-universal, ppc-universal}
use Rattle.mix_engine.proofs.host.cross_at.Goals as goal

pub cross-requires-in-Ppc-clause-whole : goal.cross-requires-in-Ppc-clause-whole
cross-requires-in-Ppc-clause-whole g c = subst (λ w. IsWhole c.args.body.now (isa_of w)) c.in-Ppc.is c.requires.whole

pub returns-in-Ppc-clause-does : goal.returns-in-Ppc-clause-does
returns-in-Ppc-clause-does g c =
    does-from (λ s. universal s s.active c.args.pointer c.args.info) (λ s. crosses s (wanted_of c.wants_ppc.new.wanted)) _ _ _ _ _ _ _ _ _ c.in-Ppc.is
    (ppc-universal c.body_laws.ensures c.args.body.now c.args.active.now _ c.args.pointer c.args.info (wanted_of c.wants_ppc.new.wanted) c.requires.whole c.in-Ppc.is c.wants_ppc.ensures.exact)
    c.cross-in-Ppc.ensures.does

pub returns-in-M68-clause-does : goal.returns-in-M68-clause-does
returns-in-M68-clause-does g c =
    does-from (λ s. universal s s.active c.args.pointer c.args.info) (λ s. crosses s (Jumps c.args.pointer)) _ _ _ _ _ _ _ _ _ refl
    (m68-universal c.args.body.now c.args.active.now _ c.args.pointer c.args.info c.in-M68.is) c.cross.ensures.does
