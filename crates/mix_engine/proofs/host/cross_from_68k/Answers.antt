use Rattle.std.proofs.Common.{subst}
use Rattle.switch_frame.specs.Records.{isa_of}
use Rattle.mode_switch.specs.Views.{wanted_of}
use Rattle.mixed_machine.specs.Enter.{crosses}
use Rattle.mixed_machine.specs.Machine.{IsWhole}
use Rattle.mix_engine.specs.inner.Cores.{leaves_code}
use Rattle.mix_engine.proofs.Leavings.{does-from, m68-crosses}
use Rattle.mix_engine.proofs.host.cross_from_68k.Goals as goal

pub cross-requires-clause-whole : goal.cross-requires-clause-whole
cross-requires-clause-whole g c = subst (λ w. IsWhole c.args.body.now (isa_of w)) c.in-M68.is c.requires.whole

pub returns-clause-does : goal.returns-clause-does
returns-clause-does g c =
    does-from (λ s. leaves_code c.args.active.now s c.args.fault.now.detail) (λ s. crosses s (wanted_of c.wants_68k.new.wanted)) _ _ _ _ _ _ _ _ _ c.in-M68.is
    (m68-crosses c.body_laws.ensures c.args.body.now c.args.active.now _ c.args.fault.now.detail (wanted_of c.wants_68k.new.wanted) c.requires.whole c.in-M68.is c.requires.word c.wants_68k.ensures.exact)
    c.cross.ensures.does
