use Rattle.std.proofs.Common.{ap, sym, ◌∙◌}
use Rattle.mix_bits.specs.declared.fault.FaultKind.TheVariants.{StackFull, StackOutside}
use Rattle.big_memory.specs.Memory.{floor_of}
use Rattle.switch_frame.specs.Records.{isa_of}
use Rattle.mixed_machine.specs.Enter.{full_fault}
use Rattle.mixed_machine.specs.Machine.{flat}
use Rattle.mixed_machine.specs.inner.Machine.{seen_of}
use Rattle.switch_frame.specs.Files.{pc_of}
use Rattle.mix_engine.proofs.Doing.{cell-is}
use Rattle.mix_engine.proofs.Framing.{floor-seen}
use Rattle.mix_engine.proofs.refuse.refuse_full.Goals as goal

pub returns-in-Outside-clause-cell : goal.returns-in-Outside-clause-cell
returns-in-Outside-clause-cell c around =
    let body = c.args.body.now in
    let active = c.args.active.now in
    ap (full_fault (flat body active around)) c.in-Outside.is
    ∙ cell-is StackOutside (pc_of active) c.in-Outside.at (floor_of (seen_of body)) c.floor-floor.result c.stop-in-Outside.new.fault
    (floor-seen c.body_laws.ensures body (isa_of active) c.requires ∙ sym c.floor-floor.ensures) c.stop-in-Outside.ensures.cell

pub returns-in-Stack-clause-cell : goal.returns-in-Stack-clause-cell
returns-in-Stack-clause-cell c around =
    let body = c.args.body.now in
    let active = c.args.active.now in
    ap (full_fault (flat body active around)) c.in-Stack.is
    ∙ cell-is StackFull (pc_of active) c.in-Stack.at (floor_of (seen_of body)) c.floor-floor.result c.stop-in-Stack.new.fault
    (floor-seen c.body_laws.ensures body (isa_of active) c.requires ∙ sym c.floor-floor.ensures) c.stop-in-Stack.ensures.cell
