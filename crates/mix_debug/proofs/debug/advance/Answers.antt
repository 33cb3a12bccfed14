use Rattle.std.proofs.Common.{◌≡◌, ◌∙◌, ◌∷◌, Bool, true, false, ap, sym, subst, refl}
use Rattle.switch_frame.specs.Records.{isa_of}
use Rattle.switch_frame.specs.declared.active.Active.{Active}
use Rattle.mixed_machine.specs.declared.stop.Stop.{Stop}
use Rattle.mixed_machine.specs.declared.stop.Stop.TheVariants.{Exit, Fault, Limit, ReadFault, OutFault, TraceFault}
use Rattle.mix_engine.specs.Ends.{goes_on}
use Rattle.mix_debug.specs.Entries.{within}
use Rattle.mix_debug.specs.Histories.{IsHistory}
use Rattle.mix_debug.specs.inner.Histories.{KeepsBeside, entry_of}
use Rattle.mix_debug.specs.CostsClauses.{cost_between, fitting}
use Rattle.mix_debug.specs.Machines.{earlier}
use Rattle.mix_debug.specs.Pasts.{entries_in}
use Rattle.mix_debug.specs.TrailsClauses.{is_done}
use Rattle.mix_debug.proofs.Keeping.{KeptStep, kept-step, long-kept, prepared, same-history}
use Rattle.mix_debug.proofs.Guarding.{top-small}
use Rattle.mix_debug.proofs.Reached.{same-kept, stored-by_run, stored-kept}
use Rattle.mix_debug.proofs.Stepping.{followed, still}
use Rattle.mix_debug.proofs.debug.advance.Goals as goal

pub keep-requires-clause-copied : goal.keep-requires-clause-copied
keep-requires-clause-copied g c =
    let ready : IsHistory c.args.machine.now c.prepare.new.self =
    prepared c.args.machine.now c.args.history.now c.prepare.new.self c.requires.history c.prepare.ensures.beside c.prepare.ensures.past c.prepare.ensures.entries in
    long-kept c.args.machine.now c.step_beside-on.new.m c.prepare.new.self ready c.step_beside-on.ensures.whole (followed _ _ c.step_beside-on.new.stop (sym c.is_done.ensures ∙ c.if-is_done.true) c.step_beside-on.ensures.run)

pub keep-requires-clause-stored : goal.keep-requires-clause-stored
keep-requires-clause-stored g c =
    let ready : IsHistory c.args.machine.now c.prepare.new.self =
    prepared c.args.machine.now c.args.history.now c.prepare.new.self c.requires.history c.prepare.ensures.beside c.prepare.ensures.past c.prepare.ensures.entries in
    stored-kept c.args.machine.now.body c.step_beside-on.new.m.body c.args.machine.now.active c.step_beside-on.new.m.active c.stores_of-next.result c.prepare.new.self.blocks.items c.prepare.new.self.copy.items
    ready.copied ready.blocks ready.heap c.stores_of-next.ensures
    (stored-by_run _ _ c.step_beside-on.new.stop (sym c.is_done.ensures ∙ c.if-is_done.true) c.requires.history.whole c.step_beside-on.ensures.whole c.step_beside-on.ensures.run)

pub keep-requires-clause-same_blocks : goal.keep-requires-clause-same_blocks
keep-requires-clause-same_blocks g c =
    let ready : IsHistory c.args.machine.now c.prepare.new.self =
    prepared c.args.machine.now c.args.history.now c.prepare.new.self c.requires.history c.prepare.ensures.beside c.prepare.ensures.past c.prepare.ensures.entries in
    same-kept c.args.machine.now.body.heap c.step_beside-on.new.m.body.heap c.prepare.new.self.blocks.items c.requires.history.heap ready.blocks
    (followed _ _ c.step_beside-on.new.stop (sym c.is_done.ensures ∙ c.if-is_done.true) c.step_beside-on.ensures.run).heap

pub keep-requires-clause-room : goal.keep-requires-clause-room
keep-requires-clause-room g c =
    (prepared c.args.machine.now c.args.history.now c.prepare.new.self c.requires.history c.prepare.ensures.beside c.prepare.ensures.past c.prepare.ensures.entries).room

pub keep-requires-clause-old_small : goal.keep-requires-clause-old_small
keep-requires-clause-old_small g c = top-small c.args.machine.now.body (isa_of c.args.machine.now.active) c.requires.history.whole

pub keep-requires-clause-new_small : goal.keep-requires-clause-new_small
keep-requires-clause-new_small g c = top-small c.step_beside-on.new.m.body (isa_of c.step_beside-on.new.m.active) c.step_beside-on.ensures.whole

pub returns-then-is_done-clause-step : goal.returns-then-is_done-clause-step
returns-then-is_done-clause-step g c =
    let ready : IsHistory c.args.machine.now c.prepare.new.self =
    prepared c.args.machine.now c.args.history.now c.prepare.new.self c.requires.history c.prepare.ensures.beside c.prepare.ensures.past c.prepare.ensures.entries in
    let kept : KeptStep c.args.machine.now c.step_beside-on.new.m c.prepare.new.self c.keep.new.self =
    kept-step c.args.machine.now c.step_beside-on.new.m c.prepare.new.self c.keep.new.self ready c.step_beside-on.ensures.whole
    (followed _ _ c.step_beside-on.new.stop (sym c.is_done.ensures ∙ c.if-is_done.true) c.step_beside-on.ensures.run)
    c.keep.ensures.copied c.keep.ensures.blocks c.keep.ensures.heap c.keep.ensures.room c.keep.ensures.past
    (c.keep.ensures.entries ∙ ap (λ (f : Active). within 1048576 (entry_of f c.args.machine.now.body.top c.prepare.new.self.copy.items c.prepare.new.self.blocks.items c.step_beside-on.new.m ∷ entries_in c.prepare.new.self.past)) c.prepare.ensures.ready) in
    record {
      whole = c.step_beside-on.ensures.whole;
      history = kept.history;
      run = c.step_beside-on.ensures.run;
      blames = c.step_beside-on.ensures.blames;
      devices = c.step_beside-on.ensures.devices;
      keeps = subst (λ (b : Bool). KeepsBeside b c.args.machine.now c.step_beside-on.new.m c.args.history.now c.keep.new.self) (sym (sym c.is_done.ensures ∙ c.if-is_done.true))
          (kept.kept ∙ ap (λ es. fitting 1048576 (record { machine = c.args.machine.now; cost = cost_between c.args.machine.now c.step_beside-on.new.m } ∷ earlier c.args.machine.now es)) c.prepare.ensures.entries);
    }

pub returns-else-is_done-clause-step : goal.returns-else-is_done-clause-step
returns-else-is_done-clause-step g c =
    let ready : IsHistory c.args.machine.now c.prepare.new.self =
    prepared c.args.machine.now c.args.history.now c.prepare.new.self c.requires.history c.prepare.ensures.beside c.prepare.ensures.past c.prepare.ensures.entries in
    let same : c.step_beside-on.new.m ≡ c.args.machine.now =
    still c.args.machine.now c.step_beside-on.new.m _ _ c.step_beside-on.new.stop refl refl refl refl (sym c.is_done.ensures ∙ c.if-is_done.false) c.requires.history.whole c.step_beside-on.ensures.whole c.step_beside-on.ensures.run in
    record {
      whole = c.step_beside-on.ensures.whole;
      history = same-history c.args.machine.now c.step_beside-on.new.m c.prepare.new.self same ready;
      run = c.step_beside-on.ensures.run;
      blames = c.step_beside-on.ensures.blames;
      devices = c.step_beside-on.ensures.devices;
      keeps = subst (λ (b : Bool). KeepsBeside b c.args.machine.now c.step_beside-on.new.m c.args.history.now c.prepare.new.self) (sym (sym c.is_done.ensures ∙ c.if-is_done.false)) (same, c.prepare.ensures.entries);
    }
