use Rattle.std.proofs.Common.{◌≡◌, length, ap, sym, ◌∙◌}
use Rattle.std.specs.Vec.{with_items}
use Rattle.std.proofs.lemmas.List.{with_items_is}
use Rattle.big_memory.specs.Memory.{Memory}
use Rattle.mix_debug.specs.declared.history.History.{History}
use Rattle.mix_engine.specs.declared.machine.Machine.{Machine}
use Rattle.mix_debug.specs.Entries.{Entry}
use Rattle.mix_debug.specs.inner.Entries.{newest}
use Rattle.mix_debug.specs.Pasts.{entries_in}
use Rattle.mix_debug.proofs.Keeping.{newest-frame, newest-inside, undone-machine, undone-step}
use Rattle.mix_debug.proofs.history.History.undo.Goals as goal

pub take-head-requires-clause-inside : goal.take-head-requires-clause-inside
take-head-requires-clause-inside c = newest-inside (length c.args.machine.now.body.ram.bytes) (entries_in c.args.self.now.past) c.requires.history.entries

pub undo_frame-requires : goal.undo_frame-requires
undo_frame-requires c =
    newest-frame c.args.machine.now.body.ram.bytes c.take-head.new.ram.bytes c.take-head.result (entries_in c.args.self.now.past) (entries_in c.take-head.new.self) c.requires.history.entries c.take-head.ensures.entries
    (ap (λ (m : Memory). m.bytes) c.take-head.ensures.ram)

pub returns-clause-history : goal.returns-clause-history
returns-clause-history c =
    let m : Machine = c.args.machine.now in
    let n : Machine = record {
      active = c.take-head.result.file;
      body = record { ram = c.undo_frame.new.ram; heap = c.undo_blocks.new.heap; top = c.take-head.result.top; a5 = m.body.a5; main = m.body.main; start_sp = m.body.start_sp };
    } in
    let k : History = record { copy = with_items c.args.self.now.copy c.take-head.new.copy; blocks = c.undo_blocks.new.blocks; past = c.take-head.new.self } in
    let e : Entry = record { head = c.take-head.result; runs = newest (entries_in c.args.self.now.past) } in
    let long : length c.take-head.new.copy ≡ c.args.self.now.copy.len = c.take-head.auto.copy ∙ c.deref_mut.ensures.len in
    let is = undone-machine m c.take-head.result (newest (entries_in c.args.self.now.past)) c.take-head.new.ram c.undo_frame.new.ram c.undo_blocks.new.heap c.take-head.ensures.ram c.undo_frame.ensures c.undo_blocks.ensures.after in
    undone-step m n c.args.self.now k e c.requires.history c.take-head.ensures.entries is
    (with_items_is c.args.self.now.copy c.take-head.new.copy long ∙ c.take-head.ensures.copied ∙ sym (ap (λ (r : Memory). r.bytes) c.undo_frame.ensures))
    c.undo_blocks.ensures.blocks c.undo_blocks.ensures.heap c.undo_blocks.ensures.room c.take-head.ensures.past

pub returns-clause-before : goal.returns-clause-before
returns-clause-before c =
    let m : Machine = c.args.machine.now in (
      record { head = c.take-head.result; runs = newest (entries_in c.args.self.now.past) },
      c.take-head.ensures.entries,
      undone-machine m c.take-head.result (newest (entries_in c.args.self.now.past)) c.take-head.new.ram c.undo_frame.new.ram c.undo_blocks.new.heap c.take-head.ensures.ram c.undo_frame.ensures c.undo_blocks.ensures.after,
    )
