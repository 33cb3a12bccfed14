use Rattle.std.proofs.Common.{◌≡◌, ◌∷◌, length, ap, sym, refl, ◌∙◌}
use Rattle.switch_frame.specs.Records.{isa_of}
use Rattle.mix_debug.specs.declared.head.FrameChange.TheVariants.{Stays as FrameStays}
use Rattle.mix_debug.specs.declared.head.BlockChange.TheVariants.{Stays as BlockStays}
use Rattle.mix_debug.specs.Entries.{Entry, within}
use Rattle.mix_debug.specs.Pasts.{entries_in}
use Rattle.mix_debug.specs.inner.Pasts.{ready_in}
use Rattle.mix_debug.specs.WrittenBack.{olds_of}
use Rattle.mix_debug.proofs.Keeping.{copy-kept, entry-is}
use Rattle.mix_debug.proofs.Narrowing.{runs-found}
use Rattle.mix_debug.proofs.Still.{all_same, block-stays, frame-stays, still_entry}
use Rattle.mix_debug.proofs.history.History.keep_stored.Goals as goal

pub returns-then-reach-clause-copied : goal.returns-then-reach-clause-copied
returns-then-reach-clause-copied c =
    sym (all_same c.args.reach c.args.self.now.copy.items c.args.machine.now.body.ram.bytes c.if-reach.true c.requires.stored)

pub returns-then-reach-clause-entries : goal.returns-then-reach-clause-entries
returns-then-reach-clause-entries c =
    let same = all_same c.args.reach c.args.self.now.copy.items c.args.machine.now.body.ram.bytes c.if-reach.true c.requires.stored in
    c.keep_still.ensures.entries c.args.top c.requires.waits
    ∙ ap (λ (e : Entry). within 1048576 (e ∷ entries_in c.args.self.now.past))
    (still_entry (ready_in c.args.self.now.past) c.args.top c.args.self.now.copy.items c.args.self.now.blocks.items c.args.machine.now c.requires.frames (sym (ap length c.requires.blocks)) same)

pub returns-clause-copied : goal.returns-clause-copied
returns-clause-copied c =
    copy-kept c.args.self.now.copy.len c.narrowed-range.result.low c.narrowed-range.result.high c.args.self.now.copy.items c.deref.result.now c.deref_mut.result.now c.bytes-bytes.result.now
    c.args.machine.now.body.ram.bytes c.copy_range.new.copy c.deref.ensures.value c.deref_mut.ensures.value c.bytes-bytes.ensures.is c.requires.copied c.narrowed-range.ensures c.copy_range.ensures (sym c.deref_mut.ensures.len)

pub returns-clause-entries : goal.returns-clause-entries
returns-clause-entries c =
    let low = c.narrowed-range.result.low in
    let high = c.narrowed-range.result.high in
    let ram = c.args.machine.now.body.ram.bytes in
    let file = ready_in c.args.self.now.past in
    let long : length c.args.machine.now.body.heap.blocks ≡ length c.args.self.now.blocks.items = sym (ap length c.requires.blocks) in
    let kept = runs-found low high c.args.self.now.copy.items c.deref.result.now c.deref-3.result.now c.bytes-bytes.result.now ram c.deref.ensures.value c.deref-3.ensures.value c.bytes-bytes.ensures.is c.requires.copied c.narrowed-range.ensures in
    c.keep.ensures.entries
    ∙ ap (λ e. within 1048576 (e ∷ entries_in c.args.self.now.past))
    (entry-is file c.args.top c.args.self.now.copy.items c.args.self.now.blocks.items c.args.machine.now (isa_of file) (isa_of c.args.machine.now.active) FrameStays
    c.args.self.now.blocks.items c.args.machine.now.body.heap.blocks BlockStays _ _ _ refl refl
    (frame-stays c.args.top c.args.machine.now.body.top (isa_of file) (isa_of c.args.machine.now.active) c.requires.frames) refl refl (block-stays c.args.self.now.blocks.items c.args.machine.now.body.heap.blocks long)
    (ap length kept) (ap (λ rs. length (olds_of rs)) kept) kept)

pub returns-then-reach-clause-past : goal.returns-then-reach-clause-past
returns-then-reach-clause-past c = c.keep_still.ensures.past c.args.top c.requires.waits
