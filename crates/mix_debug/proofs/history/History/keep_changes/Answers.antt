use Rattle.std.proofs.Common.{◌∷◌, length, ap, sym, ◌∙◌}
use Rattle.mix_debug.specs.Entries.{within}
use Rattle.mix_debug.specs.Pasts.{entries_in}
use Rattle.mix_debug.specs.inner.Pasts.{ready_in}
use Rattle.mix_debug.specs.WrittenBack.{olds_of}
use Rattle.mix_debug.proofs.Keeping.{copy-kept, entry-is}
use Rattle.mix_debug.proofs.Narrowing.{runs-found}
use Rattle.mix_debug.proofs.history.History.keep_changes.Goals as goal

pub returns-clause-copied : goal.returns-clause-copied
returns-clause-copied c =
    copy-kept c.args.self.now.copy.len c.narrowed-range.result.low c.narrowed-range.result.high c.args.self.now.copy.items c.deref-2.result.now c.deref_mut.result.now c.bytes-bytes.result.now
    c.args.machine.now.body.ram.bytes c.copy_range.new.copy c.deref-2.ensures.value c.deref_mut.ensures.value c.bytes-bytes.ensures.is c.requires.copied c.narrowed-range.ensures c.copy_range.ensures (sym c.deref_mut.ensures.len)

pub returns-clause-entries : goal.returns-clause-entries
returns-clause-entries c =
    let low = c.narrowed-range.result.low in
    let high = c.narrowed-range.result.high in
    let ram = c.args.machine.now.body.ram.bytes in
    let kept = runs-found low high c.args.self.now.copy.items c.deref-2.result.now c.deref-4.result.now c.bytes-bytes.result.now ram c.deref-2.ensures.value c.deref-4.ensures.value c.bytes-bytes.ensures.is c.requires.copied c.narrowed-range.ensures in
    c.keep.ensures.entries
    ∙ ap (λ e. within 1048576 (e ∷ entries_in c.args.self.now.past))
    (entry-is (ready_in c.args.self.now.past) c.args.top c.args.self.now.copy.items c.args.self.now.blocks.items c.args.machine.now c.ready_isa-set.result c.isa.result c.frame_between-frame.result
    c.deref.result.now c.blocks-2.result.now c.block_between-block.result _ _ _
    c.ready_isa-set.ensures c.isa.ensures c.frame_between-frame.ensures c.deref.ensures.value c.blocks-2.ensures c.block_between-block.ensures
    (ap length kept) (ap (λ rs. length (olds_of rs)) kept) kept)
