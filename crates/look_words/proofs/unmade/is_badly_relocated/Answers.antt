-- A run on zeros at the address 0 is refused where one on a section of its size is anywhere.
use Rattle.std.proofs.Common.{◌≡◌, ◌∙◌, ◌≤◌, length, slice_index, arith}
use Rattle.std.proofs.lemmas.List.{get_or_read}
use Rattle.look_words.proofs.Sizes.{refused_by}
use Rattle.look_words.proofs.unmade.is_badly_relocated.Goals as goal

pub returns-then-index-len-clause-is : goal.returns-then-index-len-clause-is
returns-then-index-len-clause-is c start =
    let read : c.index.result.now ≡ slice_index c.args.sections.now.totals.items c.args.k =
    get_or_read c.args.sections.now.totals.items c.args.k c.index.result.now (omega (arith, c.requires.sizes.long, c.requires.below)) c.index.ensures 0 in
    let low : slice_index c.args.sections.now.totals.items c.args.k ≤ length c.args.ram.now.bytes = omega (arith, read, c.len.ensures.len, c.if-index-len.true) in
    c.is_err.ensures.value ∙ refused_by c.plan_laws.ensures.refusal c.args.pef.now
    c.args.sections.now.bases.items c.args.sections.now.totals.items c.args.sections.now.imports.items c.relocs_by-words.result.now
    c.deref.result.now c.deref-then-index-len.result.now c.deref-then-index-len-2.result.now c.args.k c.args.ram.now c.relocate.result
    c.deref.ensures.value c.deref-then-index-len.ensures.value c.deref-then-index-len-2.ensures.value
    c.requires.sizes c.requires.below c.requires.most low c.relocs_by-words.ensures.is c.relocate.ensures.refusal start
