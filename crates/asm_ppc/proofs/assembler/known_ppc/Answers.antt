-- The line gives a word, so it is the one that it spells.
use Rattle.std.proofs.Common.{sym, ap, ◌∙◌}
use Rattle.asm_ppc.specs.Reading.{read}
use Rattle.asm_ppc.specs.inner.Spelling.{spelled}
use Rattle.asm_ppc.specs.inner.Table.{looked_up}
use Rattle.asm_ppc.proofs.Complete.{known_entry, known_word}
use Rattle.asm_ppc.proofs.assembler.known_ppc.Goals as goal

pub returns-in-None : goal.returns-in-None
returns-in-None c = known_entry c.args.line.now c.args.at c.ranges.at.fits c.requires (sym (ap looked_up c.split_name.ensures.name) ∙ sym c.in-None.ensures)

pub returns-in-Some : goal.returns-in-Some
returns-in-Some c =
    known_word c.args.line.now c.args.at c.in-Some.spelling _ c.ranges.at.fits c.requires (sym (ap looked_up c.split_name.ensures.name) ∙ sym c.in-Some.ensures)
    (c.spell.ensures ∙ ap (λ n. spelled c.in-Some.spelling n c.args.at) (c.read.ensures ∙ ap read c.split_name.ensures.rest))
