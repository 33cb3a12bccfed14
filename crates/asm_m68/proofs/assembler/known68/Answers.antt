-- The line gives words, so they are those that it spells.
use Rattle.std.proofs.Common.{sym, ap, ◌∙◌}
use Rattle.asm_m68.specs.laws.Table.{form_of}
use Rattle.asm_m68.specs.laws.Operands.{read_all}
use Rattle.asm_m68.specs.laws.Spelling.{spelled}
use Rattle.asm_m68.proofs.Complete.{known_form, known_words}
use Rattle.asm_m68.proofs.assembler.known68.Goals as goal

pub returns-in-None-clause-words : goal.returns-in-None-clause-words
returns-in-None-clause-words c = known_form c.args.line.now c.args.at c.ranges.at.fits c.requires (sym (ap form_of c.split_name.ensures.name) ∙ sym c.in-None.ensures.form)

pub returns-in-Some-clause-words : goal.returns-in-Some-clause-words
returns-in-Some-clause-words c =
    known_words c.args.line.now c.args.at c.in-Some.form _ c.ranges.at.fits c.requires (sym (ap form_of c.split_name.ensures.name) ∙ sym c.in-Some.ensures.form)
    (c.spell.ensures.words ∙ ap (spelled c.in-Some.form c.args.at) (c.read_operands.ensures ∙ ap read_all c.split_name.ensures.rest))
