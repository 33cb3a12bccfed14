use Rattle.std.proofs.Common.{sym, ◌∙◌}
use Rattle.pef_head.proofs.Passed.{sections_are}
use Rattle.pef_head.proofs.container.test_sections.Goals as goal

pub returns-clause-sections : goal.returns-clause-sections
returns-clause-sections c =
    sections_are c.args.bytes.now c.requires
    (rw (← c.section_count-count.ensures) (sym c.bad_section.ensures.is ∙ c.in_default.is))
    (rw (← c.section_count-count.ensures, ← c.instantiated_count.ensures) c.if-count-instantiated_count.false)
