-- The first section that is refused is the least one.
use Rattle.std.proofs.Common.{◌≡◌, ◌∙◌, ap, arith}
use Rattle.std.specs.Prelude.{is_some}
use Rattle.pef_head.specs.Parts.{SectionParts}
use Rattle.mix_load.specs.Sections.{pattern_refusal}
use Rattle.look_words.specs.inner.Unmade.{is_badly_packed}
use Rattle.look_words.proofs.Firsts.{first_at, none_more, none_to}
use Rattle.look_words.proofs.unmade.badly_packed.Goals as goal

pub loop-k-preserved : goal.loop-k-preserved
loop-k-preserved c =
    none_more (is_badly_packed c.args.pef.now) c.loop-k.k c.in_ok-is_badly_packed.field-0 c.loop-k.invariant
    (c.in_ok-is_badly_packed.ensures ∙ ap (λ (s : SectionParts). is_some (pattern_refusal s)) c.section.ensures.is) c.if-branch.false

pub returns-then-branch-clause-is : goal.returns-then-branch-clause-is
returns-then-branch-clause-is c =
    first_at (is_badly_packed c.args.pef.now) c.args.count c.loop-k.k c.in_ok-is_badly_packed.field-0 c.loop-k-test.true c.loop-k.invariant
    (c.in_ok-is_badly_packed.ensures ∙ ap (λ (s : SectionParts). is_some (pattern_refusal s)) c.section.ensures.is) c.if-branch.true

pub returns-clause-is : goal.returns-clause-is
returns-clause-is c =
    let same : c.loop-k.k ≡ c.args.count = omega (arith, c.loop-k.auto.k-end, c.loop-k-test.false) in
    none_to (is_badly_packed c.args.pef.now) c.loop-k.k c.args.count same c.loop-k.invariant
