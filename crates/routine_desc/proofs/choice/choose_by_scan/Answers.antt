-- What the scan found is what the filters leave.
use Rattle.std.proofs.Common.{◌∙◌, sym}
use Rattle.routine_desc.specs.inner.Scans.{scan}
use Rattle.routine_desc.proofs.ChoiceLemmas.{choose-all, choose-equal, choose-default, picked-some}
use Rattle.routine_desc.proofs.choice.choose_by_scan.Goals as goal

pub returns-in-None : goal.returns-in-None
returns-in-None c = c.chosen.ensures ∙ choose-all (scan c.look-scan.result) _ c.args.caller c.args.selector c.in-None.is c.look-scan.ensures

pub returns-in-Some : goal.returns-in-Some
returns-in-Some c =
    c.chosen-in-Some.ensures
    ∙ choose-equal (scan c.look-scan.result) _ c.args.caller c.args.selector c.in-Some.field-0 c.in-Some.is c.look-scan.ensures
    (picked-some c.look-scan.result.equal.first ∙ sym c.is_some.ensures ∙ c.if-is_some.true)

pub returns-in-Some-2 : goal.returns-in-Some-2
returns-in-Some-2 c =
    c.chosen-in-Some-2.ensures
    ∙ choose-default (scan c.look-scan.result) _ c.args.caller c.args.selector c.in-Some-2.field-0 c.in-Some-2.is c.look-scan.ensures
    (picked-some c.look-scan.result.equal.first ∙ sym c.is_some.ensures ∙ c.if-is_some.false)
