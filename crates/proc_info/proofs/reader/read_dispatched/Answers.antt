use Rattle.std.proofs.Common.{◌∙◌}
use Rattle.proc_info.proofs.Written.{is_signature}
use Rattle.proc_info.proofs.Fields.{of_dispatched}
use Rattle.proc_info.proofs.reader.read_dispatched.Goals as goal

pub invariant_of-result-clause-valid : goal.invariant_of-result-clause-valid
invariant_of-result-clause-valid c = is_signature c.args.w _ c.ranges.w.fits (c.requires ∙ of_dispatched _ _ _ _ _ _ _ c.ranges.w.fits c.digit.ensures c.if-digit-eq0.false c.digit-2.ensures c.size_field.ensures c.size_field-2.ensures c.in_ok-count.ensures.front)
