use Rattle.proc_info.proofs.Written.{is_signature}
use Rattle.proc_info.proofs.Fields.{of_stack}
use Rattle.std.proofs.Common.{◌∙◌}
use Rattle.proc_info.proofs.reader.read_stack.Goals as goal

pub invariant_of-result-clause-valid : goal.invariant_of-result-clause-valid
invariant_of-result-clause-valid c = is_signature c.args.w _ c.ranges.w.fits (c.requires ∙ of_stack _ _ _ _ _ c.ranges.w.fits c.digit.ensures c.size_field.ensures c.in_ok-count.ensures.front)
