use Rattle.std.proofs.lemmas.Result.{err_from_is_err_and}
use Rattle.std.proofs.Common.{◌∙◌, sym}
use Rattle.proc_info.proofs.Written.{is_signature}
use Rattle.proc_info.proofs.Fields.{of_registers, of_registers_refused}
use Rattle.proc_info.proofs.reader.read_registers.Goals as goal

pub invariant_of-result-clause-valid : goal.invariant_of-result-clause-valid
invariant_of-result-clause-valid c =
    is_signature c.args.w _ c.ranges.w.fits
    (c.requires ∙ of_registers _ _ _ _ _ _ _ c.ranges.w.fits c.digit.ensures c.if-digit-eq1.false c.digit-place.ensures c.size_field-result_size.ensures (sym c.is_result_place.ensures ∙ c.if-not-is_result_place.false) c.digit-2.ensures c.in_ok-count.ensures.front (sym c.names_twice.ensures ∙ c.if-names_twice.false))

pub returns-in_err-count : goal.returns-in_err-count
returns-in_err-count c =
    let p = err_from_is_err_and c.from_residual.result c.from_residual.ensures.1 in
    rw (p.1, p.2) (sym
    (c.requires ∙ of_registers_refused _ _ _ _ _ _ _ c.ranges.w.fits c.digit.ensures c.if-digit-eq1.false c.digit-place.ensures c.size_field-result_size.ensures (sym c.is_result_place.ensures ∙ c.if-not-is_result_place.false) c.digit-2.ensures c.in_err-count.ensures))
