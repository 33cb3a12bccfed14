-- The word 0 has the signature that is empty.
use Rattle.std.proofs.Common.{◌∙◌, ap, sym}
use Rattle.proc_info.specs.Signature.{signature_of}
use Rattle.proc_info.specs.SignatureClauses.{word_of}
use Rattle.routine_desc.proofs.signed.Signed.empty.Goals as goal

pub invariant_of-result : goal.invariant_of-result
invariant_of-result c =
    record { valid = ap signature_of (sym (ap word_of c.empty.ensures.value)) ∙ c.empty.result.valid.back }
