-- The word 0 has this signature.
use Rattle.proc_info.proofs.Written.{empty_signature}
use Rattle.proc_info.proofs.sig.Sig.empty.Goals as goal

pub invariant_of-result-clause-valid : goal.invariant_of-result-clause-valid
invariant_of-result-clause-valid c = empty_signature
