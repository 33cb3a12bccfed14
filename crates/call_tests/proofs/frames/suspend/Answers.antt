use Rattle.std.proofs.Common.{◌≡◌, true, refl}
use Rattle.proc_info.specs.Signature.{has_signature, signature_of, signature_by, params_at}
use Rattle.call_tests.proofs.frames.suspend.Goals as goal

two-parameters : has_signature 0x3B0 ≡ true
unfolding signature_of signature_by params_at
two-parameters = refl

pub push-requires-clause-signature : goal.push-requires-clause-signature
push-requires-clause-signature c = two-parameters
