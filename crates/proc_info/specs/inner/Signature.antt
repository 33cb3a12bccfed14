-- A signature that is its own word's.
use Rattle.std.specs.Prelude.{◌≡◌, ◌^◌, ◌<◌, Ok}
use Rattle.proc_info.specs.Signature.{Signature, signature_of}
use Rattle.proc_info.specs.SignatureClauses.{word_of}

-- that a signature is some word's: its own word's
pub record IsSignature (s : Signature) : Type 0 where
  pub fits : word_of s < 2 ^ 32
  pub back : signature_of (word_of s) ≡ Ok s
