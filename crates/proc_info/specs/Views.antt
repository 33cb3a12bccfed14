-- A kept signature as its fields, with a list of parameters.
use Rattle.std.specs.Prelude.{List, take, Result, Ok, Err}
use Rattle.proc_info.specs.declared.bad_info.BadInfo.{BadInfo}
use Rattle.proc_info.specs.declared.param.Param.{Param}
use Rattle.proc_info.specs.declared.sig.Sig.{Sig}
use Rattle.proc_info.specs.Signature.{Signature}

-- the parameters
abbrev pub params_of : Sig → List Param
params_of sig = take sig.count sig.params

-- the signature
abbrev pub signature : Sig → Signature
signature sig = record { conv = sig.conv; result = sig.result; place = sig.place; selector = sig.selector; params = params_of sig }

-- the signature that a call answers
abbrev pub answered : Result Sig BadInfo → Result Signature BadInfo
answered (Ok sig) = Ok (signature sig)
answered (Err e) = Err e
