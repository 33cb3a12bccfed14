-- What is known of a signature that a chain of tests let through.
use Rattle.std.proofs.Common.{◌≡◌, Bool, true, false, Result, Ok, Err, List, if◌then◌else◌, refl, subst}
use Rattle.mix_bits.specs.Results.{◌>>=◌}
use Rattle.proc_info.specs.declared.bad_info.BadInfo.{BadInfo}
use Rattle.proc_info.specs.declared.bad_info.BadInfo.TheVariants.{Twice}
use Rattle.proc_info.specs.declared.param.Param.{Param}
use Rattle.proc_info.specs.Signature.{Signature, is_twice}
use Rattle.proc_info.specs.inner.Shapes.{unless_twice}

-- a test that refused nothing
pub tested : (refused : Bool) (e : BadInfo) (r : Result Signature BadInfo) (s : Signature) → (if refused then Err e else r) ≡ Ok s → (refused ≡ false) × (r ≡ Ok s)
tested true e r s said = cc
tested false e r s said = (refl, said)

-- a signature made of the parameters read
pub made : (P : Signature → Type 0) (params : Result (List Param) BadInfo) (make : List Param → Signature) (s : Signature) → ((ps : List Param) → params ≡ Ok ps → P (make ps)) → (params >>= λ ps. Ok (make ps)) ≡ Ok s → P s
made P (Ok ps) make s right said =
    let same : make ps ≡ s = cc in subst P same (right ps refl)
made P (Err e) make s right said = cc

-- the same where no register may be named twice
pub made_once : (P : Signature → Type 0) (params : Result (List Param) BadInfo) (make : List Param → Signature) (s : Signature) → ((ps : List Param) → params ≡ Ok ps → is_twice (make ps).params ≡ false → P (make ps)) → (params >>= λ ps. unless_twice (make ps)) ≡ Ok s → P s
made_once P (Ok ps) make s right said =
    let once = tested (is_twice (make ps).params) Twice (Ok (make ps)) s said in
    let same : make ps ≡ s = cc in
    subst P same (right ps refl once.0)
made_once P (Err e) make s right said = cc
