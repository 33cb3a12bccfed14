-- Nothing is told of a fork that is refused.
use Rattle.std.proofs.Common.{◌≡◌, ◌≢◌, ℕ, List, ◌++◌, Result, Ok, Err, ap, sym, ◌∙◌}
use Rattle.std.specs.Prelude.{IfOk, OnOk}
use Rattle.std.proofs.lemmas.List.{append-nil}
use Rattle.rsrc_fork.specs.declared.error.RsrcError.{RsrcError}
use Rattle.rsrc_fork.specs.declared.error.RsrcError.TheVariants.{NoMemory}
use Rattle.rsrc_fork.specs.References.{resources_of}
use Rattle.switch_frame.specs.Program.{program_start}
use Rattle.look_text.specs.Forks.{fork_end, fork_text}

pub refused_text : {E : Type 0} (ids : ℕ) (old bytes : List ℕ) (e : RsrcError) (r : Result ℕ E) → OnOk r (e ≢ NoMemory) → (e ≢ NoMemory → resources_of bytes ≡ Err e)
    → IfOk r (λ _. old ≡ old ++ fork_text ids (resources_of bytes))
refused_text ids old bytes e (Ok end) why is = sym (append-nil old) ∙ ap (λ resources. old ++ fork_text ids resources) (sym (is why))
refused_text ids old bytes e (Err x) why is = tt

pub refused_end : {E : Type 0} (ids : ℕ) (bytes : List ℕ) (e : RsrcError) (r : Result ℕ E) → OnOk r (e ≢ NoMemory) → IfOk r (λ end. end ≡ program_start)
    → (e ≢ NoMemory → resources_of bytes ≡ Err e) → IfOk r (λ end. end ≡ fork_end ids (resources_of bytes))
refused_end ids bytes e (Ok end) why there is = there ∙ ap (λ resources. fork_end ids resources) (sym (is why))
refused_end ids bytes e (Err x) why there is = tt
