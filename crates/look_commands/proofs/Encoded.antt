-- What is put of a file as text, by how it was read.
use Rattle.std.proofs.Common.{◌≡◌, sym, subst, inl, ℕ, false, List, Option, Result, Ok, Err}
use Rattle.std.specs.Prelude.{◌≢◌}
use Rattle.wrapped_forks.specs.declared.fork.Fork.{Fork}
use Rattle.binhex.specs.Forks.{ForkBytes}
use Rattle.binhex.specs.declared.error.BinHexError.{BinHexError}
use Rattle.binhex.specs.declared.error.BinHexError.TheVariants.{NoMemory, Unmarked, Unopened, Unended, Foreign, Run, Long, Cut, Sum}
use Rattle.look_commands.specs.Forks.{PutsEncoded, PutsFork, PutsRead, encoded_fork}
use Rattle.look_commands.specs.inner.Encoded.{is_want_of_memory}

other : (error : BinHexError) → is_want_of_memory error ≡ false → error ≢ NoMemory
other NoMemory is = absurd (cc)
other Unmarked is = λ same. cc
other Unopened is = λ same. cc
other Unended is = λ same. cc
other (Foreign place) is = λ same. cc
other Run is = λ same. cc
other Long is = λ same. cc
other (Cut part) is = λ same. cc
other (Sum part) is = λ same. cc

pub encoded : (which : Fork) (reading : Result ForkBytes BinHexError) (forks : ForkBytes) (old new : Option (List ℕ)) (status : ℕ)
    → reading ≡ Ok forks → PutsFork (encoded_fork which forks) old new status → PutsEncoded which reading old new status
encoded which reading forks old new status is put = inl (subst (λ (r : Result ForkBytes BinHexError). PutsRead which r old new status) (sym is) put)

pub not_encoded : (which : Fork) (reading : Result ForkBytes BinHexError) (error : BinHexError) (old new : Option (List ℕ)) (status : ℕ)
    → is_want_of_memory error ≡ false → (error ≢ NoMemory → reading ≡ Err error) → status ≡ 3 → new ≡ old
    → PutsEncoded which reading old new status
not_encoded which reading error old new status is reads three same =
    inl (subst (λ (r : Result ForkBytes BinHexError). PutsRead which r old new status) (sym (reads (other error is))) (three, same))
