-- The files of a proper job can be loaded, and words that ask for no run may lack memory.
use Rattle.std.proofs.Common.{◌≡◌, ℕ, List, Option, Some, None, refl, sym, ap, ◌∙◌, is_some, true≢false, inr, Bool, true, false}
use Rattle.std.specs.Prelude.{IfSome, IfNone, IsSome}
use Rattle.mix_bits.specs.declared.isa.Isa.{Isa}
use Rattle.mix_bits.specs.declared.isa.Isa.TheVariants.{M68, Ppc}
use Rattle.job_words.specs.Jobs.{main_file}
use Rattle.job_words.specs.JobsClauses.{IsProperJob}
use Rattle.job_words.specs.declared.job.Job.{Job}
use Rattle.mix_load.specs.LoadClauses.{AreLoadable, IsAlone, IsSmall}
use Rattle.look_words.specs.Requests.{IsUnmet}

none : {A B : Type 0} (o : Option A) (q : Option B) → is_some o ≡ is_some q → q ≡ None → o ≡ None
none None q same is = refl
none (Some x) None same is = absurd (true≢false same)
none (Some x) (Some y) same is = absurd (true≢false (ap is_some is))

some : {A B : Type 0} (o : Option A) (q : Option B) → is_some o ≡ is_some q → IsSome q → IsSome o
some o q same is = same ∙ is

alone : (flat rsrc pef : Option (List ℕ)) (f r p : Option ℕ) (main : Isa) → is_some flat ≡ is_some f → is_some rsrc ≡ is_some r → is_some pef ≡ is_some p
    → IfSome f (λ place. (r ≡ None) × (p ≡ None)) → IfNone f (IsSome (main_file main r p)) → IsAlone flat main (record { flat = flat; rsrc = rsrc; pef = pef })
alone (Some b) rsrc pef None r p main e er ep whole own = absurd (true≢false e)
alone (Some b) rsrc pef (Some f) r p main e er ep whole own = (none rsrc r er whole.0, none pef p ep whole.1)
alone None rsrc pef (Some f) r p main e er ep whole own = absurd (true≢false (sym e))
alone None rsrc pef None r p M68 e er ep whole own = some rsrc r er own
alone None rsrc pef None r p Ppc e er ep whole own = some pef p ep own

pub loadable : (job : Job) (flat rsrc pef : Option (List ℕ)) → IsProperJob job → is_some flat ≡ is_some job.flat → is_some rsrc ≡ is_some job.rsrc
    → is_some pef ≡ is_some job.pef → IsSmall flat → IsSmall rsrc → IsSmall pef → AreLoadable (record { flat = flat; rsrc = rsrc; pef = pef }) job.main
loadable job flat rsrc pef proper e er ep small_flat small_rsrc small_pef =
    record { named = alone flat rsrc pef job.flat job.rsrc job.pef job.main e er ep proper.alone proper.own; flat = small_flat; rsrc = small_rsrc; pef = small_pef }

pub unmet : (asked : Bool) → IsUnmet asked 9
unmet true = inr (inr refl)
unmet false = inr refl
