-- What was written of an instruction.
use Rattle.std.proofs.Common.{◌≡◌, ℕ, List, Option, Some, None, sym, ap, ◌∙◌, refl}
use Rattle.mix_text.specs.Listing.{Listed, listed_as}
use Rattle.mix_text.specs.ListingClauses.{Writes}

-- what was written is the instruction's text; or it does not lie whole in memory
pub written : (o : Option Listed) (bytes : ℕ) (text : List ℕ) → Writes o (Some bytes) text → o ≡ Some (listed_as text bytes)
written (Some i) bytes text writes = ap Some (ap (λ t. listed_as t i.bytes) (sym writes.0) ∙ ap (λ n. listed_as text n) (sym writes.1))
written None bytes text writes = absurd writes

pub not-written : (o : Option Listed) (text : List ℕ) → Writes o None text → o ≡ None
not-written (Some i) text writes = absurd writes
not-written None text writes = refl
