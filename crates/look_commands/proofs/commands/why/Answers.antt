-- The sentence on the words that are asked about is the one on the words behind the first.
use Rattle.std.proofs.Common.{◌≡◌, ◌++◌, ◌∙◌, inl, ℕ, List, Option, subst}
use Rattle.std.specs.Prelude.{codes}
use Rattle.look_words.specs.Sentences.{why_text}
use Rattle.look_text.specs.Whys.{Explains}
use Rattle.look_text.specs.declared.why.Why.{Why}
use Rattle.look_commands.specs.Told.{WritesWhy}
use Rattle.look_commands.specs.Puts.{Prints}
use Rattle.look_commands.proofs.commands.why.Goals as goal

written : (asked words : List (List ℕ)) (text piece : List ℕ) (old new : Option (List ℕ)) (status : ℕ) → asked ≡ words
    → (why : Why) × Explains asked why × (text ≡ why_text asked why ++ codes "\n") → piece ≡ text → Prints piece old new status → WritesWhy words old new status
written asked words text piece old new status same told is put =
    subst (λ ws. WritesWhy ws old new status) same (inl (told.0, told.1, subst (λ t. Prints t old new status) (is ∙ told.2) put))

pub returns-in-Ok : goal.returns-in-Ok
returns-in-Ok g c = written _ _ _ _ _ _ _ c.asked.ensures c.in-Ok.ensures c.as_bytes.ensures.value c.print.ensures
