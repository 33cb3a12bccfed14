-- What is wrong with a word that has a key.
use Rattle.std.proofs.Common.{◌≡◌, ◌∙◌, List, ℕ, Bool, refl, subst, sym}
use Rattle.look_text.specs.Reasons.{is_refused}
use Rattle.look_text.proofs.why.word_reason.Goals as goal

-- whether an example is refused, as it was found
found : (command word example : List ℕ) (is test : Bool) → word ≡ example → test ≡ is_refused command word → test ≡ is → is_refused command example ≡ is
found command word example is test same tested was = subst (λ w. is_refused command w ≡ is) same (sym tested ∙ was)

pub returns-then-branch-2 : goal.returns-then-branch-2
returns-then-branch-2 c = (
  refl,
  sym c.in-Some.ensures,
  found _ _ _ _ _ c.example.ensures c.in_ok-is_refused-in-Some.ensures c.if-branch.false,
  sym c.in_ok-is_refused-in-Some-2.ensures ∙ c.if-branch-2.true,
)

pub returns-else-branch-2 : goal.returns-else-branch-2
returns-else-branch-2 c = (refl, sym c.in-Some.ensures, sym c.in_ok-is_refused-in-Some-2.ensures ∙ c.if-branch-2.false)
