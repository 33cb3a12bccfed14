-- Lines behind lines.
use Rattle.std.proofs.Common.{◌≡◌, ℕ, ◌≤◌, List, ◌++◌, Result, Ok, Err, ap, append_assoc, ◌∙◌, arith, subst}
use Rattle.std.specs.Prelude.{OnOk}

-- one more line behind those so far
pub next : (new text old front line is : List ℕ) → new ≡ text ++ line → text ≡ old ++ front → line ≡ is → new ≡ old ++ (front ++ is)
next new text old front line is made before same =
    made ∙ ap (λ t. t ++ line) before ∙ append_assoc old front line ∙ ap (λ t. old ++ (front ++ t)) same

-- what holds as far as a loop came holds of all
pub at_end : (P : ℕ → Type 0) (k n : ℕ) → P k → k ≤ n → n ≤ k → P n
at_end P k n so most least =
    let same : k ≡ n = omega arith in
    subst P same so

-- two texts, of which the second one is appended or not
pub two : {T E : Type 0} (r : Result T E) (new text old front back : List ℕ) → text ≡ old ++ front → OnOk r (new ≡ text ++ back) → OnOk r (new ≡ old ++ (front ++ back))
two (Ok done) new text old front back before made = made ∙ ap (λ t. t ++ back) before ∙ append_assoc old front back
two (Err e) new text old front back before made = tt

-- the same of three
pub three : {T E : Type 0} (r : Result T E) (new second first old a b c : List ℕ) → first ≡ old ++ a → second ≡ first ++ b → OnOk r (new ≡ second ++ c)
    → OnOk r (new ≡ old ++ (a ++ (b ++ c)))
three r new second first old a b c begun more made = two r new first old a (b ++ c) begun (two r new second first b c more made)
