-- Marks: they are found where they were written, and nowhere else.
use Rattle.std.proofs.Common.{◌≡◌, ℕ, ◌==◌, List, [], ◌∷◌, ◌++◌, Bool, true, false, Some, None, if◌then◌else◌, refl}
use Rattle.std.proofs.lemmas.Bool.{eqb-true, eq-eqb}
use Rattle.trace_lines.specs.inner.Pieces.{after_mark}

pub after-marked : (mark rest : List ℕ) → after_mark mark (mark ++ rest) ≡ Some rest
after-marked [] rest = refl
after-marked (m ∷ mark) rest = rw (eq-eqb m m refl) (after-marked mark rest)

pub marked-after : (mark text rest : List ℕ) → after_mark mark text ≡ Some rest → text ≡ mark ++ rest
marked-after [] text rest is = let same : Some text ≡ Some rest = is in cc
marked-after (m ∷ mark) [] rest is = absurd (let no : None ≡ Some rest = is in cc)
marked-after (m ∷ mark) (b ∷ text) rest is = by (b == m) refl is (marked-after mark text rest)
  where
    by : (t : Bool) → (b == m) ≡ t → (if t then after_mark mark text else None) ≡ Some rest
        → (after_mark mark text ≡ Some rest → text ≡ mark ++ rest) → b ∷ text ≡ m ∷ (mark ++ rest)
    by true q h more =
        let first : b ≡ m = eqb-true b m q in
        let behind : text ≡ mark ++ rest = more h in
        cc
    by false q h more = absurd (let no : None ≡ Some rest = h in cc)
