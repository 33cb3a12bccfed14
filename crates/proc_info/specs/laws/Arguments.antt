-- Values that are appended one by one, or the first refusal.
use Rattle.std.specs.Prelude.{◌≡◌, ℕ, List, [], ◌∷◌, ◌++◌, Result, Ok, Err}
use Rattle.mix_bits.specs.Results.{◌>>=◌}

-- values behind others
abbrev pub behind : {E : Type 0} → List ℕ → Result (List ℕ) E → Result (List ℕ) E
behind xs (Ok ys) = Ok (xs ++ ys)
behind xs (Err e) = Err e

-- a value and then others, behind some values, and none behind some values
abbrev pub BehindFront : Type 0 → Type 0
BehindFront E = (xs : List ℕ) (v : ℕ) (vs : Result (List ℕ) E) → behind xs (vs >>= λ ys. Ok (v ∷ ys)) ≡ behind (xs ++ v ∷ []) vs

abbrev pub BehindNone : Type 0 → Type 0
BehindNone E = (xs : List ℕ) → behind {E = E} xs (Ok []) ≡ Ok xs
