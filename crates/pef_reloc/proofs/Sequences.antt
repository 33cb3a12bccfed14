-- Operations one after the other.
use Rattle.std.proofs.Common.{◌≡◌, ℕ, ◌+◌, ◌-◌, ◌<◌, List, [], ◌∷◌, ◌++◌, Result, Ok, Err, refl, ap, sym, ◌∙◌}
use Rattle.mix_bits.specs.Results.{◌>>=◌}
use Rattle.pef_reloc.specs.Additions.{Operation, Sources, State, Refused, does, runs}
use Rattle.pef_reloc.specs.Lists.{times}
use Rattle.pef_reloc.proofs.Written.{times_next}

then_then : (r : Result State Refused) (f g h : State → Result State Refused) → ((s : State) → f s ≡ (g s >>= h)) → (r >>= f) ≡ ((r >>= g) >>= h)
then_then (Ok s) f g h same = same s
then_then (Err r) f g h same = refl

-- a list of operations in two parts
pub runs_append : (sources : Sources) (os ps : List Operation) (s : State) → runs sources (os ++ ps) s ≡ (runs sources os s >>= runs sources ps)
runs_append sources [] ps s = refl
runs_append sources (o ∷ os) ps s =
    then_then (does sources o s) (runs sources (os ++ ps)) (runs sources os) (runs sources ps) (λ t. runs_append sources os ps t)

runs_first : (sources : Sources) (os : List Operation) (n k : ℕ) (s : State) → k < n → runs sources (times (n - k) os) s ≡ (runs sources os s >>= runs sources (times (n - (k + 1)) os))
runs_first sources os n k s more =
    ap (λ all. runs sources all s) (times_next n k os more) ∙ runs_append sources os (times (n - (k + 1)) os) s

-- a turn that is done, and those that are left
pub turn_ok : (sources : Sources) (os : List Operation) (n k : ℕ) (s t : State) → k < n → Ok t ≡ runs sources os s → runs sources (times (n - (k + 1)) os) t ≡ runs sources (times (n - k) os) s
turn_ok sources os n k s t more done =
    ap (λ r. r >>= runs sources (times (n - (k + 1)) os)) done ∙ sym (runs_first sources os n k s more)

-- a turn that is refused ends them all
pub turn_err : (sources : Sources) (os : List Operation) (n k : ℕ) (s : State) (r : Refused) → k < n → Err r ≡ runs sources os s → Err r ≡ runs sources (times (n - k) os) s
turn_err sources os n k s r more done =
    ap (λ r. r >>= runs sources (times (n - (k + 1)) os)) done ∙ sym (runs_first sources os n k s more)
