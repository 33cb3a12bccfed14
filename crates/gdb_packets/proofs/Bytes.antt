-- Two digits more are one byte more.
use Rattle.std.proofs.Common.{◌≡◌, ℕ, suc, ◌-◌, ◌≤◌, List, [], ◌∷◌, ◌++◌, length, get_or, take, drop, Option, Some, None, refl, sym, ap, ◌∙◌, arith, append_assoc}
use Rattle.std.proofs.lemmas.List.{take_all}
use Rattle.gdb_packets.specs.Hex.{all_behind, byte_said, bytes_said, one_before, said_behind}

shift : (front : List ℕ) (b : ℕ) (o : Option (List ℕ)) → all_behind (front ++ b ∷ []) o ≡ all_behind front (one_before (Some b) o)
shift front b None = refl
shift front b (Some bs) = ap Some (append_assoc front (b ∷ []) bs)

pub more_said : (front new rest : List ℕ) (b : ℕ) → new ≡ front ++ b ∷ [] → 2 ≤ length rest → byte_said (get_or rest 0 0) (get_or rest 1 0) ≡ Some b
    → said_behind new (take (length rest - 2) (drop 2 rest)) ≡ said_behind front rest
more_said front new [] b is long said = absurd (omega arith)
more_said front new (h ∷ []) b is long said = absurd (omega arith)
more_said front new (h ∷ l ∷ rest) b is long said =
    ap (λ t. said_behind new t) (take_all (suc (suc (length rest)) - 2) rest (omega arith))
    ∙ ap (λ n. said_behind n rest) is
    ∙ shift front b (bytes_said rest)
    ∙ ap (λ o. all_behind front (one_before o (bytes_said rest))) (sym said)
