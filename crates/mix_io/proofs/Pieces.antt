-- A piece that is put part by part.
use Rattle.std.proofs.Common.{◌≡◌, ◌≤◌, ℕ, ◌+◌, ◌-◌, List, Option, length, take, drop, arith, sym, subst}
use Rattle.std.proofs.KnownBytes.{Appends-trans}
use Rattle.std.proofs.Math.Seq.{take-add}
use Rattle.std.proofs.lemmas.Grind.{common_steps}
use Rattle.std.specs.Io.KnownBytes.{Appends}

-- the n bytes after the first i
pub appends_more : (a b c : Option (List ℕ)) (xs : List ℕ) (i n : ℕ) → Appends a b (take i xs) → Appends b c (take n (take (length xs - i) (drop i xs))) → Appends a c (take (i + n) xs)
appends_more a b c xs i n p q =
    let e : take n (take (length xs - i) (drop i xs)) ≡ take n (drop i xs) = grind (arith, common_steps) in
    let whole = Appends-trans a b c (take i xs) (take n (drop i xs)) p (subst (λ l. Appends b c l) e q) in
    subst (λ l. Appends a c l) (sym (take-add i n xs)) whole

pub within_rest : (xs : List ℕ) (i n : ℕ) → i ≤ length xs → n ≤ length (take (length xs - i) (drop i xs)) → i + n ≤ length xs
within_rest xs i n h k = grind (arith, common_steps)
