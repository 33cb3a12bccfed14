-- A list of zeros that a register file was written into.
use Rattle.std.proofs.Common.{◌≡◌, ℕ, List, [], ◌∷◌, ◌++◌, length, take, drop, ap, subst, ◌∙◌}
use borrow.Rule.Slice.PartMut.{put_mid}
use Rattle.std.proofs.Math.Seq.{take-append_seam, drop-append_seam}
use Rattle.std.proofs.lemmas.List.{append-nil}

-- the first 32 of 38 longs, and then the others
pub both_written : (p q first second : List ℕ) → p ≡ first → q ≡ second → length first ≡ 32
    → put_mid 32 6 (p ++ 0 ∷ 0 ∷ 0 ∷ 0 ∷ 0 ∷ 0 ∷ []) q ≡ first ++ second
both_written p q first second ep eq h =
    let rest : List ℕ = 0 ∷ 0 ∷ 0 ∷ 0 ∷ 0 ∷ 0 ∷ [] in
    let before : take 32 (first ++ rest) ≡ first = subst (λ n. take n (first ++ rest) ≡ first) h (take-append_seam first rest) in
    let after : drop 32 (first ++ rest) ≡ rest = subst (λ n. drop n (first ++ rest) ≡ rest) h (drop-append_seam first rest) in
    (λ i. put_mid 32 6 (ep i ++ rest) (eq i))
    ∙ (λ i. before i ++ (second ++ drop 6 (after i)))
    ∙ ap (λ l. first ++ l) (append-nil second)
