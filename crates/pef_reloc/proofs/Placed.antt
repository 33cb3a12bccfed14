-- A section in memory.
use Rattle.std.proofs.Common.{◌≡◌, ℕ, ◌+◌, ◌≤◌, List, ◌++◌, length, take, drop, arith, ap, sym, ◌∙◌}
use Rattle.std.proofs.lemmas.List.{same_lists, places}
use Rattle.big_memory.specs.Lists.{part, put}
use Rattle.big_memory.proofs.Lists.{put-part}

-- what is put into a section is put into memory
pub part_put : (base total at : ℕ) (ys xs : List ℕ) → at + length ys ≤ total → base + total ≤ length xs → part base total (put (base + at) ys xs) ≡ put at ys (part base total xs)
part_put base total at ys xs within inside = same_lists _ _ (grind (arith, places)) (λ k d w. grind (arith, places))

pub take_put_inside : (base at : ℕ) (ys xs : List ℕ) → base + at + length ys ≤ length xs → take base (put (base + at) ys xs) ≡ take base xs
take_put_inside base at ys xs within = same_lists _ _ (grind (arith, places)) (λ k d w. grind (arith, places))

pub drop_put_inside : (end at : ℕ) (ys xs : List ℕ) → at + length ys ≤ end → end ≤ length xs → drop end (put at ys xs) ≡ drop end xs
drop_put_inside end at ys xs within inside = same_lists _ _ (grind (arith, places)) (λ k d w. grind (arith, places))

-- memory with its own section, where the rest is that of another
pub put_section : (base total : ℕ) (new old : List ℕ) → base + total ≤ length new → length new ≡ length old → take base new ≡ take base old → drop (base + total) new ≡ drop (base + total) old
    → new ≡ put base (part base total new) old
put_section base total new old inside len below above =
    let count : length (part base total new) ≡ total = grind (arith, places) in
    sym (put-part base total new inside)
    ∙ ap (λ xs. xs ++ (part base total new ++ drop (base + length (part base total new)) new)) below
    ∙ ap (λ n. take base old ++ (part base total new ++ drop (base + n) new)) count
    ∙ ap (λ xs. take base old ++ (part base total new ++ xs)) above
    ∙ ap (λ n. take base old ++ (part base total new ++ drop (base + n) old)) (sym count)
