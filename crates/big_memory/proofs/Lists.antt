-- Laws of a piece and of a list with a piece replaced.
use Rattle.std.proofs.Common.{◌≡◌, ◌⊎◌, ℕ, ◌+◌, ◌-◌, ◌<◌, ◌≤◌, List, [], ◌∷◌, ◌++◌, length, take, drop, get_or, set, replicate, cond, ◌&&◌, nat_lt, nat_le, arith}
use Rattle.std.proofs.lemmas.List.{same_lists, places, drop_at, length-take-le, get_or-set_same, length-set}
use Rattle.std.proofs.lemmas.Bool.{cases_eq}
use Rattle.std.proofs.lemmas.Bool.Decides.{nat_tests}
use Rattle.big_memory.specs.Lists.{part, put}

-- a replaced piece keeps the length
pub length-put : {X : Type 0} (at : ℕ) (ys xs : List X) → at + length ys ≤ length xs → length (put at ys xs) ≡ length xs
length-put at ys xs within = grind (arith, places)

-- no piece changes nothing
pub put-nil : {X : Type 0} (at : ℕ) (xs : List X) → put at [] xs ≡ xs
put-nil at xs = same_lists _ _ (grind (arith, places)) (λ k d w. grind (arith, places))

-- from a piece's place on, it comes first
pub drop-put : {X : Type 0} (at : ℕ) (ys xs : List X) → at ≤ length xs → drop at (put at ys xs) ≡ ys ++ drop (at + length ys) xs
drop-put at ys xs within = drop_at (take at xs) _ at (length-take-le at xs within)

-- a piece is read where it was put
pub part-put_same : {X : Type 0} (at n : ℕ) (ys xs : List X) → length ys ≡ n → at + n ≤ length xs → part at n (put at ys xs) ≡ ys
part-put_same at n ys xs whole within = same_lists _ _ (grind (arith, places)) (λ k d w. grind (arith, places))

-- a part of that piece too
pub part-put_inside : {X : Type 0} (at k n : ℕ) (ys xs : List X) → k + n ≤ length ys → at + length ys ≤ length xs → part (at + k) n (put at ys xs) ≡ part k n ys
part-put_inside at k n ys xs inside within = same_lists _ _ (grind (arith, places)) (λ i d w. grind (arith, places))

-- a piece elsewhere stays
pub part-put_apart : {X : Type 0} (at n to : ℕ) (ys xs : List X) → to + length ys ≤ length xs → (at + n ≤ to) ⊎ (to + length ys ≤ at) → part at n (put to ys xs) ≡ part at n xs
part-put_apart at n to ys xs within apart = same_lists _ _ (grind (arith, places)) (λ k d w. grind (arith, places))

-- the piece that is there already changes nothing
pub put-part : {X : Type 0} (at n : ℕ) (xs : List X) → at + n ≤ length xs → put at (part at n xs) xs ≡ xs
put-part at n xs within = same_lists _ _ (grind (arith, places)) (λ k d w. grind (arith, places))

-- of two pieces at one place the later one stays
pub put-put_same : {X : Type 0} (at : ℕ) (ys zs xs : List X) → length ys ≡ length zs → at + length ys ≤ length xs → put at zs (put at ys xs) ≡ put at zs xs
put-put_same at ys zs xs same within = same_lists _ _ (grind (arith, places)) (λ k d w. grind (arith, places))

-- a piece put inside of another is put into that one
pub put-put_inside : {X : Type 0} (at k : ℕ) (zs ys xs : List X) → k + length zs ≤ length ys → at + length ys ≤ length xs → put (at + k) zs (put at ys xs) ≡ put at (put k zs ys) xs
put-put_inside at k zs ys xs inside within = same_lists _ _ (grind (arith, places)) (λ i d w. grind (arith, places))

-- two pieces apart go in either order
pub put-put_apart : {X : Type 0} (at to : ℕ) (ys zs xs : List X) → at + length ys ≤ to → to + length zs ≤ length xs → put to zs (put at ys xs) ≡ put at ys (put to zs xs)
put-put_apart at to ys zs xs apart within = same_lists _ _ (grind (arith, places)) (λ k d w. grind (arith, places))

-- two pieces side by side are one
pub put-append : {X : Type 0} (at : ℕ) (ys zs xs : List X) → at + length ys + length zs ≤ length xs → put at (ys ++ zs) xs ≡ put (at + length ys) zs (put at ys xs)
put-append at ys zs xs within = same_lists _ _ (grind (arith, places)) (λ k d w. grind (arith, places))

-- the elements of a list with a piece replaced
pub get_or-put_inside : {X : Type 0} (at k : ℕ) (ys xs : List X) (d : X) → at + length ys ≤ length xs → at ≤ k → k < at + length ys → get_or (put at ys xs) k d ≡ get_or ys (k - at) d
get_or-put_inside at k ys xs d within from to = grind (arith, places)

pub get_or-put_outside : {X : Type 0} (at k : ℕ) (ys xs : List X) (d : X) → at + length ys ≤ length xs → (k < at) ⊎ (at + length ys ≤ k) → get_or (put at ys xs) k d ≡ get_or xs k d
get_or-put_outside at k ys xs d within apart = grind (arith, places)

-- the elements of a list with a run of one element put into it
pub get_or-put_replicate : {X : Type 0} (at n k : ℕ) (y d : X) (xs : List X) → at + n ≤ length xs → get_or (put at (replicate n y) xs) k d ≡ cond (nat_le at k && nat_lt k (at + n)) y (get_or xs k d)
get_or-put_replicate at n k y d xs within = grind (arith, places, nat_tests)

-- one element is a piece
pub put-one : {X : Type 0} (at : ℕ) (y : X) (xs : List X) → at < length xs → put at (y ∷ []) xs ≡ set xs at y
put-one {X = X} at y xs within = same_lists _ _ (grind (arith, places, length-set {A = X})) (λ k d w. grind (arith, places, get_or-set_same, cases_eq k at))
