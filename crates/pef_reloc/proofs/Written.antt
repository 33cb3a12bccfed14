-- Lists that are written piece by piece.
use Rattle.std.proofs.Common.{◌≡◌, ℕ, zero, suc, ◌+◌, ◌-◌, ◌*◌, ◌<◌, ◌≤◌, List, ◌++◌, length, replicate, take, drop, arith, ap, sym, subst, ◌∙◌, length-append, append_assoc}
use Rattle.std.proofs.lemmas.List.{same_lists, places, length-take-le, length-replicate, drop-drop}
use Rattle.big_memory.specs.Lists.{put}
use Rattle.pef_reloc.specs.Lists.{times}
use Rattle.pef_reloc.specs.declared.piece.Parts.{Parts}
use Rattle.pef_reloc.specs.Pattern.{followed}
use Rattle.pef_reloc.specs.inner.Pieces.{AreWhole, mixed}

-- a list again and again has as many times its elements
pub length_times : (n : ℕ) (xs : List ℕ) → length (times n xs) ≡ n * length xs
length_times zero xs = omega arith
length_times (suc n) xs = omega (arith, length-append xs (times n xs), length_times n xs)

pub length_again : (further : ℕ) (xs : List ℕ) → length (xs ++ times further xs) ≡ length xs * (further + 1)
length_again further xs = omega (arith, length-append xs (times further xs), length_times further xs)

-- the parts, and as many common blocks
pub length_followed : (common : List ℕ) (size n : ℕ) (parts : List ℕ) → length parts ≡ n * size → length (followed common size n parts) ≡ length parts + n * length common
length_followed common size zero parts whole = omega arith
length_followed common size (suc n) parts whole =
    let enough : size ≤ length parts = omega arith in
    let rest : length (drop size parts) ≡ n * size = grind (arith, places) in
    let later = length_followed common size n (drop size parts) rest in
    omega (
      arith,
      length-append (take size parts) (common ++ followed common size n (drop size parts)),
      length-append common (followed common size n (drop size parts)),
      length-take-le size parts enough,
      later,
      rest,
    )

pub length_mixed : (block : List ℕ) (parts : Parts) → AreWhole parts → length (mixed block parts) ≡ length block + (length parts.bytes.now + parts.count * length block)
length_mixed block parts whole =
    omega (arith, length-append block (followed block parts.size parts.count parts.bytes.now), length_followed block parts.size parts.count parts.bytes.now whole.whole)

-- a block behind what is written
pub take_put : (at : ℕ) (ys xs : List ℕ) → at + length ys ≤ length xs → take (at + length ys) (put at ys xs) ≡ take at xs ++ ys
take_put at ys xs within = same_lists _ _ (grind (arith, places)) (λ k d w. grind (arith, places))

-- a part behind what is written, and a block behind the part
pub take_put_put : (at : ℕ) (part common xs : List ℕ) → at + length part + length common ≤ length xs → take (at + (length part + length common)) (put (at + length part) common (put at part xs)) ≡ take at xs ++ (part ++ common)
take_put_put at part common xs within = same_lists _ _ (grind (arith, places)) (λ k d w. grind (arith, places))

-- what is written in front stays
pub take_put_behind : (n at : ℕ) (ys xs : List ℕ) → n ≤ at → at + length ys ≤ length xs → take n (put at ys xs) ≡ take n xs
take_put_behind n at ys xs before within = same_lists _ _ (grind (arith, places)) (λ k d w. grind (arith, places))

pub length_zeros : (n : ℕ) → length {A = ℕ} (replicate n 0) ≡ n
length_zeros n = length-replicate n 0

-- one time less
pub times_next : {X : Type 0} (n k : ℕ) (xs : List X) → k < n → times (n - k) xs ≡ xs ++ times (n - (k + 1)) xs
times_next n k xs more = let e : n - k ≡ suc (n - (k + 1)) = omega arith in ap (λ m. times m xs) e

-- the block behind what is written, before one time less
pub done_times : (n k at : ℕ) (block to whole : List ℕ) → k < n → at + length (times (n - k) block) ≡ length to → take at to ++ times (n - k) block ≡ whole → take (at + length block) (put at block to) ++ times (n - (k + 1)) block ≡ whole
done_times n k at block to whole more left done =
    let long = ap length (times_next n k block more) in
    let within : at + length block ≤ length to = omega (arith, length-append block (times (n - (k + 1)) block), long) in
    ap (λ ys. ys ++ times (n - (k + 1)) block) (take_put at block to within) ∙ append_assoc (take at to) block (times (n - (k + 1)) block)
    ∙ ap (λ ys. take at to ++ ys) (sym (times_next n k block more)) ∙ done

pub left_times : (n k at len : ℕ) (block : List ℕ) → k < n → at + length (times (n - k) block) ≡ len → at + length block + length (times (n - (k + 1)) block) ≡ len
left_times n k at len block more left =
    omega (arith, length-append block (times (n - (k + 1)) block), ap length (times_next n k block more))

-- one part less
followed_next : (common : List ℕ) (size n k : ℕ) (parts : List ℕ) → k < n → followed common size (n - k) parts ≡ take size parts ++ (common ++ followed common size (n - (k + 1)) (drop size parts))
followed_next common size n k parts more = let e : n - k ≡ suc (n - (k + 1)) = omega arith in ap (λ m. followed common size m parts) e

-- there is a part left
pub part_left : (n k size len : ℕ) → k < n → len ≡ (n - k) * size → size ≤ len
part_left n k size len more whole = let e : n - k ≡ suc (n - (k + 1)) = omega arith in omega (arith, whole ∙ ap (λ m. m * size) e)

pub parts_left : (n k size len : ℕ) → k < n → len ≡ (n - k) * size → len - size ≡ (n - (k + 1)) * size
parts_left n k size len more whole = let e : n - k ≡ suc (n - (k + 1)) = omega arith in omega (arith, whole ∙ ap (λ m. m * size) e)

pub left_followed : (common : List ℕ) (size n k at len : ℕ) (parts : List ℕ) → k < n → size ≤ length parts → at + length (followed common size (n - k) parts) ≡ len → at + (size + length common) + length (followed common size (n - (k + 1)) (drop size parts)) ≡ len
left_followed common size n k at len parts more enough left =
    omega (
      arith,
      ap length (followed_next common size n k parts more),
      length-take-le size parts enough,
      length-append (take size parts) (common ++ followed common size (n - (k + 1)) (drop size parts)),
      length-append common (followed common size (n - (k + 1)) (drop size parts)),
    )

-- the part and the common block behind what is written, before one part less
pub done_followed : (common : List ℕ) (size n k at : ℕ) (parts to whole : List ℕ) → k < n → size ≤ length parts → at + length (followed common size (n - k) parts) ≡ length to
    → take at to ++ followed common size (n - k) parts ≡ whole
    → take (at + (size + length common)) (put (at + size) common (put at (take size parts) to)) ++ followed common size (n - (k + 1)) (drop size parts) ≡ whole
done_followed common size n k at parts to whole more enough left done =
    let rest = followed common size (n - (k + 1)) (drop size parts) in
    let part = take size parts in
    let count : length part ≡ size = length-take-le size parts enough in
    let within : at + length part + length common ≤ length to = omega (arith, count, left_followed common size n k at (length to) parts more enough left) in
    let both : take (at + (size + length common)) (put (at + size) common (put at part to)) ≡ take at to ++ (part ++ common)
    = subst (λ s. take (at + (s + length common)) (put (at + s) common (put at part to)) ≡ take at to ++ (part ++ common)) count (take_put_put at part common to within) in
    ap (λ ys. ys ++ rest) both ∙ append_assoc (take at to) (part ++ common) rest
    ∙ ap (λ ys. take at to ++ ys) (append_assoc part common rest)
    ∙ ap (λ ys. take at to ++ ys) (sym (followed_next common size n k parts more)) ∙ done

-- behind what is written nothing changes
pub drop_put_behind : (at : ℕ) (ys xs : List ℕ) → at + length ys ≤ length xs → drop (at + length ys) (put at ys xs) ≡ drop (at + length ys) xs
drop_put_behind at ys xs within = same_lists _ _ (grind (arith, places)) (λ k d w. grind (arith, places))

pub drop_more : (at n : ℕ) (xs ys : List ℕ) → length xs ≡ length ys → drop at xs ≡ drop at ys → drop (at + n) xs ≡ drop (at + n) ys
drop_more at n xs ys len same = sym (drop-drop n at xs) ∙ ap (drop n) same ∙ drop-drop n at ys
