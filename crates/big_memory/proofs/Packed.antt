-- Laws of marks that are packed in words.
use Rattle.std.proofs.Common.{◌≡◌, ◌≢◌, inl, inr, ℕ, zero, suc, ◌+◌, ◌-◌, ◌*◌, ◌/◌, ◌%◌, ◌^◌, ◌<◌, ◌≤◌, ◌==◌, drop, Bool, true, false, List, [], ◌∷◌, ◌++◌, length, get_or, set, replicate, slice_range, ◌⊎◌, bit_and, bit_or, arith, sym, ◌∙◌, ap, refl, lit<}
use Rattle.std.specs.List.{list_any}
use Rattle.std.specs.Int.{bit_at, w32}
use Rattle.std.proofs.lemmas.List.{get_or-map, get_or_append_left, get_or-append_right, get_or-set_same, get_or-set_other, length-set, ext_get_or, replicate-append-replicate, length-replicate, get_or-replicate, length-take, length-drop, get_or-take, get_or-drop}
use Rattle.std.proofs.lemmas.List.Folds.{list_any_at}
use Rattle.std.proofs.Math.Nat.{pow-le-pow_right}
use Rattle.std.proofs.lemmas.Nat.{pow_pos}
use Rattle.std.proofs.lemmas.Bool.{cases_eq, cases_lt, eqb-true}
use Rattle.std.proofs.lemmas.Nat.Bits.{bit_at-zero, bit_at-lt, bit_at_and, bit_at_or, bit_at_not, bit_at_mask_inside, bit_at_mask_below, bit_at_mask_above}
use Rattle.mix_bits.proofs.Every.{every_at}
use Rattle.big_memory.specs.Lists.{put}
use Rattle.big_memory.specs.Marks.{places_in, marks_in, marks_of}
use Rattle.big_memory.proofs.Lists.{length-put, put-append, get_or-put_inside, get_or-put_outside}

-- 32 marks a word
pub length-marks : (guard : List ℕ) → length (marks_of guard) ≡ 32 * length guard
length-marks [] = refl
length-marks (x ∷ xs) = omega (arith, length-marks xs)

-- the marks of words that mark nothing
pub marks-zeros : (n : ℕ) → marks_of (replicate n 0) ≡ replicate (32 * n) false
marks-zeros zero = refl
marks-zeros (suc n) =
    let more : 32 + 32 * n ≡ 32 * suc n = omega arith in
    ap (λ marks. replicate 32 false ++ marks) (marks-zeros n) ∙ replicate-append-replicate 32 (32 * n) false ∙ ap (λ k. replicate k false) more

-- a place of a word is its own index
place_at : (place : ℕ) → place < 32 → get_or places_in place 0 ≡ place
place_at place small = eqb-true _ _ (every_at 5 (λ k. get_or places_in k 0 == k) place refl small)

-- a mark of a word is its bit
get_or-marks_in : (word place : ℕ) → place < 32 → get_or (marks_in word) place false ≡ (bit_at word place == 1)
get_or-marks_in word place small =
    get_or-map (λ k. bit_at word k == 1) places_in place 0 false small ∙ ap (λ k. bit_at word k == 1) (place_at place small)

-- the mark of a unit stands in its word
get_or-marks : (guard : List ℕ) (q r k : ℕ) → k ≡ 32 * q + r → r < 32 → q < length guard → get_or (marks_of guard) k false ≡ get_or (marks_in (get_or guard q 0)) r false
get_or-marks [] q r k unit small within = absurd (omega arith)
get_or-marks (x ∷ xs) zero r k unit small within =
    let same : k ≡ r = omega arith in rw same (get_or_append_left (marks_in x) (marks_of xs) false r small)
get_or-marks (x ∷ xs) (suc q) r k unit small within =
    get_or-append_right (marks_in x) (marks_of xs) 32 k false refl (omega arith) ∙ get_or-marks xs q r (k - 32) (omega arith) small (omega arith)

-- the same for a unit's number
pub get_or-marks_at : (guard : List ℕ) (unit : ℕ) → unit < length (marks_of guard) → get_or (marks_of guard) unit false ≡ (bit_at (get_or guard (unit / 32) 0) (unit % 32) == 1)
get_or-marks_at guard unit within =
    get_or-marks guard (unit / 32) (unit % 32) unit (omega arith) (omega arith) (omega (arith, length-marks guard)) ∙ get_or-marks_in _ _ (omega arith)

-- a unit in a word of the guard that was replaced, and one in another word
get_or-marks_same : (guard : List ℕ) (q k new : ℕ) → q < length guard → k / 32 ≡ q → get_or (marks_of (set guard q new)) k false ≡ (bit_at new (k % 32) == 1)
get_or-marks_same guard q k new within here =
    let there : k < length (marks_of (set guard q new)) = omega (arith, length-marks (set guard q new), length-set guard q new) in
    let word : get_or (set guard q new) (k / 32) 0 ≡ new = rw here (get_or-set_same guard q new 0 within) in
    get_or-marks_at (set guard q new) k there ∙ ap (λ b. bit_at b (k % 32) == 1) word

get_or-marks_other : (guard : List ℕ) (q k new : ℕ) → k < length (marks_of guard) → k / 32 ≢ q → get_or (marks_of (set guard q new)) k false ≡ get_or (marks_of guard) k false
get_or-marks_other guard q k new within other =
    let there : k < length (marks_of (set guard q new)) = omega (arith, length-marks guard, length-marks (set guard q new), length-set guard q new) in
    get_or-marks_at (set guard q new) k there ∙ ap (λ b. bit_at b (k % 32) == 1) (get_or-set_other guard q (k / 32) new 0 other) ∙ sym (get_or-marks_at guard k within)

-- a unit whose bit stays
get_or-marks_kept : (guard : List ℕ) (q k new : ℕ) → q < length guard → k < length (marks_of guard) → (k / 32 ≡ q → bit_at new (k % 32) ≡ bit_at (get_or guard q 0) (k % 32)) → get_or (marks_of (set guard q new)) k false ≡ get_or (marks_of guard) k false
get_or-marks_kept guard q k new word within kept =
    elim (cases_eq (k / 32) q) [
      | inl here ↦
          get_or-marks_same guard q k new word here ∙ ap (λ bit. bit == 1) (kept here)
          ∙ ap (λ b. bit_at (get_or guard b 0) (k % 32) == 1) (sym here) ∙ sym (get_or-marks_at guard k within)
      | inr other ↦ get_or-marks_other guard q k new within other
    ]

-- a word of the guard replaced by one with another run of marks
pub put-marks : (guard : List ℕ) (q place end new : ℕ) (on : Bool) → q < length guard → place ≤ end → end ≤ 32
    → ((k : ℕ) → place ≤ k → k < end → (bit_at new k == 1) ≡ on)
    → ((k : ℕ) → k < place → bit_at new k ≡ bit_at (get_or guard q 0) k)
    → ((k : ℕ) → end ≤ k → k < 32 → bit_at new k ≡ bit_at (get_or guard q 0) k)
    → marks_of (set guard q new) ≡ put (32 * q + place) (replicate (end - place) on) (marks_of guard)
put-marks guard q place end new on word order within inside below above =
    let run = replicate (end - place) on in
    let many : length run ≡ end - place = length-replicate (end - place) on in
    let long : length (marks_of (set guard q new)) ≡ length (marks_of guard) = omega (arith, length-marks guard, length-marks (set guard q new), length-set guard q new) in
    let room : 32 * q + place + length run ≤ length (marks_of guard) = omega (arith, length-marks guard) in
    let same : length (put (32 * q + place) run (marks_of guard)) ≡ length (marks_of guard) = length-put (32 * q + place) run (marks_of guard) room in
    ext_get_or false _ _ (long ∙ sym same) (λ k small.
    let there : k < length (marks_of guard) = omega (arith, small) in
    let outside : (k < 32 * q + place) ⊎ (32 * q + place + length run ≤ k) → get_or (marks_of (set guard q new)) k false ≡ get_or (put (32 * q + place) run (marks_of guard)) k false
    = λ apart. get_or-marks_kept guard q k new word there (λ here.
    elim apart [
      | inl low ↦ below (k % 32) (omega arith)
      | inr high ↦ above (k % 32) (omega arith) (omega arith)
    ])
    ∙ sym (get_or-put_outside (32 * q + place) k run (marks_of guard) false room apart) in
    elim (cases_lt k (32 * q + place)) [
      | inl low ↦ outside (inl low)
      | inr from ↦
          elim (cases_lt k (32 * q + end)) [
            | inl to ↦
                get_or-marks_same guard q k new word (omega arith) ∙ inside (k % 32) (omega arith) (omega arith)
                ∙ sym (get_or-put_inside (32 * q + place) k run (marks_of guard) false room from (omega arith) ∙ get_or-replicate (end - place) (k - (32 * q + place)) on false (omega arith))
            | inr high ↦ outside (inr (omega arith))
          ]
    ])

-- a run of marks goes on
pub put-runs : (at n m k : ℕ) (on : Bool) (marks : List Bool) → k ≡ at + n → k + m ≤ length marks → put k (replicate m on) (put at (replicate n on) marks) ≡ put at (replicate (n + m) on) marks
put-runs at n m k on marks place within =
    let many : length (replicate n on) ≡ n = length-replicate n on in
    let more : length (replicate m on) ≡ m = length-replicate m on in
    let here : at + length (replicate n on) ≡ k = omega arith in
    ap (λ p. put p (replicate m on) (put at (replicate n on) marks)) (sym here)
    ∙ sym (put-append at (replicate n on) (replicate m on) marks (omega arith))
    ∙ ap (λ run. put at run marks) (replicate-append-replicate n m on)

-- the units of a word that marks nothing
pub get_or-marks_clear : (guard : List ℕ) (unit k : ℕ) → unit % 32 ≡ 0 → unit + 32 ≤ length (marks_of guard) → get_or guard (unit / 32) 0 ≡ 0 → unit ≤ k → k < unit + 32 → get_or (marks_of guard) k false ≡ false
get_or-marks_clear guard unit k first within clear from to =
    let same : k / 32 ≡ unit / 32 = omega arith in
    let zero : get_or guard (k / 32) 0 ≡ 0 = ap (λ q. get_or guard q 0) same ∙ clear in
    get_or-marks_at guard k (omega arith) ∙ ap (λ word. bit_at word (k % 32) == 1) zero ∙ ap (λ bit. bit == 1) (bit_at-zero (k % 32))

-- whether one of a range of marks is set
none_set : (marks : List Bool) → ((k : ℕ) → k < length marks → get_or marks k false ≡ false) → list_any (λ mark. mark) marks ≡ false
none_set [] each = refl
none_set (x ∷ xs) each =
    let first : x ≡ false = each 0 (omega arith) in rw first (none_set xs (λ k within. each (suc k) (omega (arith, within))))

pub any_none : (marks : List Bool) (from to : ℕ) → to ≤ length marks → ((k : ℕ) → from ≤ k → k < to → get_or marks k false ≡ false) → list_any (λ mark. mark) (slice_range marks from to) ≡ false
any_none marks from to within each =
    none_set (slice_range marks from to) (λ k small.
    let below : k < to - from = omega (arith, small, length-take (to - from) (drop from marks), length-drop from marks) in
    get_or-take (to - from) (drop from marks) k false below ∙ get_or-drop from marks k false ∙ each (from + k) (omega arith) (omega arith))

pub any_found : (marks : List Bool) (from to k : ℕ) → to ≤ length marks → from ≤ k → k < to → get_or marks k false ≡ true → list_any (λ mark. mark) (slice_range marks from to) ≡ true
any_found marks from to k within after before set =
    let place : from + (k - from) ≡ k = omega arith in
    list_any_at (λ mark. mark) (slice_range marks from to) (k - from) false
    (omega (arith, length-take (to - from) (drop from marks), length-drop from marks))
    (get_or-take (to - from) (drop from marks) (k - from) false (omega arith) ∙ get_or-drop from marks (k - from) false ∙ ap (λ n. get_or marks n false) place ∙ set)

-- a mask of ones from a place up to another, and the bits beside it
mask_outside : (place end k : ℕ) → (k < place) ⊎ (end ≤ k) → bit_at (2 ^ end - 2 ^ place) k ≡ 0
mask_outside place end k (inl low) = bit_at_mask_below place end k low
mask_outside place end k (inr high) = bit_at_mask_above place end k high

mask-small : (place end : ℕ) → end ≤ 32 → 2 ^ end - 2 ^ place < 2 ^ 32
mask-small place end small =
    let most : 2 ^ end ≤ 2 ^ 32 = pow-le-pow_right (lit< tt) small in
    let some : 0 < 2 ^ place = pow_pos place in
    omega arith

-- a power that one word has a bit for, as the code makes it
pub power-fits : (k : ℕ) → k ≤ 32 → 1 * 2 ^ k % 2 ^ 64 ≡ 2 ^ k
power-fits k small = let most : 2 ^ k ≤ 2 ^ 32 = pow-le-pow_right (lit< tt) small in omega arith

pub mask-is : (place end : ℕ) → place ≤ end → end ≤ 32 → 1 * 2 ^ end % 2 ^ 64 - 1 * 2 ^ place % 2 ^ 64 ≡ 2 ^ end - 2 ^ place
mask-is place end order small = let first = power-fits place (omega arith) in let last = power-fits end small in rw (first, last) refl

mask_not : (place end k : ℕ) → end ≤ 32 → k < 32 → bit_at (4294967295 - (2 ^ end - 2 ^ place)) k ≡ 1 - bit_at (2 ^ end - 2 ^ place) k
mask_not place end k small within = bit_at_not w32 (2 ^ end - 2 ^ place) k (mask-small place end small) within

-- what the code's masks do
pub bits-or : (word place end k : ℕ) → place ≤ k → k < end → bit_at (bit_or word (2 ^ end - 2 ^ place)) k ≡ 1
bits-or word place end k from to =
    bit_at_or word (2 ^ end - 2 ^ place) k ∙ omega (arith, bit_at_mask_inside place end k from to, bit_at-lt word k)

pub bits-or_kept : (word place end k : ℕ) → (k < place) ⊎ (end ≤ k) → bit_at (bit_or word (2 ^ end - 2 ^ place)) k ≡ bit_at word k
bits-or_kept word place end k apart =
    bit_at_or word (2 ^ end - 2 ^ place) k ∙ omega (arith, mask_outside place end k apart)

pub bits-and : (word place end k : ℕ) → end ≤ 32 → place ≤ k → k < end → bit_at (bit_and word (4294967295 - (2 ^ end - 2 ^ place))) k ≡ 0
bits-and word place end k small from to =
    bit_at_and word (4294967295 - (2 ^ end - 2 ^ place)) k
    ∙ omega (arith, mask_not place end k small (omega arith), bit_at_mask_inside place end k from to)

pub bits-and_kept : (word place end k : ℕ) → end ≤ 32 → k < 32 → (k < place) ⊎ (end ≤ k) → bit_at (bit_and word (4294967295 - (2 ^ end - 2 ^ place))) k ≡ bit_at word k
bits-and_kept word place end k small within apart =
    bit_at_and word (4294967295 - (2 ^ end - 2 ^ place)) k
    ∙ omega (arith, mask_not place end k small within, mask_outside place end k apart, bit_at-lt word k)
