-- lists whose elements stand in order, and what an edit leaves of them
use Rattle.std.proofs.Common.{ℕ, ◌≡◌, ◌+◌, ◌<◌, ◌≤◌, suc, Bool, true, false, not, List, [], ◌∷◌, ◌++◌, length, take, drop, refl, sym, ap, ◌∙◌, arith, inl, inr}
use Rattle.std.specs.List.{All, AllPairs, AllWithin, filter, insert, list_any}
use Rattle.std.specs.List.Sorted.{IsPartitionPoint}
use Rattle.std.proofs.lemmas.Bool.{cases_Bool, or_parts}
use Rattle.std.proofs.lemmas.List.{append-nil, take-append-drop, length-take, length-drop, get_or-take, get_or-drop}
use Rattle.std.proofs.lemmas.List.Elements.{All-head, All-tail, All-append, All-drop, filter-append}
use Rattle.std.proofs.lemmas.List.Kept.{AllPairs-cons}

pub AllPairs-head : {X : Type 0} (R : X → X → Type 0) → (x : X) (xs : List X) → AllPairs R (x ∷ xs) → All (R x) xs
AllPairs-head R x xs h = λ k d l. h 0 (suc k) d (omega arith) (omega arith)

pub AllPairs-tail : {X : Type 0} (R : X → X → Type 0) → (x : X) (xs : List X) → AllPairs R (x ∷ xs) → AllPairs R xs
AllPairs-tail R x xs h = λ i j d l k. h (suc i) (suc j) d (omega arith) (omega arith)

-- two lists one after the other
pub AllPairs-append : {X : Type 0} (R : X → X → Type 0) → (xs ys : List X) → AllPairs R xs → AllPairs R ys → All (λ x. All (R x) ys) xs → AllPairs R (xs ++ ys)
AllPairs-append R [] ys h k across = k
AllPairs-append R (x ∷ xs) ys h k across =
    AllPairs-cons R x (xs ++ ys)
    (All-append (R x) xs ys (AllPairs-head R x xs h) (All-head (λ z. All (R z) ys) x xs across))
    (AllPairs-append R xs ys (AllPairs-tail R x xs h) k (All-tail (λ z. All (R z) ys) x xs across))

pub filter_all : {X : Type 0} (p : X → Bool) → (xs : List X) → All (λ x. p x ≡ true) xs → filter p xs ≡ xs
filter_all p [] h = refl
filter_all p (x ∷ xs) h =
    let here = All-head (λ z. p z ≡ true) x xs h in
    let rest = filter_all p xs (All-tail (λ z. p z ≡ true) x xs h) in
    rw here (ap (λ zs. x ∷ zs) rest)

pub filter_none : {X : Type 0} (p : X → Bool) → (xs : List X) → All (λ x. p x ≡ false) xs → filter p xs ≡ []
filter_none p [] h = refl
filter_none p (x ∷ xs) h =
    let here = All-head (λ z. p z ≡ false) x xs h in
    let rest = filter_none p xs (All-tail (λ z. p z ≡ false) x xs h) in
    rw here rest

-- two tests that no element passes both keep no more than there are
pub length-filter_two : {X : Type 0} (p q : X → Bool) → ((x : X) → p x ≡ true → q x ≡ false) → (xs : List X) → length (filter p xs) + length (filter q xs) ≤ length xs
length-filter_two p q apart [] = omega arith
length-filter_two p q apart (x ∷ xs) =
    let rest = length-filter_two p q apart xs in
    elim (cases_Bool (p x)) [
      | inl passes ↦ rw (passes, apart x passes) (omega arith)
      | inr fails ↦ elim (cases_Bool (q x)) [ inl passes ↦ rw (fails, passes) (omega arith) | inr other ↦ rw (fails, other) (omega arith) ]
    ]

pub length-filter-le : {X : Type 0} (p : X → Bool) → (xs : List X) → length (filter p xs) ≤ length xs
length-filter-le p xs = let two = length-filter_two p (λ _. false) (λ _ _. refl) xs in omega arith

pub All-front : {X : Type 0} (P : X → Type 0) → (xs : List X) (i : ℕ) → AllWithin P xs 0 i → All P (take i xs)
All-front P xs i h =
    λ k d l. let short : k < i = omega (arith, length-take i xs) in rw (get_or-take i xs k d short) (h k d (omega arith) short)

pub All-back : {X : Type 0} (P : X → Type 0) → (xs : List X) (i : ℕ) → AllWithin P xs i (length xs) → All P (drop i xs)
All-back P xs i h =
    λ k d l. rw (get_or-drop i xs k d) (h (i + k) d (omega arith) (omega (arith, length-drop i xs)))

-- an element goes in between those that pass p and those that pass q
pub insert-filters : {X : Type 0} (p q : X → Bool) → ((x : X) → p x ≡ true → q x ≡ false) → (xs : List X) (i : ℕ) (x : X) → All (λ y. p y ≡ false → q y ≡ true) xs → IsPartitionPoint (λ y. p y ≡ true) (λ y. p y ≡ false) xs i → insert xs i x ≡ filter p xs ++ x ∷ filter q xs
insert-filters p q disjoint xs i x other point =
    let front = All-front (λ y. p y ≡ true) xs i point.0 in
    let back = All-back (λ y. p y ≡ false) xs i point.1 in
    let others = All-drop (λ y. p y ≡ false → q y ≡ true) i xs other in
    let below : filter p xs ≡ take i xs =
    sym (ap (filter p) (take-append-drop i xs)) ∙ filter-append p (take i xs) (drop i xs)
    ∙ ap (λ ys. ys ++ filter p (drop i xs)) (filter_all p (take i xs) front)
    ∙ ap (λ ys. take i xs ++ ys) (filter_none p (drop i xs) back)
    ∙ append-nil (take i xs) in
    let above : filter q xs ≡ drop i xs =
    sym (ap (filter q) (take-append-drop i xs)) ∙ filter-append q (take i xs) (drop i xs)
    ∙ ap (λ ys. ys ++ filter q (drop i xs)) (filter_none q (take i xs) (λ k d l. disjoint _ (front k d l)))
    ∙ filter_all q (drop i xs) (λ k d l. others k d l (back k d l)) in
    rw (below, above) refl

-- a filter that leaves out nothing
pub filter_out_none : {X : Type 0} (p : X → Bool) → (xs : List X) → list_any p xs ≡ false → filter (λ x. not (p x)) xs ≡ xs
filter_out_none p [] h = refl
filter_out_none p (x ∷ xs) h =
    let parts = or_parts (p x) (list_any p xs) h in
    rw parts.0 (ap (λ ys. x ∷ ys) (filter_out_none p xs parts.1))
