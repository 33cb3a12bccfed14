-- What the list is without the one block that begins at an address.
use Rattle.std.proofs.Common.{ℕ, ◌≡◌, ◌+◌, ◌-◌, ◌<◌, ◌≤◌, suc, Bool, true, false, not, Some, List, [], ◌∷◌, length, inl, inr, refl, sym, ap, ◌∙◌, arith}
use Rattle.std.specs.Prelude.{AllPairs, filter, is_some}
use Rattle.std.specs.List.{list_any, position, position_from, remove}
use Rattle.std.proofs.lemmas.Bool.{cases_Bool}
use Rattle.std.proofs.lemmas.Iterator.Adapters.{position_from-zero}
use Rattle.host_heap.proofs.Order.{AllPairs-head, AllPairs-tail, filter_all}

found-from : {X : Type 0} (p : X → Bool) (xs : List X) (i : ℕ) → is_some (position_from p i xs) ≡ list_any p xs
found-from p [] i = refl
found-from p (x ∷ xs) i = elim (cases_Bool (p x)) [ inl passes ↦ rw passes refl | inr fails ↦ rw fails (found-from p xs (i + 1)) ]

-- an element that passes has a place
pub position-any : {X : Type 0} (p : X → Bool) (xs : List X) → is_some (position p xs) ≡ list_any p xs
position-any p xs = rw (position_from-zero p xs) (found-from p xs 0)

record IsLeft {X : Type 0} (p : X → Bool) (xs : List X) (i k : ℕ) : Type 0 where
  from : i ≤ k
  within : k < i + length xs
  rest : filter (λ x. not (p x)) xs ≡ remove xs (k - i)

left-from : {X : Type 0} (p : X → Bool) (xs : List X) (i k : ℕ) → AllPairs (λ x y. p x ≡ true → p y ≡ false) xs → position_from p i xs ≡ Some k → IsLeft p xs i k
left-from p [] i k one is = absurd cc
left-from p (x ∷ xs) i k one is = elim (cases_Bool (p x)) [
  | inl passes ↦
      let here : Some i ≡ Some k = rw passes at is in
      let same : i ≡ k = cc in
      let none : k - i ≡ 0 = omega arith in
      let others = AllPairs-head (λ x y. p x ≡ true → p y ≡ false) x xs one in
      record {
        from = omega arith;
        within = omega arith;
        rest = rw (passes, none) (filter_all (λ y. not (p y)) xs (λ j d l. ap not (others j d l passes)));
      }
  | inr fails ↦
      let there : position_from p (i + 1) xs ≡ Some k = rw fails at is in
      let later = left-from p xs (i + 1) k (AllPairs-tail (λ x y. p x ≡ true → p y ≡ false) x xs one) there in
      let next : k - i ≡ suc (k - (i + 1)) = omega (arith, later.from) in
      record {
        from = omega (arith, later.from);
        within = omega (arith, later.within);
        rest = rw (fails, next) (ap (λ ys. x ∷ ys) later.rest);
      }
]

-- a place that was found
pub position-within : {X : Type 0} (p : X → Bool) (xs : List X) (k : ℕ) → AllPairs (λ x y. p x ≡ true → p y ≡ false) xs → position p xs ≡ Some k → k < length xs
position-within p xs k one is =
    let left = left-from p xs 0 k one (sym (position_from-zero p xs) ∙ is) in omega (arith, left.within)

-- without the one element that passes the others are there in order
pub removed-passing : {X : Type 0} (p : X → Bool) (xs : List X) (k : ℕ) → AllPairs (λ x y. p x ≡ true → p y ≡ false) xs → position p xs ≡ Some k → remove xs k ≡ filter (λ x. not (p x)) xs
removed-passing p xs k one is =
    let left = left-from p xs 0 k one (sym (position_from-zero p xs) ∙ is) in
    let whole : k - 0 ≡ k = omega arith in
    rw whole at (sym left.rest)
