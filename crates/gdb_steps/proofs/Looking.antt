-- Ranges looked at one after the other.
use Rattle.std.proofs.Common.{◌≡◌, ℕ, suc, ◌+◌, ◌<◌, ◌≤◌, bytes_eq, cond, filter, map, not, ◌||◌, Bool, true, false, if◌then◌else◌, List, [], ◌∷◌, length, drop, get_or, slice_set, None, Some, refl, sym, ap, ◌∙◌, arith}
use Rattle.std.specs.List.{list_any}
use Rattle.std.proofs.lemmas.List.Elements.{AllWithin-more_set}
use Rattle.std.proofs.Math.Seq.{drop-cons}
use Rattle.std.proofs.Math.ListN.{drop_of_length-le}
use Rattle.big_memory.specs.Lists.{part}
use Rattle.gdb_steps.specs.declared.watch.Watch.{Watch}
use Rattle.gdb_steps.specs.inner.Looks.{first_unlike}

one-more : (n : ℕ) → suc n ≡ n + 1
one-more n = omega arith

at-watch : (ws : List Watch) (i : ℕ) (w : Watch) (ram : List ℕ) → i < length ws → w ≡ get_or ws i w
    → first_unlike (drop i ws) ram ≡ (if bytes_eq w.seen.items (part w.at w.count ram) then first_unlike (drop (i + 1) ws) ram else Some w.at)
unfolding first_unlike
at-watch ws i w ram few is =
    ap (λ vs. first_unlike vs ram) (drop-cons ws i w few ∙ (ap (λ v. v ∷ drop (suc i) ws) (sym is) ∙ ap (λ n. w ∷ drop n ws) (one-more i)))

pub unlike-here : (ws : List Watch) (i : ℕ) (w : Watch) (ram : List ℕ) (b : Bool) → i < length ws → w ≡ get_or ws i w → b ≡ not (bytes_eq w.seen.items (part w.at w.count ram)) → b ≡ true
    → first_unlike (drop i ws) ram ≡ Some w.at
unlike-here ws i w ram b few is test yes_it = at-watch ws i w ram few is ∙ by (bytes_eq w.seen.items (part w.at w.count ram)) (sym test ∙ yes_it)
  where
    by : (t : Bool) → not t ≡ true → (if t then first_unlike (drop (i + 1) ws) ram else Some w.at) ≡ Some w.at
    by true no_it = cc
    by false no_it = refl

pub unlike-next : (ws : List Watch) (i : ℕ) (w : Watch) (ram : List ℕ) (b : Bool) → i < length ws → w ≡ get_or ws i w → b ≡ not (bytes_eq w.seen.items (part w.at w.count ram)) → b ≡ false
    → first_unlike (drop i ws) ram ≡ first_unlike (drop (i + 1) ws) ram
unlike-next ws i w ram b few is test no_it = at-watch ws i w ram few is ∙ by (bytes_eq w.seen.items (part w.at w.count ram)) (sym test ∙ no_it)
  where
    by : (t : Bool) → not t ≡ false → (if t then first_unlike (drop (i + 1) ws) ram else Some w.at) ≡ first_unlike (drop (i + 1) ws) ram
    by true it = refl
    by false it = cc

pub unlike-none : (ws : List Watch) (i : ℕ) (ram : List ℕ) → length ws ≤ i → first_unlike (drop i ws) ram ≡ None
unfolding first_unlike
unlike-none ws i ram past = ap (λ vs. first_unlike vs ram) (drop_of_length-le ws past)

-- ---- ranges seen one after the other

pub seen-more : (P : Watch → Type 0) (ws : List Watch) (i : ℕ) (w : Watch) → i < length ws → P w → ((k : ℕ) (d : Watch) → k < i → P (get_or ws k d)) → (k : ℕ) (d : Watch) → k < i + 1 → P (get_or (slice_set ws i w) k d)
seen-more P ws i w few here before = λ k d less. AllWithin-more_set ws i w few P (λ j e low high. before j e high) here k d (omega arith) less

-- ---- ranges by what is watched

pub any-map : {A B : Type 0} (p : B → Bool) (f : A → B) (xs : List A) → list_any p (map f xs) ≡ list_any (λ x. p (f x)) xs
any-map p f [] = refl
any-map p f (x ∷ xs) = ap (λ b. p (f x) || b) (any-map p f xs)

one-left : {A B : Type 0} (b : Bool) (f : A → B) (x : A) (xs : List A) (ys : List B) → map f xs ≡ ys → map f (cond b (x ∷ xs) xs) ≡ cond b (f x ∷ ys) ys
one-left true f x xs ys is = ap (λ zs. f x ∷ zs) is
one-left false f x xs ys is = is

pub filter-map : {A B : Type 0} (p : B → Bool) (f : A → B) (xs : List A) → map f (filter (λ x. p (f x)) xs) ≡ filter p (map f xs)
filter-map p f [] = refl
filter-map p f (x ∷ xs) = one-left (p (f x)) f x (filter (λ y. p (f y)) xs) (filter p (map f xs)) (filter-map p f xs)
