-- Ranges outside which no byte has changed.
use Rattle.std.proofs.Common.{◌≡◌, ℕ, zero, suc, ◌+◌, ◌-◌, ◌<◌, ◌≤◌, ◌==◌, List, [], ◌∷◌, ◌++◌, length, take, drop, get_or, arith, ap, sym, subst, ◌∙◌, refl, add-zero, add-suc}
use Rattle.std.proofs.lemmas.Bool.{eq-eqb}
use Rattle.std.proofs.lemmas.List.{length-take-le, length-drop, take-append-drop, take-take, drop-drop, drop-take, append_assoc}
use Rattle.big_memory.specs.Lists.{part, put}
use Rattle.mix_debug.specs.inner.WrittenBack.{Covers, runs_in}
use Rattle.mix_debug.specs.Changes.{runs_from}

runs-none : (at : ℕ) (xs : List ℕ) → runs_from at xs xs ≡ []
unfolding runs_from
runs-none at [] = refl
runs-none at (x ∷ xs) = rw (eq-eqb x x refl) (runs-none (suc at) xs)

runs-front : (at : ℕ) (xs ys zs : List ℕ) → length xs ≡ length ys → runs_from at (xs ++ zs) (ys ++ zs) ≡ runs_from at xs ys
unfolding runs_from
runs-front at [] [] zs same = runs-none at zs
runs-front at [] (y ∷ ys) zs same = absurd (omega arith)
runs-front at (x ∷ xs) [] zs same = absurd (omega arith)
runs-front at (x ∷ xs) (y ∷ ys) zs same = let rest : length xs ≡ length ys = omega arith in rw (runs-front (suc at) xs ys zs rest) refl

first-same : (x y : ℕ) (xs ys : List ℕ) → x ∷ xs ≡ y ∷ ys → x ≡ y
first-same x y xs ys e = cc

rest-same : (x y : ℕ) (xs ys : List ℕ) → x ∷ xs ≡ y ∷ ys → xs ≡ ys
rest-same x y xs ys e = cc

runs-skip : (n at : ℕ) (xs ys : List ℕ) → take n xs ≡ take n ys → n ≤ length xs → n ≤ length ys → runs_from at xs ys ≡ runs_from (at + n) (drop n xs) (drop n ys)
unfolding runs_from
runs-skip zero at xs ys same here there = rw add-zero refl
runs-skip (suc n) at [] ys same here there = absurd (omega arith)
runs-skip (suc n) at (x ∷ xs) [] same here there = absurd (omega arith)
runs-skip (suc n) at (x ∷ xs) (y ∷ ys) same here there =
    let on = runs-skip n (suc at) xs ys (rest-same x y (take n xs) (take n ys) same) (omega arith) (omega arith) in
    let place : suc at + n ≡ at + suc n = omega arith in
    rw (eq-eqb x y (first-same x y (take n xs) (take n ys) same)) (on ∙ ap (λ a. runs_from a (drop n xs) (drop n ys)) place)

-- the runs of a range that covers all changes are all runs
pub runs-covered : (low high : ℕ) (old new : List ℕ) → length old ≡ length new → Covers low high old new → runs_in low high old new ≡ runs_from 0 old new
runs-covered low high old new same covers =
    let old_front : length (take high old) ≡ high = length-take-le high old covers.old_long in
    let new_front : length (take high new) ≡ high = length-take-le high new covers.new_long in
    let order : low ≤ high = covers.order in
    let below : take low (take high old) ≡ take low (take high new) = take-take low high old order ∙ covers.below ∙ sym (take-take low high new order) in
    let skipped = runs-skip low 0 (take high old) (take high new) below (omega (arith, old_front)) (omega (arith, new_front)) in
    let place : 0 + low ≡ low = omega arith in
    let front = runs-front 0 (take high old) (take high new) (drop high new) (old_front ∙ sym new_front) in
    let whole : take high old ++ drop high new ≡ old = ap (λ zs. take high old ++ zs) (sym covers.above) ∙ take-append-drop high old in
    ap (λ a. runs_from a (drop low (take high old)) (drop low (take high new))) (sym place) ∙ sym skipped ∙ sym front
    ∙ ap (λ zs. runs_from 0 zs (take high new ++ drop high new)) whole ∙ ap (runs_from 0 old) (take-append-drop high new)

-- the bytes of such a range written over the old ones give the new ones
pub range-copied : (low high : ℕ) (old new : List ℕ) → length old ≡ length new → Covers low high old new → put low (part low (high - low) new) old ≡ new
range-copied low high old new same covers =
    let order : low ≤ high = covers.order in
    let long : high ≤ length new = covers.new_long in
    let size : length (part low (high - low) new) ≡ high - low = length-take-le (high - low) (drop low new) (omega (arith, length-drop low new)) in
    let end : low + length (part low (high - low) new) ≡ high = omega (arith, size, order) in
    let upto : low + (high - low) ≡ high = omega (arith, order) in
    let middle : part low (high - low) new ≡ drop low (take high new) = sym (ap (λ n. drop low (take n new)) (sym upto) ∙ drop-take low (high - low) new) in
    let lower : take low (take high new) ≡ take low new = take-take low high new order in
    ap (λ zs. zs ++ (part low (high - low) new ++ drop (low + length (part low (high - low) new)) old)) (covers.below ∙ sym lower)
    ∙ ap (λ n. take low (take high new) ++ (part low (high - low) new ++ drop n old)) end
    ∙ ap (λ zs. take low (take high new) ++ (part low (high - low) new ++ zs)) covers.above
    ∙ ap (λ zs. take low (take high new) ++ (zs ++ drop high new)) middle
    ∙ sym (append_assoc (take low (take high new)) (drop low (take high new)) (drop high new))
    ∙ ap (λ zs. zs ++ drop high new) (take-append-drop low (take high new))
    ∙ take-append-drop high new

take-nil : (m : ℕ) → take {A = ℕ} m [] ≡ []
take-nil zero = refl
take-nil (suc m) = refl

take-more : (low n : ℕ) (xs : List ℕ) → take (low + n) xs ≡ take low xs ++ take n (drop low xs)
take-more zero n xs = rw Rattle.std.proofs.Common.zero-add refl
take-more (suc low) n [] = take-nil (suc low + n) ∙ sym (take-nil n)
take-more (suc low) n (x ∷ xs) = let next : suc low + n ≡ suc (low + n) = omega arith in rw next (ap (λ ys. x ∷ ys) (take-more low n xs))

-- a piece at the front of it that is the same may be left out, and one at its end
pub covers-front : (low high n : ℕ) (old new : List ℕ) → low + n ≤ high → part low n old ≡ part low n new → Covers low high old new → Covers (low + n) high old new
covers-front low high n old new inside same covers =
    record {
      below = take-more low n old ∙ ap (λ zs. zs ++ part low n old) covers.below ∙ ap (λ zs. take low new ++ zs) same ∙ sym (take-more low n new);
      above = covers.above;
      order = inside;
      old_long = covers.old_long;
      new_long = covers.new_long;
    }

pub covers-back : (low high n : ℕ) (old new : List ℕ) → low + n ≤ high → part (high - n) n old ≡ part (high - n) n new → Covers low high old new → Covers low (high - n) old new
covers-back low high n old new inside same covers =
    let upto : (high - n) + n ≡ high = omega (arith, inside) in
    let old_long : high ≤ length old = covers.old_long in
    let new_long : high ≤ length new = covers.new_long in
    record {
      below = covers.below;
      above = split old ∙ ap (λ zs. zs ++ drop ((high - n) + n) old) same ∙ ap (λ m. part (high - n) n new ++ drop m old) upto ∙ ap (λ zs. part (high - n) n new ++ zs) covers.above
          ∙ ap (λ m. part (high - n) n new ++ drop m new) (sym upto) ∙ sym (split new);
      order = omega (arith, inside);
      old_long = omega (arith, old_long);
      new_long = omega (arith, new_long);
    }
  where
    split : (zs : List ℕ) → drop (high - n) zs ≡ part (high - n) n zs ++ drop ((high - n) + n) zs
    split zs = sym (take-append-drop n (drop (high - n) zs)) ∙ ap (λ ys. part (high - n) n zs ++ ys) (drop-drop n (high - n) zs)

-- the runs that are found in such a range
pub runs-found : (low high : ℕ) (items old other bytes ram : List ℕ) → old ≡ items → other ≡ items → bytes ≡ ram → length items ≡ length ram → Covers low high old bytes
    → runs_in low high other bytes ≡ runs_from 0 items ram
runs-found low high items old other bytes ram is that now same covers =
    let here : Covers low high items ram = subst (Covers low high items) now (subst (λ xs. Covers low high xs bytes) is covers) in
    ap (λ xs. runs_in low high xs bytes) that ∙ ap (runs_in low high items) now ∙ runs-covered low high items ram same here
