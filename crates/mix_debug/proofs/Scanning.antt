-- Changed bytes found from the last one down.
use Rattle.std.proofs.Common.{◌≡◌, ℕ, zero, suc, ◌+◌, ◌-◌, ◌<◌, ◌≤◌, ◌==◌, Bool, true, false, not, List, [], ◌∷◌, ◌++◌, length, take, drop, get_or, inl, inr, cond, arith, ap, sym, subst, ◌∙◌, refl}
use Rattle.std.proofs.Math.Seq.{drop-cons}
use Rattle.std.proofs.lemmas.Bool.{cases_Bool, eq-eqb, ne_eqb}
use Rattle.std.proofs.lemmas.List.{get_or-take, length-append, length-take-le, take-take}
use Rattle.mix_debug.specs.declared.head.Span.{Span}
use Rattle.mix_debug.specs.Changes.{Run, joined, runs_from}
use Rattle.mix_debug.specs.inner.WrittenBack.{begins}
use Rattle.mix_debug.specs.WrittenBack.{olds_of}
use Rattle.mix_debug.specs.inner.Entries.{closed, started}
use Rattle.mix_debug.specs.Entries.{spans_of}

-- the runs from an address on
abbrev pub runs_at : ℕ → List ℕ → List ℕ → List Run
runs_at at xs ys = runs_from at (drop at xs) (drop at ys)

-- the first run begins at an address or above it
abbrev pub Above : ℕ → List Run → Type 0
Above at [] = Unit {0}
Above at (r ∷ rs) = at ≤ r.at

above-begins : (k : ℕ) (rs : List Run) → Above (suc k) rs → begins k rs ≡ false
above-begins k [] above = refl
above-begins k (r ∷ rs) above = ne_eqb r.at k (λ e. omega (arith, e, above))

above-less : (k : ℕ) (rs : List Run) → Above (suc k) rs → Above k rs
above-less k [] above = tt
above-less k (r ∷ rs) above = omega (arith, above)

-- a byte that is the same, and one that is another
runs-same : (k : ℕ) (xs ys : List ℕ) → k < length xs → k < length ys → get_or xs k 0 ≡ get_or ys k 0 → runs_at k xs ys ≡ runs_at (suc k) xs ys
unfolding runs_from
runs-same k xs ys here there same = rw (drop-cons xs k 0 here, drop-cons ys k 0 there, eq-eqb (get_or xs k 0) (get_or ys k 0) same) refl

runs-other : (k : ℕ) (xs ys : List ℕ) → k < length xs → k < length ys → (get_or xs k 0 ≡ get_or ys k 0 → ⊥) → runs_at k xs ys ≡ joined k (get_or xs k 0) (runs_at (suc k) xs ys)
unfolding runs_from
runs-other k xs ys here there other = rw (drop-cons xs k 0 here, drop-cons ys k 0 there, ne_eqb (get_or xs k 0) (get_or ys k 0) other) refl

-- what a run gets in front of it
olds-joined : (k x : ℕ) (rs : List Run) → olds_of (joined k x rs) ≡ x ∷ olds_of rs
unfolding joined olds_of
olds-joined k x [] = refl
olds-joined k x (r ∷ rs) = elim (cases_Bool (r.at == suc k)) [ inl next ↦ rw next refl | inr apart ↦ rw apart refl ]

length-joined : (k x : ℕ) (rs : List Run) → length (joined k x rs) ≡ cond (begins (suc k) rs) (length rs) (suc (length rs))
unfolding joined
length-joined k x [] = refl
length-joined k x (r ∷ rs) = elim (cases_Bool (r.at == suc k)) [ inl next ↦ rw next refl | inr apart ↦ rw apart refl ]

begins-joined : (k x : ℕ) (rs : List Run) → begins k (joined k x rs) ≡ true
unfolding joined
begins-joined k x [] = eq-eqb k k refl
begins-joined k x (r ∷ rs) = elim (cases_Bool (r.at == suc k)) [ inl next ↦ rw next (eq-eqb k k refl) | inr apart ↦ rw apart (eq-eqb k k refl) ]

above-joined : (k x : ℕ) (rs : List Run) → Above k (joined k x rs)
unfolding joined
above-joined k x [] = omega arith
above-joined k x (r ∷ rs) = elim (cases_Bool (r.at == suc k)) [ inl next ↦ rw next (omega arith) | inr apart ↦ rw apart (omega arith) ]

-- the count so far: of runs, of bytes, and whether a run begins here
pub record Counted (at high : ℕ) (rs : List Run) (runs bytes : ℕ) (on : Bool) : Type 0 where
  pub runs_are : runs ≡ length rs
  pub bytes_are : bytes ≡ length (olds_of rs)
  pub open_is : on ≡ begins at rs
  pub above : Above at rs
  pub few : runs + at ≤ high
  pub small : bytes + at ≤ high

none-left : (high : ℕ) (xs ys : List ℕ) → length xs ≤ high → runs_at high xs ys ≡ []
unfolding runs_from
none-left high xs ys end = rw (dropped high xs end) refl
  where
    dropped : (n : ℕ) (zs : List ℕ) → length zs ≤ n → drop n zs ≡ []
    dropped n zs e = Rattle.std.proofs.lemmas.List.drop_all n zs e

pub counted-none : (high : ℕ) (xs ys : List ℕ) → length xs ≤ high → Counted high high (runs_at high xs ys) 0 0 false
unfolding olds_of
counted-none high xs ys end =
    subst (λ rs. Counted high high rs 0 0 false) (sym (none-left high xs ys end))
    (record { runs_are = refl; bytes_are = refl; open_is = refl; above = tt; few = omega arith; small = omega arith })

pub counted-same : (k high : ℕ) (xs ys : List ℕ) (runs bytes : ℕ) (on : Bool) → k < length xs → k < length ys → get_or xs k 0 ≡ get_or ys k 0
    → Counted (suc k) high (runs_at (suc k) xs ys) runs bytes on → Counted k high (runs_at k xs ys) runs bytes false
counted-same k high xs ys runs bytes on here there same counted =
    let rs : List Run = runs_at (suc k) xs ys in
    let few : runs + suc k ≤ high = counted.few in
    let small : bytes + suc k ≤ high = counted.small in
    subst (λ rs. Counted k high rs runs bytes false) (sym (runs-same k xs ys here there same))
    (record {
      runs_are = counted.runs_are;
      bytes_are = counted.bytes_are;
      open_is = sym (above-begins k rs counted.above);
      above = above-less k rs counted.above;
      few = omega (arith, few);
      small = omega (arith, small);
    })

pub counted-other : (k high : ℕ) (xs ys : List ℕ) (runs bytes : ℕ) (on : Bool) → k < length xs → k < length ys → (get_or xs k 0 ≡ get_or ys k 0 → ⊥)
    → Counted (suc k) high (runs_at (suc k) xs ys) runs bytes on → Counted k high (runs_at k xs ys) (runs + cond (not on) 1 0) (bytes + 1) true
counted-other k high xs ys runs bytes on here there other counted =
    let rs : List Run = runs_at (suc k) xs ys in
    let x : ℕ = get_or xs k 0 in
    let few : runs + suc k ≤ high = counted.few in
    let small : bytes + suc k ≤ high = counted.small in
    let runs_are : runs ≡ length rs = counted.runs_are in
    let bytes_are : bytes ≡ length (olds_of rs) = counted.bytes_are in
    subst (λ rs. Counted k high rs (runs + cond (not on) 1 0) (bytes + 1) true) (sym (runs-other k xs ys here there other))
    (record {
      runs_are = more on (begins (suc k) rs) runs (length rs) counted.open_is runs_are ∙ sym (length-joined k x rs);
      bytes_are = omega (arith, ap length (olds-joined k x rs), bytes_are);
      open_is = sym (begins-joined k x rs);
      above = above-joined k x rs;
      few = less on runs k high few;
      small = omega (arith, small);
    })
  where
    more : (a b : Bool) (m n : ℕ) → a ≡ b → m ≡ n → m + cond (not a) 1 0 ≡ cond b n (suc n)
    more true b m n e f = subst (λ c. m + 0 ≡ cond c n (suc n)) e (omega (arith, f))
    more false b m n e f = subst (λ c. m + 1 ≡ cond c n (suc n)) e (omega (arith, f))

    less : (a : Bool) (m k high : ℕ) → m + suc k ≤ high → m + cond (not a) 1 0 + k ≤ high
    less true m k high f = omega (arith, f)
    less false m k high f = omega (arith, f)

-- a run on its way: its bytes stand in front, its place does not yet
abbrev pub Opens : ℕ → ℕ → List Run → Type 0
Opens at zero rs = begins at rs ≡ false
Opens at (suc n) [] = ⊥
Opens at (suc n) (r ∷ rs) = (r.at ≡ at) × (length r.old ≡ suc n)

abbrev pub open_spans : ℕ → List Run → List Span
open_spans zero rs = spans_of rs
open_spans (suc n) rs = spans_of (drop 1 rs)

joined-new : (k x : ℕ) (rs : List Run) → begins (suc k) rs ≡ false → joined k x rs ≡ record { at = k; old = x ∷ [] } ∷ rs
unfolding joined
joined-new k x [] new = refl
joined-new k x (r ∷ rs) new = rw new refl

joined-on : (k x : ℕ) (r : Run) (rs : List Run) → r.at ≡ suc k → joined k x (r ∷ rs) ≡ record { at = k; old = x ∷ r.old } ∷ rs
unfolding joined
joined-on k x r rs on = rw (eq-eqb r.at (suc k) on) refl

-- a byte that goes into the run on its way
record Grown (k n : ℕ) (rs : List Run) (spans : List Span) : Type 0 where
  opens : Opens k n rs
  spans_are : open_spans n rs ≡ spans

grown : (k x on : ℕ) (rs : List Run) → Opens (suc k) on rs → Grown k (suc on) (joined k x rs) (open_spans on rs)
grown k x zero rs opens = subst (λ js. Grown k 1 js (spans_of rs)) (sym (joined-new k x rs opens)) (record { opens = (refl, refl); spans_are = refl })
grown k x (suc n) [] opens = absurd opens
grown k x (suc n) (r ∷ rs) opens =
    subst (λ js. Grown k (suc (suc n)) js (spans_of rs)) (sym (joined-on k x r rs opens.0)) (record { opens = (refl, ap suc opens.1); spans_are = refl })

-- a ring that is full lets go of what stands behind
pub take-front : {X : Type 0} (c : ℕ) (x : X) (xs : List X) → take c (x ∷ take c xs) ≡ take c (x ∷ xs)
take-front zero x xs = refl
take-front (suc c) x xs = ap (λ ys. x ∷ ys) (take-take c (suc c) xs (omega arith))

-- the run is whole
shut : (at on room : ℕ) (rs : List Run) (before : List Span) → Opens at on rs → closed room at on (take room (open_spans on rs ++ before)) ≡ take room (spans_of rs ++ before)
unfolding spans_of
shut at zero room rs before opens = refl
shut at (suc n) room [] before opens = absurd opens
shut at (suc n) room (r ∷ rs) before opens =
    take-front room (record { at = at; count = suc n }) (spans_of rs ++ before)
    ∙ ap (λ a. take room (record { at = a; count = suc n } ∷ (spans_of rs ++ before))) (sym opens.0)
    ∙ ap (λ k. take room (record { at = r.at; count = k } ∷ (spans_of rs ++ before))) (sym opens.1)

-- what stands in the rings so far, of which these items stood there before
pub record Pushed (at on : ℕ) (rs : List Run) (room : ℕ) (spans before : List Span) (most : ℕ) (olds kept : List ℕ) : Type 0 where
  pub opens : Opens at on rs
  pub above : Above at rs
  pub spans_are : spans ≡ take room (open_spans on rs ++ before)
  pub olds_are : olds ≡ take most (olds_of rs ++ kept)

pub pushed-none : (high room most : ℕ) (xs ys : List ℕ) (before : List Span) (kept : List ℕ) → length xs ≤ high → length before ≤ room → length kept ≤ most
    → Pushed high 0 (runs_at high xs ys) room before before most kept kept
unfolding olds_of spans_of
pushed-none high room most xs ys before kept end few small =
    subst (λ rs. Pushed high 0 rs room before before most kept kept) (sym (none-left high xs ys end))
    (record { opens = refl; above = tt; spans_are = sym (Rattle.std.proofs.lemmas.List.take_all room before few); olds_are = sym (Rattle.std.proofs.lemmas.List.take_all most kept small) })

pub pushed-other : (k on room most : ℕ) (xs ys : List ℕ) (spans before : List Span) (olds kept : List ℕ) → k < length xs → k < length ys → (get_or xs k 0 ≡ get_or ys k 0 → ⊥)
    → Pushed (suc k) on (runs_at (suc k) xs ys) room spans before most olds kept
    → Pushed k (suc on) (runs_at k xs ys) room spans before most (take most (get_or xs k 0 ∷ olds)) kept
pushed-other k on room most xs ys spans before olds kept here there other pushed =
    let rs : List Run = runs_at (suc k) xs ys in
    let x : ℕ = get_or xs k 0 in
    let more = grown k x on rs pushed.opens in
    subst (λ rs. Pushed k (suc on) rs room spans before most (take most (x ∷ olds)) kept) (sym (runs-other k xs ys here there other))
    (record {
      opens = more.opens;
      above = above-joined k x rs;
      spans_are = pushed.spans_are ∙ ap (λ ss. take room (ss ++ before)) (sym more.spans_are);
      olds_are = ap (λ os. take most (x ∷ os)) pushed.olds_are ∙ take-front most x (olds_of rs ++ kept) ∙ ap (λ os. take most (os ++ kept)) (sym (olds-joined k x rs));
    })

pub pushed-same : (k on room most : ℕ) (xs ys : List ℕ) (spans before : List Span) (olds kept : List ℕ) → k < length xs → k < length ys → get_or xs k 0 ≡ get_or ys k 0
    → Pushed (suc k) on (runs_at (suc k) xs ys) room spans before most olds kept
    → Pushed k 0 (runs_at k xs ys) room (closed room (suc k) on spans) before most olds kept
pushed-same k on room most xs ys spans before olds kept here there same pushed =
    let rs : List Run = runs_at (suc k) xs ys in
    subst (λ rs. Pushed k 0 rs room (closed room (suc k) on spans) before most olds kept) (sym (runs-same k xs ys here there same))
    (record {
      opens = above-begins k rs pushed.above;
      above = above-less k rs pushed.above;
      spans_are = ap (closed room (suc k) on) pushed.spans_are ∙ shut (suc k) on room rs before pushed.opens;
      olds_are = pushed.olds_are;
    })

pub pushed-all : (at on room most : ℕ) (rs : List Run) (spans before : List Span) (olds kept : List ℕ) → Pushed at on rs room spans before most olds kept
    → closed room at on spans ≡ take room (spans_of rs ++ before)
pushed-all at on room most rs spans before olds kept pushed = ap (closed room at on) pushed.spans_are ∙ shut at on room rs before pushed.opens

-- the same one address down, over the beginnings of two lists up to an address
front-at : (k high : ℕ) (xs ys : List ℕ) → k < high → get_or xs k 0 ≡ get_or ys k 0 → get_or (take high xs) k 0 ≡ get_or (take high ys) k 0
front-at k high xs ys below same = get_or-take high xs k 0 below ∙ same ∙ sym (get_or-take high ys k 0 below)

front-apart : (k high : ℕ) (xs ys : List ℕ) → k < high → (get_or xs k 0 ≡ get_or ys k 0 → ⊥) → get_or (take high xs) k 0 ≡ get_or (take high ys) k 0 → ⊥
front-apart k high xs ys below other same = other (sym (get_or-take high xs k 0 below) ∙ same ∙ get_or-take high ys k 0 below)

front-long : (k high : ℕ) (xs : List ℕ) → k < high → high ≤ length xs → k < length (take high xs)
front-long k high xs below long = omega (arith, length-take-le high xs long)

one-down : (at : ℕ) → 0 < at → suc (at - 1) ≡ at
one-down at some = omega (arith, some)

pub counted-down-same : (at high : ℕ) (xs ys : List ℕ) (runs bytes : ℕ) (on : Bool) → 0 < at → at ≤ high → high ≤ length xs → high ≤ length ys → get_or xs (at - 1) 0 ≡ get_or ys (at - 1) 0
    → Counted at high (runs_at at (take high xs) (take high ys)) runs bytes on → Counted (at - 1) high (runs_at (at - 1) (take high xs) (take high ys)) runs bytes false
counted-down-same at high xs ys runs bytes on some below here there same counted =
    let inside : at - 1 < high = omega (arith, some, below) in
    counted-same (at - 1) high (take high xs) (take high ys) runs bytes on (front-long (at - 1) high xs inside here) (front-long (at - 1) high ys inside there) (front-at (at - 1) high xs ys inside same)
    (subst (λ a. Counted a high (runs_at a (take high xs) (take high ys)) runs bytes on) (sym (one-down at some)) counted)

pub counted-down-other : (at high : ℕ) (xs ys : List ℕ) (runs bytes : ℕ) (on : Bool) → 0 < at → at ≤ high → high ≤ length xs → high ≤ length ys → (get_or xs (at - 1) 0 ≡ get_or ys (at - 1) 0 → ⊥)
    → Counted at high (runs_at at (take high xs) (take high ys)) runs bytes on
    → Counted (at - 1) high (runs_at (at - 1) (take high xs) (take high ys)) (runs + cond (not on) 1 0) (bytes + 1) true
counted-down-other at high xs ys runs bytes on some below here there other counted =
    let inside : at - 1 < high = omega (arith, some, below) in
    counted-other (at - 1) high (take high xs) (take high ys) runs bytes on (front-long (at - 1) high xs inside here) (front-long (at - 1) high ys inside there) (front-apart (at - 1) high xs ys inside other)
    (subst (λ a. Counted a high (runs_at a (take high xs) (take high ys)) runs bytes on) (sym (one-down at some)) counted)

pub pushed-down-other : (at high on room most : ℕ) (xs ys : List ℕ) (spans before : List Span) (olds kept : List ℕ) → 0 < at → at ≤ high → high ≤ length xs → high ≤ length ys
    → (get_or xs (at - 1) 0 ≡ get_or ys (at - 1) 0 → ⊥) → Pushed at on (runs_at at (take high xs) (take high ys)) room spans before most olds kept
    → Pushed (at - 1) (suc on) (runs_at (at - 1) (take high xs) (take high ys)) room spans before most (take most (get_or xs (at - 1) 0 ∷ olds)) kept
pushed-down-other at high on room most xs ys spans before olds kept some below here there other pushed =
    let inside : at - 1 < high = omega (arith, some, below) in
    subst (λ x. Pushed (at - 1) (suc on) (runs_at (at - 1) (take high xs) (take high ys)) room spans before most (take most (x ∷ olds)) kept) (get_or-take high xs (at - 1) 0 inside)
    (pushed-other (at - 1) on room most (take high xs) (take high ys) spans before olds kept (front-long (at - 1) high xs inside here) (front-long (at - 1) high ys inside there) (front-apart (at - 1) high xs ys inside other)
    (subst (λ a. Pushed a on (runs_at a (take high xs) (take high ys)) room spans before most olds kept) (sym (one-down at some)) pushed))

pub pushed-down-same : (at high on room most : ℕ) (xs ys : List ℕ) (spans before : List Span) (olds kept : List ℕ) → 0 < at → at ≤ high → high ≤ length xs → high ≤ length ys
    → get_or xs (at - 1) 0 ≡ get_or ys (at - 1) 0 → Pushed at on (runs_at at (take high xs) (take high ys)) room spans before most olds kept
    → Pushed (at - 1) 0 (runs_at (at - 1) (take high xs) (take high ys)) room (closed room at on spans) before most olds kept
pushed-down-same at high on room most xs ys spans before olds kept some below here there same pushed =
    let inside : at - 1 < high = omega (arith, some, below) in
    subst (λ a. Pushed (at - 1) 0 (runs_at (at - 1) (take high xs) (take high ys)) room (closed room a on spans) before most olds kept) (one-down at some)
    (pushed-same (at - 1) on room most (take high xs) (take high ys) spans before olds kept (front-long (at - 1) high xs inside here) (front-long (at - 1) high ys inside there) (front-at (at - 1) high xs ys inside same)
    (subst (λ a. Pushed a on (runs_at a (take high xs) (take high ys)) room spans before most olds kept) (sym (one-down at some)) pushed))

-- whether a run of so many bytes is on its way
abbrev pub opened : ℕ → Bool
opened zero = false
opened (suc n) = true

-- the count beside a run on its way
recounted : (at high : ℕ) (rs : List Run) (a b m n : ℕ) (on : Bool) → m ≡ a → n ≡ b → Counted at high rs a b on → Counted at high rs m n on
recounted at high rs a b m n on runs bytes counted =
    subst (λ x. Counted at high rs x n on) (sym runs) (subst (λ y. Counted at high rs a y on) (sym bytes) counted)

counted-grows : (at high : ℕ) (rs : List Run) (runs bytes count : ℕ) → Counted at high rs (runs + started count + cond (not (opened count)) 1 0) (bytes + count + 1) true
    → Counted at high rs (runs + started (suc count)) (bytes + suc count) true
counted-grows at high rs runs bytes zero counted = recounted at high rs (runs + 0 + 1) (bytes + 0 + 1) (runs + 1) (bytes + 1) true (omega arith) (omega arith) counted
counted-grows at high rs runs bytes (suc n) counted = recounted at high rs (runs + 1 + 0) (bytes + suc n + 1) (runs + 1) (bytes + suc (suc n)) true (omega arith) (omega arith) counted

pub counted-on : (at high : ℕ) (xs ys : List ℕ) (runs bytes count : ℕ) → 0 < at → at ≤ high → high ≤ length xs → high ≤ length ys → (get_or xs (at - 1) 0 ≡ get_or ys (at - 1) 0 → ⊥)
    → Counted at high (runs_at at (take high xs) (take high ys)) (runs + started count) (bytes + count) (opened count)
    → Counted (at - 1) high (runs_at (at - 1) (take high xs) (take high ys)) (runs + started (suc count)) (bytes + suc count) true
counted-on at high xs ys runs bytes count some below here there other counted =
    counted-grows (at - 1) high (runs_at (at - 1) (take high xs) (take high ys)) runs bytes count
    (counted-down-other at high xs ys (runs + started count) (bytes + count) (opened count) some below here there other counted)

pub counted-off : (at high : ℕ) (xs ys : List ℕ) (runs bytes count more all : ℕ) → 0 < at → at ≤ high → high ≤ length xs → high ≤ length ys → get_or xs (at - 1) 0 ≡ get_or ys (at - 1) 0
    → more ≡ runs + started count → all ≡ bytes + count
    → Counted at high (runs_at at (take high xs) (take high ys)) (runs + started count) (bytes + count) (opened count)
    → Counted (at - 1) high (runs_at (at - 1) (take high xs) (take high ys)) (more + 0) (all + 0) false
counted-off at high xs ys runs bytes count more all some below here there same first last counted =
    recounted (at - 1) high (runs_at (at - 1) (take high xs) (take high ys)) (runs + started count) (bytes + count) (more + 0) (all + 0) false (omega (arith, first)) (omega (arith, last))
    (counted-down-same at high xs ys (runs + started count) (bytes + count) (opened count) some below here there same counted)
