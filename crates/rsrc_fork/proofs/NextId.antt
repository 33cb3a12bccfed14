-- `next_id` is the least id of its type above `after`.
use Rattle.std.proofs.Common.{◌≡◌, ◌∙◌, refl, sym, ap, subst, ℕ, ℤ, pos, ◌≤ℤ◌, ◌<ℤ◌, Bool, true, false, true≢false, ◌&&◌, nat_eq, int_lt, if◌then◌else◌, List, [], ◌∷◌, fold, Option, Some, None, IsSome, is_some, option_map, Bor, ◌⊎◌, inl, inr, arith}
use Rattle.std.proofs.lemmas.List.Elements.{All-head, All-tail}
use Rattle.std.proofs.lemmas.Bool.{and_parts, eq-eqb, eqb-true}
use Rattle.std.proofs.lemmas.Bool.Decides.{Decides-int_eq}
use Rattle.std.proofs.lemmas.Int.{ints}
use Rattle.std.specs.Ordering.{int_eq}
use Rattle.rsrc_fork.specs.declared.name.Name.{Name}
use Rattle.rsrc_fork.specs.Resources.{Resource, named, bytes_of}
use Rattle.rsrc_fork.specs.inner.Resources.{same_name}
use Rattle.rsrc_fork.specs.ResourcesClauses.{AreSmall, IsSmall, is_nearer, nearer, names_of, next_id, IsNextId}

-- one more resource in front hides none
pub later : (resource : Resource) (resources : List Resource) (name : Name)
    → IsSome (bytes_of resources name) → IsSome (bytes_of (resource ∷ resources) name)
later resource resources name h = by (same_name name resource.0)
  where
    by : (same : Bool) → IsSome (if same then Some resource.1 else bytes_of resources name)
    by true = refl
    by false = h

pub none_there : (resources : List Resource) (name : Name) → bytes_of resources name ≡ None → IsSome (bytes_of resources name) → ⊥
none_there resources name none there = true≢false (sym there ∙ ap is_some none)

module _ (kind : ℕ) (after : ℤ) where
  -- there is an id, and it is not above x
  abbrev Reaches : Option ℤ → ℤ → Type 0
  Reaches None x = ⊥
  Reaches (Some id) x = id ≤ℤ x

  reaches_on : (least : Option ℤ) (name : Name) (x : ℤ) → Reaches least x → Reaches (nearer kind after least name) x
  reaches_on None name x h = absurd h
  reaches_on (Some id) name x h = by (nat_eq name.kind kind && int_lt after name.id && int_lt name.id id) refl
    where
      by : (b : Bool) → (nat_eq name.kind kind && int_lt after name.id && int_lt name.id id) ≡ b
          → Reaches (if b then Some name.id else Some id) x
      by true q = let sooner : int_lt name.id id ≡ true = (and_parts (nat_eq name.kind kind && int_lt after name.id) (int_lt name.id id) q).1 in grind (arith, ints)
      by false q = h

  reaches_all : (names : List Name) (least : Option ℤ) (x : ℤ) → Reaches least x → Reaches (fold (nearer kind after) least names) x
  reaches_all [] least x h = h
  reaches_all (name ∷ names) least x h = reaches_all names (nearer kind after least name) x (reaches_on least name x h)

  reaches_here : (least : Option ℤ) (name : Name) → name.kind ≡ kind → after <ℤ name.id
      → Reaches (nearer kind after least name) name.id
  reaches_here None name same above =
      let kinds : nat_eq name.kind kind ≡ true = eq-eqb _ _ same in
      let ids : int_lt after name.id ≡ true = grind (arith, ints) in
      rw (kinds, ids) (omega (arith, ints))
  reaches_here (Some id) name same above =
      let kinds : nat_eq name.kind kind ≡ true = eq-eqb _ _ same in
      let ids : int_lt after name.id ≡ true = grind (arith, ints) in
      rw (kinds, ids) (by (int_lt name.id id) refl)
    where
      by : (b : Bool) → int_lt name.id id ≡ b → Reaches (if b then Some name.id else Some id) name.id
      by true q = omega (arith, ints)
      by false q = grind (arith, ints)

  -- what it takes to be the resource of an id
  same_parts : (x : ℤ) (name : Name) → same_name (named kind x) name ≡ true → (name.kind ≡ kind) × (name.id ≡ x)
  same_parts x name q =
      let parts = and_parts (nat_eq kind name.kind) (int_eq x name.id) q in
      (sym (eqb-true _ _ parts.0), sym ((Decides-int_eq x name.id).0 parts.1))

  reaches_found : (resources : List Resource) (least : Option ℤ) (x : ℤ) → after <ℤ x → IsSome (bytes_of resources (named kind x))
      → Reaches (fold (nearer kind after) least (names_of resources)) x
  reaches_found [] least x above there = absurd (true≢false (sym there))
  reaches_found (r ∷ rs) least x above there = by (same_name (named kind x) r.0) refl there (reaches_found rs (nearer kind after least r.0) x above)
    where
      by : (same : Bool) → same_name (named kind x) r.0 ≡ same
          → IsSome (if same then Some r.1 else bytes_of rs (named kind x))
          → (IsSome (bytes_of rs (named kind x)) → Reaches (fold (nearer kind after) (nearer kind after least r.0) (names_of rs)) x)
          → Reaches (fold (nearer kind after) (nearer kind after least r.0) (names_of rs)) x
      by true q h rest =
          let parts = same_parts x r.0 q in
          reaches_all (names_of rs) _ x
          (subst (λ (y : ℤ). Reaches (nearer kind after least r.0) y) parts.1
          (reaches_here least r.0 parts.0 (subst (λ (y : ℤ). after <ℤ y) (sym parts.1) above)))
      by false q h rest = rest h

  -- an id in the answer comes from the least so far, or from a resource
  comes_from : (resources : List Resource) (least : Option ℤ) (id : ℤ)
      → fold (nearer kind after) least (names_of resources) ≡ Some id
      → (least ≡ Some id) ⊎ (IsSome (bytes_of resources (named kind id)) × (after <ℤ id))
  comes_from [] least id e = inl e
  comes_from (r ∷ rs) least id e = from (comes_from rs (nearer kind after least r.0) id e)
    where
      here : (b : Bool) → (nat_eq r.0.kind kind && int_lt after r.0.id && is_nearer r.0.id least) ≡ b
          → (if b then Some r.0.id else least) ≡ Some id
          → (least ≡ Some id) ⊎ (IsSome (bytes_of (r ∷ rs) (named kind id)) × (after <ℤ id))
      here true q h =
          let ids : r.0.id ≡ id = cc in
          let both = and_parts _ _ (and_parts _ _ q).0 in
          let kinds : nat_eq kind r.0.kind ≡ true = eq-eqb _ _ (sym (eqb-true _ _ both.0)) in
          let same : int_eq id r.0.id ≡ true = (Decides-int_eq id r.0.id).1 (sym ids) in
          let above : int_lt after r.0.id ≡ true = both.1 in
          inr (rw (kinds, same), grind (arith, ints))
      here false q h = inl h

      from : ((nearer kind after least r.0 ≡ Some id) ⊎ (IsSome (bytes_of rs (named kind id)) × (after <ℤ id)))
          → (least ≡ Some id) ⊎ (IsSome (bytes_of (r ∷ rs) (named kind id)) × (after <ℤ id))
      from (inl h) = here _ refl h
      from (inr h) = inr (later r rs (named kind id) h.0, h.1)

  pub next_id_is : (resources : List Resource) → IsNextId resources kind after (next_id resources kind after)
  next_id_is resources = by (next_id resources kind after) refl
    where
      absent : (x : ℤ) → (o : Option (List ℕ)) → bytes_of resources (named kind x) ≡ o → (IsSome o → ⊥) → o ≡ None
      absent x None q never = refl
      absent x (Some s) q never = absurd (never refl)

      by : (o : Option ℤ) → next_id resources kind after ≡ o → IsNextId resources kind after o
      by None q = λ x above. absent x (bytes_of resources (named kind x)) refl
          (λ there. subst (λ (o : Option ℤ). Reaches o x) q (reaches_found resources None x above there))
      by (Some id) q = found (comes_from resources None id q)
        where
          found : ((None ≡ Some id) ⊎ (IsSome (bytes_of resources (named kind id)) × (after <ℤ id))) → IsNextId resources kind after (Some id)
          found (inl h) = absurd (cc)
          found (inr h) = (
            h.0,
            h.1,
            λ x above below. absent x (bytes_of resources (named kind x)) refl
                (λ there.
                let reached : id ≤ℤ x = subst (λ (o : Option ℤ). Reaches o x) q (reaches_found resources None x above there) in
                omega (arith, ints)),
          )

  -- there is one such answer
  unique : (resources : List Resource) (one other : Option ℤ) → IsNextId resources kind after one → IsNextId resources kind after other → one ≡ other
  unique resources None None p q = refl
  unique resources None (Some b) p q = absurd (none_there resources (named kind b) (p b q.1) q.0)
  unique resources (Some a) None p q = absurd (none_there resources (named kind a) (q a p.1) p.0)
  unique resources (Some a) (Some b) p q = by (int_lt a b) refl (int_lt b a) refl
    where
      by : (s : Bool) → int_lt a b ≡ s → (t : Bool) → int_lt b a ≡ t → Some a ≡ Some b
      by true e t f = let less : a <ℤ b = grind (arith, ints) in absurd (none_there resources (named kind a) (q.2 a p.1 less) p.0)
      by false e true f = let less : b <ℤ a = grind (arith, ints) in absurd (none_there resources (named kind b) (p.2 b q.1 less) q.0)
      by false e false f = let same : a ≡ b = grind (arith, ints) in cc

  pub next_is : (resources : List Resource) (o : Option ℤ) → IsNextId resources kind after o → o ≡ next_id resources kind after
  next_is resources o is = unique resources o (next_id resources kind after) is (next_id_is resources)

  -- no id is above those of a signed word
  pub none_above : (resources : List Resource) (x : ℤ) → AreSmall resources → pos 32767 <ℤ x → bytes_of resources (named kind x) ≡ None
  none_above [] x small high = refl
  none_above (r ∷ rs) x small high = by (same_name (named kind x) r.0) refl (none_above rs x (All-tail IsSmall r rs small) high)
    where
      by : (same : Bool) → same_name (named kind x) r.0 ≡ same → bytes_of rs (named kind x) ≡ None
          → (if same then Some r.1 else bytes_of rs (named kind x)) ≡ None
      by true q rest =
          let most : r.0.id ≤ℤ pos 32767 = (All-head IsSmall r rs small).1 in
          let is : r.0.id ≡ x = (same_parts x r.0 q).1 in
          absurd (omega (arith, ints, most, is, high))
      by false q rest = rest

-- none up to the last signed word, and none above it
pub none_from : (kind : ℕ) (after last : ℤ) (resources : List Resource) → AreSmall resources → pos 32767 ≤ℤ last
    → ((x : ℤ) → after <ℤ x → x ≤ℤ last → bytes_of resources (named kind x) ≡ None) → (x : ℤ) → after <ℤ x → bytes_of resources (named kind x) ≡ None
none_from kind after last resources small end none x above = by (int_lt (pos 32767) x) refl
  where
    by : (b : Bool) → int_lt (pos 32767) x ≡ b → bytes_of resources (named kind x) ≡ None
    by true q = none_above kind after resources x small (grind (arith, ints))
    by false q = none x above (let low : x ≤ℤ pos 32767 = grind (arith, ints) in omega (arith, ints, low, end))

pub some_seen : (found : Option (Bor (List ℕ))) (o : Option (List ℕ)) → option_map (λ (piece : Bor (List ℕ)). piece.now) found ≡ o → is_some found ≡ true → IsSome o
some_seen None o is there = absurd (true≢false (sym there))
some_seen (Some piece) o is there = subst (λ (p : Option (List ℕ)). IsSome p) is refl
