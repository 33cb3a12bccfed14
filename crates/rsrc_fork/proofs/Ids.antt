-- Where the ids of a type end: none is behind, and the last one before is one of them.
use Rattle.std.proofs.Common.{◌≡◌, ◌∙◌, refl, sym, ap, ℕ, suc, ℤ, pos, negsuc, ◌≤ℤ◌, ◌≤◌, ◌<◌, ◌-◌, max, Bool, true, false, nat_eq, nat_lt, if◌then◌else◌, List, [], ◌∷◌, fold, Some, None, IsSome, Bor, ◌⊎◌, inl, inr, arith}
use Rattle.std.proofs.lemmas.Bool.{and_parts, eq-eqb, eqb-true}
use Rattle.std.proofs.lemmas.Bool.Decides.{Decides-int_eq, nat_tests}
use Rattle.std.proofs.lemmas.List.Elements.{All-head, All-tail}
use Rattle.std.proofs.lemmas.Int.{ints}
use Rattle.std.specs.Map.{keys_of}
use Rattle.std.specs.Ordering.{int_eq}
use Rattle.rsrc_fork.specs.declared.name.Name.{Name}
use Rattle.rsrc_fork.specs.Resources.{Resource, named, bytes_of}
use Rattle.rsrc_fork.specs.inner.Resources.{same_name}
use Rattle.rsrc_fork.specs.ResourcesClauses.{AreSmall, IsSmall, names_of, IsIdsEnd, seen}
use Rattle.rsrc_fork.specs.inner.Ids.{behind, end_with, ids_end}
use Rattle.rsrc_fork.proofs.NextId.{later}

grows : (kind end : ℕ) (name : Name) → end ≤ end_with kind end name
grows kind end name = by (nat_eq name.kind kind)
  where
    by : (b : Bool) → end ≤ (if b then max end (behind name.id) else end)
    by true = omega arith
    by false = omega arith

grows_on : (kind end : ℕ) (names : List Name) → end ≤ fold (end_with kind) end names
grows_on kind end [] = omega arith
grows_on kind end (name ∷ names) = omega (arith, grows kind end name, grows_on kind (end_with kind end name) names)

covers : (kind end id : ℕ) (name : Name) → name.kind ≡ kind → name.id ≡ pos id → id < end_with kind end name
covers kind end id name same is = rw (eq-eqb _ _ same, is) (omega arith)

same_parts : (kind : ℕ) (x : ℤ) (name : Name) → same_name (named kind x) name ≡ true → (name.kind ≡ kind) × (name.id ≡ x)
same_parts kind x name q =
    let parts = and_parts (nat_eq kind name.kind) (int_eq x name.id) q in
    (sym (eqb-true _ _ parts.0), sym ((Decides-int_eq x name.id).0 parts.1))

none_behind : (kind : ℕ) (resources : List Resource) (end id : ℕ) → fold (end_with kind) end (names_of resources) ≤ id → bytes_of resources (named kind (pos id)) ≡ None
none_behind kind [] end id high = refl
none_behind kind (r ∷ rs) end id high = by (same_name (named kind (pos id)) r.0) refl (none_behind kind rs (end_with kind end r.0) id high)
  where
    by : (same : Bool) → same_name (named kind (pos id)) r.0 ≡ same → bytes_of rs (named kind (pos id)) ≡ None → (if same then Some r.1 else bytes_of rs (named kind (pos id))) ≡ None
    by true q rest =
        let parts = same_parts kind (pos id) r.0 q in
        absurd (omega (arith, high, covers kind end id r.0 parts.0 parts.1, grows_on kind (end_with kind end r.0) (names_of rs)))
    by false q rest = rest

-- the last id before the end is that of a resource, unless the end is the first one
of-behind : (id : ℤ) (n : ℕ) → behind id ≡ suc n → id ≡ pos n
of-behind (pos m) n is = ap pos (omega (arith, is))
of-behind (negsuc m) n is = absurd (omega (arith, is))

is_one : (kind : ℕ) (resources : List Resource) (end n : ℕ) → fold (end_with kind) end (names_of resources) ≡ suc n → (end ≡ suc n) ⊎ IsSome (bytes_of resources (named kind (pos n)))
is_one kind [] end n e = inl e
is_one kind (r ∷ rs) end n e = from (is_one kind rs (end_with kind end r.0) n e)
  where
    larger : nat_eq r.0.kind kind ≡ true → (b : Bool) → nat_lt end (behind r.0.id) ≡ b → max end (behind r.0.id) ≡ suc n
        → (end ≡ suc n) ⊎ IsSome (bytes_of (r ∷ rs) (named kind (pos n)))
    larger kinds true q h =
        let less : end < behind r.0.id = grind (arith, nat_tests) in
        let id : r.0.id ≡ pos n = of-behind r.0.id n (omega (arith, less, h)) in
        let kind-is : nat_eq kind r.0.kind ≡ true = eq-eqb _ _ (sym (eqb-true _ _ kinds)) in
        let id-is : int_eq (pos n) r.0.id ≡ true = (Decides-int_eq (pos n) r.0.id).1 (sym id) in
        inr (rw (kind-is, id-is) refl)
    larger kinds false q h =
        let more : behind r.0.id ≤ end = grind (arith, nat_tests) in
        inl (omega (arith, more, h))

    here : (b : Bool) → nat_eq r.0.kind kind ≡ b → (if b then max end (behind r.0.id) else end) ≡ suc n → (end ≡ suc n) ⊎ IsSome (bytes_of (r ∷ rs) (named kind (pos n)))
    here true q h = larger q (nat_lt end (behind r.0.id)) refl h
    here false q h = inl h

    from : ((end_with kind end r.0 ≡ suc n) ⊎ IsSome (bytes_of rs (named kind (pos n)))) → (end ≡ suc n) ⊎ IsSome (bytes_of (r ∷ rs) (named kind (pos n)))
    from (inl h) = here (nat_eq r.0.kind kind) refl h
    from (inr h) = inr (later r rs (named kind (pos n)) h)

-- the names of a map's entries
names_seen : (entries : List (Name × Bor (List ℕ))) → names_of (seen entries) ≡ keys_of entries
names_seen [] = refl
names_seen (e ∷ es) = ap (λ names. e.0 ∷ names) (names_seen es)

-- and no id is above those of a signed word
behind-few : (id : ℤ) → id ≤ℤ pos 32767 → behind id ≤ 32768
behind-few (pos n) most = omega (arith, ints, most)
behind-few (negsuc n) most = omega arith

few : (kind : ℕ) (resources : List Resource) (end : ℕ) → AreSmall resources → end ≤ 32768 → fold (end_with kind) end (names_of resources) ≤ 32768
few kind [] end small low = low
few kind (r ∷ rs) end small low = few kind rs (end_with kind end r.0) (All-tail IsSmall r rs small) (by (nat_eq r.0.kind kind))
  where
    by : (b : Bool) → (if b then max end (behind r.0.id) else end) ≤ 32768
    by true = omega (arith, low, behind-few r.0.id (All-head IsSmall r rs small).1)
    by false = low

ends : (kind : ℕ) (resources : List Resource) (end : ℕ) → AreSmall resources → ids_end resources kind ≡ end → IsIdsEnd resources kind end
ends kind resources end small is = record {
  behind = λ id above. none_behind kind resources 0 id (omega (arith, is, above));
  last = λ some. last end is some;
  few = let bound = few kind resources 0 small (omega arith) in omega (arith, is, bound);
}
  where
    from : (n : ℕ) → ((0 ≡ suc n) ⊎ IsSome (bytes_of resources (named kind (pos n)))) → IsSome (bytes_of resources (named kind (pos n)))
    from n (inl same) = absurd (omega (arith, same))
    from n (inr some) = some

    last : (end : ℕ) → ids_end resources kind ≡ end → 0 < end → IsSome (bytes_of resources (named kind (pos (end - 1))))
    last end is some = from (end - 1) (is_one kind resources 0 (end - 1) (omega (arith, is, some)))

pub seen_end : (kind : ℕ) (entries : List (Name × Bor (List ℕ))) (end : ℕ) → AreSmall (seen entries) → end ≡ fold (end_with kind) 0 (keys_of entries) → IsIdsEnd (seen entries) kind end
seen_end kind entries end small is = ends kind (seen entries) end small (ap (fold (end_with kind) 0) (names_seen entries) ∙ sym is)
