-- A walk from each id of a type to the next.
use Rattle.std.proofs.Common.{◌≡◌, refl, ℕ, zero, suc, ℤ, pos, ◌+ℤ◌, ◌≤ℤ◌, ◌<ℤ◌, Bool, true, false, int_lt, List, [], ◌∷◌, Option, Some, None, arith}
use Rattle.std.specs.Prelude.{Contains}
use Rattle.std.proofs.lemmas.List.Elements.{All-nil, All-cons}
use Rattle.std.proofs.lemmas.Int.{ints}
use Rattle.rsrc_fork.specs.Resources.{Resource, named}
use Rattle.rsrc_fork.specs.ResourcesClauses.{AreSmall, next_id, IsNextId}
use Rattle.rsrc_fork.specs.laws.Walk.{AreAllIds, AreIds, ComesToEnd, FindsAll, HasId}
use Rattle.rsrc_fork.proofs.NextId.{next_id_is, none_above, none_there}

module _ (resources : List Resource) (kind : ℕ) where
  contains_later : (first id : ℤ) (ids : List ℤ) → Contains ids id → Contains (first ∷ ids) id
  contains_later first id ids at = (suc at.0, omega (arith, at.1), at.2)

  contains_first : (first id : ℤ) (ids : List ℤ) → first ≡ id → Contains (first ∷ ids) id
  contains_first first id ids same = (0, omega arith, same)

  -- one more id in front, with those behind it
  found : (after first : ℤ) (ids : List ℤ) → IsNextId resources kind after (Some first) → AreAllIds resources kind first ids → AreAllIds resources kind after (first ∷ ids)
  found after first ids next rest = record {
    ascend = (next.1, rest.ascend);
    there = All-cons (HasId resources kind) first ids next.0 rest.there;
    complete = λ id above there. by id above there (int_lt id first) refl (int_lt first id) refl;
  }
    where
      by : (id : ℤ) → after <ℤ id → HasId resources kind id → (s : Bool) → int_lt id first ≡ s → (t : Bool) → int_lt first id ≡ t → Contains (first ∷ ids) id
      by id above there true e t f =
          let less : id <ℤ first = grind (arith, ints, e) in
          absurd (none_there resources (named kind id) (next.2 id above less) there)
      by id above there false e true f =
          let more : first <ℤ id = grind (arith, ints, f) in
          contains_later first id ids (rest.complete id more there)
      by id above there false e false f =
          let same : first ≡ id = grind (arith, ints, e, f) in
          contains_first first id ids same

  walk_finds : (after : ℤ) (ids : List ℤ) → AreIds resources kind after ids → AreAllIds resources kind after ids
  walk_finds after [] none = record {
    ascend = tt;
    there = All-nil (HasId resources kind);
    complete = λ id above there. absurd (none_there resources (named kind id) (none id above) there);
  }
  walk_finds after (first ∷ ids) walk = found after first ids walk.0 (walk_finds first ids walk.1)

  -- a walk from an id, with one from the next id
  walk_on : (n : ℕ) (after : ℤ) (next : Option ℤ) → IsNextId resources kind after next → pos 32767 ≤ℤ (after +ℤ pos (suc n))
      → ((id : ℤ) → pos 32767 ≤ℤ (id +ℤ pos n) → (ids : List ℤ) × AreIds resources kind id ids) → (ids : List ℤ) × AreIds resources kind after ids
  walk_on n after None is near more = ([], is)
  walk_on n after (Some id) is near more =
      let above : after <ℤ id = is.1 in
      let one : pos (suc n) ≡ pos n +ℤ pos 1 = omega (arith, ints) in
      let later = more id (omega (arith, ints, near, above, one)) in
      (id ∷ later.0, (is, later.1))

  walk_from : (n : ℕ) (after : ℤ) → AreSmall resources → pos 32767 ≤ℤ (after +ℤ pos n) → (ids : List ℤ) × AreIds resources kind after ids
  walk_from zero after small near =
      ([], λ id above. none_above kind after resources id small (omega (arith, ints, near, above)))
  walk_from (suc n) after small near =
      walk_on n after (next_id resources kind after) (next_id_is kind after resources) near (λ id reaches. walk_from n id small reaches)

pub finds_all : (resources : List Resource) → FindsAll resources
finds_all resources kind after ids walk = walk_finds resources kind after ids walk

pub comes_to_end : (resources : List Resource) → AreSmall resources → ComesToEnd resources
comes_to_end resources small kind after word = walk_from resources kind 65535 after small (omega (arith, ints, word))
