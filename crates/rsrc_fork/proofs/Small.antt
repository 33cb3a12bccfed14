-- The resources of a fork are no longer than its file.
use Rattle.std.proofs.Common.{◌≡◌, ◌≤◌, ◌<◌, ◌^◌, ℕ, pos, ◌≤ℤ◌, ◌-ℤ◌, nat_lt, refl, sym, subst, List, [], ◌∷◌, length, get_or, ◌+◌, Bool, true, false, if◌then◌else◌, Option, Some, None, IfSome, option_map, slice_range, Ok, Bor, arith, length-take, length-drop}
use Rattle.std.proofs.lemmas.List.{places}
use Rattle.std.proofs.lemmas.Bool.Decides.{nat_tests}
use Rattle.std.proofs.lemmas.Int.{ints}
use Rattle.std.proofs.lemmas.List.Elements.{All-map, All-head, All-tail}
use Rattle.rsrc_fork.specs.declared.name.Name.{Name}
use Rattle.rsrc_fork.specs.Listing.{Reference, references_of, resource_at, start_at, end_at}
use Rattle.mix_bits.specs.Fields.{word_at}
use Rattle.rsrc_fork.specs.References.{resources_of}
use Rattle.rsrc_fork.specs.ReferencesClauses.{id_at}
use Rattle.rsrc_fork.specs.Resources.{Resource, bytes_of}
use Rattle.rsrc_fork.specs.inner.Resources.{same_name}
use Rattle.rsrc_fork.specs.ResourcesClauses.{AreSmall, IsSmall}
use Rattle.rsrc_fork.proofs.Listing.{fork_is}

within : (bytes : List ℕ) (start end : ℕ) → length (slice_range bytes start end) ≤ length bytes
within bytes start end = simp (length-take, length-drop) (omega arith)

-- a signed word is at most 32767
byte_in : (bytes : List ℕ) (from i : ℕ) → ((k : ℕ) → get_or bytes k 0 < 256) → get_or (slice_range bytes from (from + 2)) i 0 < 256
byte_in bytes from i fit = let byte = fit (from + i) in grind (arith, places)

id_most : (bytes : List ℕ) (place : ℕ) → ((k : ℕ) → get_or bytes k 0 < 256) → id_at bytes place ≤ℤ pos 32767
id_most bytes place fit = by (nat_lt (word_at bytes place) 32768) refl
  where
    word_most : word_at bytes place < 65536
    word_most = omega (arith, byte_in bytes place 0 fit, byte_in bytes place 1 fit)

    by : (b : Bool) → nat_lt (word_at bytes place) 32768 ≡ b
        → (if b then pos (word_at bytes place) else pos (word_at bytes place) -ℤ pos 65536) ≤ℤ pos 32767
    by true q = let low : word_at bytes place < 32768 = grind (arith, nat_tests) in omega (arith, ints, low)
    by false q = omega (arith, ints, word_most)

pub small_is : (bytes : List ℕ) (resources : List Resource) → length bytes ≤ 2 ^ 24 → ((k : ℕ) → get_or bytes k 0 < 256) → resources_of bytes ≡ Ok resources → AreSmall resources
small_is bytes resources fits bytes_fit e =
    subst AreSmall (sym (fork_is bytes resources e).listed)
    (All-map IsSmall (resource_at bytes) (references_of bytes) (λ k d lt. small (get_or (references_of bytes) k d)))
  where
    small : (r : Reference) → IsSmall (resource_at bytes r)
    small r =
        let brief : length (resource_at bytes r).1 ≤ 2 ^ 24 = omega (arith, within bytes (start_at bytes r + 4) (end_at bytes r)) in
        (brief, id_most bytes r.place bytes_fit)

pub small_found : (resources : List Resource) (name : Name) → AreSmall resources → IfSome (bytes_of resources name) (λ piece. length piece ≤ 2 ^ 24)
small_found [] name h = tt
small_found (r ∷ rs) name h = by (same_name name r.0) (small_found rs name (All-tail IsSmall r rs h))
  where
    by : (same : Bool) → IfSome (bytes_of rs name) (λ piece. length piece ≤ 2 ^ 24)
        → IfSome (if same then Some r.1 else bytes_of rs name) (λ piece. length piece ≤ 2 ^ 24)
    by true rest = (All-head IsSmall r rs h).0
    by false rest = rest

pub small_piece : (found : Option (Bor (List ℕ))) (resources : List Resource) (name : Name) → AreSmall resources
    → option_map (λ (piece : Bor (List ℕ)). piece.now) found ≡ bytes_of resources name → IfSome found (λ piece. length piece.now ≤ 2 ^ 24)
small_piece None resources name h e = tt
small_piece (Some piece) resources name h e = subst (λ (o : Option (List ℕ)). IfSome o (λ piece. length piece ≤ 2 ^ 24)) (sym e) (small_found resources name h)
