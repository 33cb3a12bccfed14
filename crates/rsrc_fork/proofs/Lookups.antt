-- Look-ups among slices agree with those among the resources that they show.
use Rattle.std.proofs.Common.{◌≡◌, List, [], ◌∷◌, ◌++◌, Some, None, option_map, Ok, Err, Bor, ℕ}
use Rattle.std.proofs.lemmas.List.{map-append}
use Rattle.std.specs.Map.{lookup}
use Rattle.std.proofs.lemmas.Map.Made.{lookup-map_values}
use Rattle.rsrc_fork.specs.declared.error.RsrcError.TheVariants.{Twice}
use Rattle.rsrc_fork.specs.declared.name.Name.{Name}
use Rattle.rsrc_fork.specs.ResourcesClauses.{seen}
use Rattle.rsrc_fork.specs.Resources.{bytes_of, with_resource}
use Rattle.rsrc_fork.specs.inner.Resources.{same_name}

pub lookup_seen : (name : Name) (entries : List (Name × Bor (List ℕ)))
    → bytes_of (seen entries) name ≡ option_map (λ (piece : Bor (List ℕ)). piece.now) (lookup (same_name name) entries)
lookup_seen name entries = lookup-map_values (λ (piece : Bor (List ℕ)). piece.now) (same_name name) entries

module _ (name : Name) (entries : List (Name × Bor (List ℕ))) (piece : Bor (List ℕ)) where
  pub found_twice : (there : Bor (List ℕ)) → lookup (same_name name) entries ≡ Some there
      → with_resource (seen entries) name piece.now ≡ Err (Twice name.kind name.id)
  found_twice there found = rw (lookup_seen, found)

  pub found_new : lookup (same_name name) entries ≡ None
      → with_resource (seen entries) name piece.now ≡ Ok (seen (entries ++ (name, piece) ∷ []))
  found_new found = rw (lookup_seen, found, map-append)
