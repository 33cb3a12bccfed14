-- A fork as the list of its references: what it takes for a file to be a fork of these resources.
use Rattle.std.specs.Prelude.{◌≡◌, ◌≢◌, ℕ, zero, suc, ◌+◌, ◌*◌, ◌<◌, ◌≤◌, false, List, [], ◌∷◌, ◌++◌, length, map, slice_range, All, AllPairs}
use Rattle.rsrc_fork.specs.declared.name.Name.{Name}
use Rattle.rsrc_fork.specs.declared.references.TypeEntry.{TypeEntry}
use Rattle.mix_bits.specs.Fields.{word_at, three_at, long_at}
use Rattle.rsrc_fork.specs.Header.{areas_at}
use Rattle.rsrc_fork.specs.ReferencesClauses.{entry_at, id_at, is_compressed, type_count}
use Rattle.rsrc_fork.specs.Resources.{Resource, named}

-- the lists of the numbers below a count, one after the other
abbrev pub concat_below : {X : Type 0} → (ℕ → List X) → ℕ → List X
concat_below items zero = []
concat_below items (suc k) = concat_below items k ++ items k

-- a reference: its type, and its place in the file
pub record Reference : Type 0 where
  pub kind : ℕ
  pub place : ℕ

-- the references of a type: the one with a number, and the first of them
abbrev pub reference_in : TypeEntry → ℕ → Reference
reference_in entry j = record { kind = entry.kind; place = entry.first + 12 * j }

abbrev pub references_in : TypeEntry → ℕ → List Reference
references_in entry count = concat_below (λ j. reference_in entry j ∷ []) count

-- the place of the type list
abbrev pub list_at : List ℕ → ℕ
list_at bytes = long_at bytes 4 + word_at bytes (long_at bytes 4 + 24)

-- the entry of the type with a number
abbrev pub numbered_entry : List ℕ → ℕ → TypeEntry
numbered_entry bytes k = entry_at bytes (list_at bytes) (list_at bytes + 2 + 8 * k)

-- the references of the first types, type by type
abbrev pub references_below : List ℕ → ℕ → List Reference
references_below bytes count =
    concat_below (λ k. references_in (numbered_entry bytes k) (numbered_entry bytes k).count) count

abbrev pub references_of : List ℕ → List Reference
references_of bytes = references_below bytes (type_count bytes (list_at bytes))

abbrev pub name_at : List ℕ → Reference → Name
name_at bytes reference = named reference.kind (id_at bytes reference.place)

-- where the resource's length stands, and where its bytes end
abbrev pub start_at : List ℕ → Reference → ℕ
start_at bytes reference = long_at bytes 0 + three_at bytes (reference.place + 5)

abbrev pub end_at : List ℕ → Reference → ℕ
end_at bytes reference = start_at bytes reference + 4 + long_at bytes (start_at bytes reference)

-- the resource that a reference names: its bytes are a slice of the file
abbrev pub resource_at : List ℕ → Reference → Resource
resource_at bytes reference =
    (name_at bytes reference, slice_range bytes (start_at bytes reference + 4) (end_at bytes reference))

-- a reference that lies in the map, and names bytes in the data that are not compressed
pub record IsSound (bytes : List ℕ) (reference : Reference) : Type 0 where
  pub in_map : reference.place + 12 ≤ (areas_at bytes).map_end
  pub in_data : end_at bytes reference ≤ (areas_at bytes).data_end
  pub plain : is_compressed bytes reference.place ≡ false

-- the header and both areas are in the file, the map has its 28 bytes, and no byte is in both areas
pub record HasAreas (bytes : List ℕ) : Type 0 where
  pub header : 16 ≤ length bytes
  pub data_fits : (areas_at bytes).data_end ≤ length bytes
  pub map_fits : (areas_at bytes).map_end ≤ length bytes
  pub map_whole : 28 ≤ long_at bytes 12
  pub apart : (place : ℕ) → (areas_at bytes).data_start ≤ place → place < (areas_at bytes).data_end
      → (areas_at bytes).map_start ≤ place → place < (areas_at bytes).map_end → ⊥

-- the references are sound, and no two have one name
pub record AreSound (bytes : List ℕ) (references : List Reference) : Type 0 where
  pub sound : All (IsSound bytes) references
  pub distinct : AllPairs (λ one other. name_at bytes one ≢ name_at bytes other) references

-- the file is a fork of these resources, in this order
pub record IsFork (bytes : List ℕ) (resources : List Resource) : Type 0 where
  pub areas : HasAreas bytes
  pub list_fits : list_at bytes + 2 ≤ (areas_at bytes).map_end
  pub types_fit : (k : ℕ) → k < type_count bytes (list_at bytes) → list_at bytes + 2 + 8 * k + 8 ≤ (areas_at bytes).map_end
  pub references : AreSound bytes (references_of bytes)
  pub listed : resources ≡ map (resource_at bytes) (references_of bytes)
