-- The next greater id of a type.
use Rattle.std.specs.Prelude.{◌≡◌, ℕ, ℤ, ◌-◌, ◌<◌, ◌<ℤ◌, ◌≤ℤ◌, pos, Bool, true, ◌&&◌, nat_eq, int_lt, IsSome, All, length, ◌≤◌, if◌then◌else◌, List, map, fold, Option, Some, None}
use Rattle.mix_bits.specs.declared.file.TheConstants.{MOST_BYTES}
use denote.Ref.{Bor}
use Rattle.rsrc_fork.specs.declared.name.Name.{Name}
use Rattle.rsrc_fork.specs.Resources.{Resource, named, bytes_of}

-- no resource is longer than a file may be, and each id is a signed word's at most
abbrev pub IsSmall : Resource → Type 0
IsSmall resource = (length resource.1 ≤ MOST_BYTES) × (resource.0.id ≤ℤ pos 32767)

abbrev pub AreSmall : List Resource → Type 0
AreSmall resources = All IsSmall resources

-- an id comes before the least one so far
abbrev pub is_nearer : ℤ → Option ℤ → Bool
is_nearer id None = true
is_nearer id (Some least) = int_lt id least

-- the least id so far of the type and above `after`, once a name is looked at
abbrev pub nearer : ℕ → ℤ → Option ℤ → Name → Option ℤ
nearer kind after least name =
    if nat_eq name.kind kind && int_lt after name.id && is_nearer name.id least then Some name.id else least

abbrev pub names_of : List Resource → List Name
names_of resources = map (λ resource. resource.0) resources

-- the least id of the type above `after` among names
abbrev pub least_above : List Name → ℕ → ℤ → Option ℤ
least_above names kind after = fold (nearer kind after) None names

abbrev pub next_id : List Resource → ℕ → ℤ → Option ℤ
next_id resources kind after = least_above (names_of resources) kind after

-- what the next id is: the type has a resource of that id, the id is above `after`, and the type has
-- none between. There is no such id exactly where the type has none above `after`.
abbrev pub IsNextId : List Resource → ℕ → ℤ → Option ℤ → Type 0
IsNextId resources kind after None = (id : ℤ) → after <ℤ id → bytes_of resources (named kind id) ≡ None
IsNextId resources kind after (Some id) =
    IsSome (bytes_of resources (named kind id)) × (after <ℤ id)
    × ((other : ℤ) → after <ℤ other → other <ℤ id → bytes_of resources (named kind other) ≡ None)

-- where the ids of the type end that are not negative: behind the greatest of them
pub record IsIdsEnd (resources : List Resource) (kind end : ℕ) : Type 0 where
  pub behind : (id : ℕ) → end ≤ id → bytes_of resources (named kind (pos id)) ≡ None
  pub last : 0 < end → IsSome (bytes_of resources (named kind (pos (end - 1))))
  pub few : end ≤ 32768

-- what the entries of a map of slices show
abbrev pub seen : List (Name × Bor (List ℕ)) → List Resource
seen entries = map (λ entry. (entry.0, entry.1.now)) entries
