-- The shelf, the source, the sink and the keeper in memory: what each holds, what a call answers and what it leaves.
use Rattle.std.specs.Prelude.{ℕ, List, [], ◌∷◌, Option, Some, None, is_some, bytes_eq, if◌then◌else◌}
use Rattle.mix_io.specs.Calls.{CallNumbers}

-- ---- a source: the bytes that are left

pub record MemorySource : Type 0 where
  pub bytes : List ℕ
  pub calls : CallNumbers
  pub faults : ℕ

-- ---- a sink: the bytes that it holds, and how many it has room for

pub record MemorySink : Type 0 where
  pub bytes : List ℕ
  pub room : ℕ
  pub calls : CallNumbers
  pub faults : ℕ

-- ---- a shelf: names beside contents, with one count of faults for the names that it has and one for all others, and one
-- of the times that a file was too long

pub record MemoryShelf : Type 0 where
  pub names : List (List ℕ)
  pub files : List (List ℕ)
  pub calls : CallNumbers
  pub known_faults : ℕ
  pub other_faults : ℕ
  pub excesses : ℕ

-- the file beside a name
abbrev pub file_named : List (List ℕ) → List (List ℕ) → List ℕ → Option (List ℕ)
file_named [] files name = None
file_named (n ∷ names) [] name = None
file_named (n ∷ names) (file ∷ files) name = if bytes_eq n name then Some file else file_named names files name

abbrev pub file_of : MemoryShelf → List ℕ → Option (List ℕ)
file_of s name = file_named s.names s.files name

abbrev pub faults_of : MemoryShelf → List ℕ → ℕ
faults_of s name = if is_some (file_of s name) then s.known_faults else s.other_faults

-- ---- a keeper: one name with a sink for its pieces, and a count of faults for all other names

pub record MemoryKeep : Type 0 where
  pub name : List ℕ
  pub pieces : MemorySink
  pub other_faults : ℕ

abbrev pub kept_as : MemoryKeep → List ℕ → List ℕ
kept_as s name = if bytes_eq name s.name then s.pieces.bytes else []

abbrev pub keep_faults : MemoryKeep → List ℕ → ℕ
keep_faults s name = if bytes_eq name s.name then s.pieces.faults else s.other_faults
