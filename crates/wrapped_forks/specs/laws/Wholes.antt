-- A file whose parts stand behind each other as its header says gives each fork back.
use Rattle.std.specs.Prelude.{◌≡◌, ℕ, ◌+◌, ◌<◌, ◌≤◌, ◌++◌, true, false, List, length, slice_range, Option, Some, None, Result, Ok, Err}
use Rattle.mix_bits.specs.Multiples.{rounded_up}
use Rattle.mix_bits.specs.Fields.{word_at, long_at}
use Rattle.wrapped_forks.specs.declared.fork.Fork.{Fork}
use Rattle.wrapped_forks.specs.declared.fork.Fork.TheVariants.{Data, Resource}
use Rattle.wrapped_forks.specs.declared.wrapping.ForkPlace.{ForkPlace}
use Rattle.wrapped_forks.specs.declared.wrapping.ForkError.{ForkError}
use Rattle.wrapped_forks.specs.declared.wrapping.Wrapping.{Wrapping}
use Rattle.wrapped_forks.specs.Forks.{apple_wrapping, binary_wrapping, entry_place, fork_entry, fork_of, is_raw, is_version}

-- the bytes at a place that was found
abbrev pub bytes_at : List ℕ → Result ForkPlace ForkError → Option (List ℕ)
bytes_at file (Ok place) = Some (slice_range file place.start (place.start + place.length))
bytes_at file (Err error) = None

abbrev pub fork_bytes : List ℕ → Fork → Option (List ℕ)
fork_bytes file fork = bytes_at file (fork_of file fork)

-- a MacBinary file: its header, a second header that is filled up, the data fork with what fills it up, and the resource
-- fork
pub record IsBinaryFile (file header second data_fork filling resource_fork rest : List ℕ) (wrapping : Wrapping) : Type 0 where
  pub laid : file ≡ header ++ (second ++ (data_fork ++ (filling ++ (resource_fork ++ rest))))
  pub header_long : length header ≡ 128
  pub second_long : length second ≡ rounded_up 128 (word_at file 120)
  pub filled : length data_fork + length filling ≡ rounded_up 128 (length data_fork)
  pub data_named : length data_fork ≡ long_at file 83
  pub resource_named : length resource_fork ≡ long_at file 87
  pub no_raw : is_raw file ≡ false
  pub no_apple : apple_wrapping (long_at file 0) ≡ None
  pub known : binary_wrapping file ≡ Some wrapping

-- each of its forks that has a byte is found
pub record GivesForks (file data_fork resource_fork : List ℕ) : Type 0 where
  pub gives_data : 0 < length data_fork → fork_bytes file Data ≡ Some data_fork
  pub gives_resource : 0 < length resource_fork → fork_bytes file Resource ≡ Some resource_fork

abbrev pub BinaryGivesBack : Type 0
BinaryGivesBack =
    (file header second data_fork filling resource_fork rest : List ℕ) (wrapping : Wrapping)
    → IsBinaryFile file header second data_fork filling resource_fork rest wrapping → GivesForks file data_fork resource_fork

-- an AppleSingle or AppleDouble file whose first entry of a fork names what stands behind its front
pub record IsAppleFile (file front named rest : List ℕ) (fork : Fork) (wrapping : Wrapping) (k : ℕ) : Type 0 where
  pub laid : file ≡ front ++ (named ++ rest)
  pub no_raw : is_raw file ≡ false
  pub known : apple_wrapping (long_at file 0) ≡ Some wrapping
  pub version : is_version (long_at file 4) ≡ true
  pub listed : entry_place (word_at file 24) ≤ length file
  pub first : fork_entry file fork (word_at file 24) ≡ Some k
  pub placed : length front ≡ long_at file (entry_place k + 4)
  pub counted : length named ≡ long_at file (entry_place k + 8)

abbrev pub AppleGivesBack : Type 0
AppleGivesBack =
    (file front named rest : List ℕ) (fork : Fork) (wrapping : Wrapping) (k : ℕ)
    → IsAppleFile file front named rest fork wrapping k → 0 < length named → fork_bytes file fork ≡ Some named

-- a raw fork is given as it is, whatever else it could be
abbrev pub RawGivesBack : Type 0
RawGivesBack = (file : List ℕ) → is_raw file ≡ true → fork_bytes file Resource ≡ Some file
