-- Tests of a section header.
use Rattle.std.specs.Prelude.{ℕ, ◌+◌, Bool, ◌==◌, nat_lt, List, length}
use Rattle.pef_head.specs.Container.{packed_of, offset_of, kind_of}

-- kind 4 is the loader section
abbrev pub is_loader : List ℕ → ℕ → Bool
is_loader bytes k = kind_of bytes k == 4

-- its packed bytes are not in the file
abbrev pub leaves_file : List ℕ → ℕ → Bool
leaves_file bytes k = nat_lt (length bytes) (offset_of bytes k + packed_of bytes k)
