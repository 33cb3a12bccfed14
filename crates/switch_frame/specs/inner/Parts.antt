-- Parts of a chain and of a frame.
use Rattle.std.specs.Prelude.{ℕ, ◌+◌, ◌==◌, if◌then◌else◌, List, ◌++◌}
use Rattle.big_memory.specs.Numbers.{long_at}
use Rattle.switch_frame.specs.Records.{Record, fill_of, head_of, isa_of, longs_of_file}

-- how many frames are live, as the innermost one tells
abbrev pub depth_at : List ℕ → ℕ → ℕ
depth_at bytes top = if top == 0 then 0 else long_at (top + 28) bytes

-- the longs of a frame
abbrev pub longs_of : Record → ℕ → ℕ → List ℕ
longs_of r outer depth = head_of r outer depth ++ (longs_of_file r.caller ++ fill_of (isa_of r.caller))
