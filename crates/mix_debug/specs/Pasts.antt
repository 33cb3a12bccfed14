-- The steps in the three rings.
use Rattle.std.specs.Prelude.{◌≡◌, ◌≤◌, true, List}
use Rattle.mix_debug.specs.declared.past.Past.{Past}
use Rattle.mix_debug.specs.Entries.{Entry, Spells, entries, total, within}
use Rattle.mix_debug.specs.Trails.{history_room}

-- those for which there is room, the newest first
abbrev pub entries_in : Past → List Entry
entries_in p = within history_room (entries p.heads.items p.spans.items p.olds.items)

-- the rings hold the first heads, runs and bytes of some steps, and where they are trimmed, there is room for all of these
pub record IsPast (p : Past) : Type 0 where
  pub heads : p.heads.capacity ≡ 10700
  pub spans : p.spans.capacity ≡ 131072
  pub olds : p.olds.capacity ≡ history_room
  pub all : List Entry
  pub spelled : Spells 10700 p.spans.capacity p.olds.capacity p.heads.items p.spans.items p.olds.items all
  pub room : p.trimmed ≡ true → total all ≤ history_room
