-- A rack as data: its slots and its journal, and what an ask and an eject make of them.
use Rattle.std.specs.Prelude.{ℕ, List, Option}
use Rattle.dev_rack.specs.Slots.{Seen}
use Rattle.dev_rack.specs.declared.answers.Asked.{Asked}

pub record State : Type 0 where
  pub slots : List (Option Seen)
  pub journal : List Asked

-- how many asks a journal holds at the most
abbrev pub journal_limit : ℕ
journal_limit = 4096
