-- What a walker holds at each place.
use Rattle.std.specs.Prelude.{◌≡◌, ℕ, ◌≤◌, List, length}
use Rattle.dev_rack.specs.Rack.{State}
use Rattle.gdb_steps.specs.declared.snapshot.Snapshot.{Snapshot}
use Rattle.gdb_steps.specs.declared.used.Used.{Used}
use Rattle.gdb_steps.specs.Places.{IsFront}

-- no more is used up than the input has and the journal tells
pub record IsWithin (input : List ℕ) (real : State) (used : Used) : Type 0 where
  pub fits : used.input ≤ length input
  pub asks : used.asks ≤ length real.journal

-- no more is used up than the input has and the journal tells, and what is played back is a beginning of the journal
pub record IsHeld (input : List ℕ) (real replay : State) (used : Used) : Type 0 where
  pub fits : used.input ≤ length input
  pub asks : used.asks ≤ length real.journal
  pub front : IsFront replay.journal real.journal
  pub slots : length replay.slots ≡ length real.slots

-- a step that can be taken back is one that was done, and none is behind the furthest place
pub record IsCounted (past : List Used) (steps furthest : ℕ) : Type 0 where
  pub few : length past ≤ steps
  pub order : steps ≤ furthest

-- nor at a machine that is kept
abbrev pub IsSafe : List ℕ → State → Snapshot → Type 0
IsSafe input real s = IsWithin input real s.used
