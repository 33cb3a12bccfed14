-- A walk on its way.
use Rattle.std.specs.Prelude.{◌≡◌, ℕ, ◌+◌, ◌-◌, ◌≤◌, List, ◌++◌, length, Option, None, Some}
use Rattle.dev_rack.specs.declared.answers.Asked.{Asked}
use Rattle.mixed_machine.specs.Exec.{Leads}
use Rattle.mixed_machine.specs.Runs.{Sinks, SinksTook}
use Rattle.mixed_machine.specs.State.{State}
use Rattle.gdb_steps.specs.Places.{Begin, Given, IsRun, Run, first_state, state_at}
use Rattle.gdb_steps.specs.Points.{Points}
use Rattle.gdb_steps.specs.Walks.{Forward, walk}
use Rattle.gdb_steps.specs.declared.halt.Halt.{Halt}
use Rattle.gdb_steps.specs.declared.halt.Until.{Until}

abbrev pub given : List ℕ → List Asked → ℕ → Given
given input journal slots = record { input = input; journal = journal; slots = slots }

-- more of the journal is given
pub record More (g h : Given) : Type 0 where
  pub asks : List Asked
  pub is : h ≡ given g.input (g.journal ++ asks) g.slots

-- a walk of n steps that went on from one place to another, with so many steps left
pub record Going (b : Begin) (p : Points) (until : Until) (n left : ℕ) (r s : Run) (old new : Sinks) : Type 0 where
  pub run : IsRun b s
  pub more : More r.given s.given
  pub few : r.here.used.asks ≤ length r.given.journal
  pub count : s.steps + left ≡ r.steps + n
  pub less : left ≤ n
  pub further : r.furthest ≤ s.furthest
  pub walks : (rest : List (Option ℕ)) → walk p until n (state_at s.given r.here rest) ≡ walk p until left (state_at s.given s.here rest)
  pub told : (rest : List (Option ℕ)) (t : State) → Leads 0 r.furthest (first_state b s.given rest) t → SinksTook (s.furthest - r.furthest) t old new

-- one step of a walk of any length, and what stops the walk there, if anything does
abbrev pub OneMore : Begin → Points → Until → Run → Run → Sinks → Sinks → Option Halt → Type 0
OneMore b p until r s old new None = (m : ℕ) → Going b p until (m + 1) m r s old new
OneMore b p until r s old new (Some halt) = (m : ℕ) → Forward b p until (m + 1) halt r s old new
