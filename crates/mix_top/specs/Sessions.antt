-- A session of the debugger: a state of the machine, which steps lead forward and back.
use Rattle.std.specs.Prelude.{ℕ, ◌+◌, ◌-◌, nat_le, if◌then◌else◌, List, [], ◌∷◌}
use Rattle.toolbox.specs.Effects.{Around}
use Rattle.mixed_machine.specs.State.{State, seen}
use Rattle.mix_debug.specs.Costs.{file_cost}
use Rattle.mix_debug.specs.Changes.{runs_cost, runs_from}
use Rattle.mix_debug.specs.Trails.{history_room}

-- a step that can be taken back: the state before it, whatever is around by then, and how many bytes of history it takes
pub record Past : Type 0 where
  pub before : Around → State
  pub cost : ℕ

pub record Session : Type 0 where
  pub state : State
  -- the steps that can be taken back, the newest first
  pub past : List Past
  -- the addresses that are set to stop at, in the order in which they were set
  pub breaks : List ℕ

-- a state beside another outside
abbrev pub with_around : State → Around → State
with_around s around = record s { around = around }

-- the newest that together take at most so many bytes
unfoldable pub fitting : ℕ → List Past → List Past
fitting room [] = []
fitting room (p ∷ ps) = if nat_le p.cost room then p ∷ fitting (room - p.cost) ps else []

-- how many bytes of history a step takes that leads from one state to another: its register file, top and block, and each
-- maximal run of bytes that it changes
unfoldable pub cost_of : State → State → ℕ
cost_of s t = file_cost s.active + runs_cost (runs_from 0 (seen s).bytes (seen t).bytes)

-- the session after a step to a state: the step is kept, with as many earlier ones as there is room for
abbrev pub stepped : Session → State → Session
stepped s t =
    record { state = t; past = fitting history_room (record { before = with_around s.state; cost = cost_of s.state t } ∷ s.past); breaks = s.breaks }

-- and after a step back: the machine is that before the step, and what is around it stays
abbrev pub returned : Session → Past → List Past → Session
returned s p ps = record { state = p.before s.state.around; past = ps; breaks = s.breaks }
