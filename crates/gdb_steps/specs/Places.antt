-- The run of a machine from its beginning, over the whole input and over what the devices answered, and places in it.
use Rattle.std.specs.Prelude.{◌≡◌, ℕ, suc, ◌≤◌, All, Bool, List, [], ◌∷◌, ◌++◌, length, map, take, drop, is_some, Option}
use Rattle.dev_rack.specs.Rack.{State as Rack}
use Rattle.dev_rack.specs.declared.answers.Asked.{Asked}
use Rattle.mixed_machine.specs.Exec.{Leads}
use Rattle.mixed_machine.specs.Machine.{flat}
use Rattle.mixed_machine.specs.State.{State}
use Rattle.mix_engine.specs.declared.machine.Machine.{Machine}
use Rattle.mix_image.specs.Spelling.{HasSpelling, spell}
use Rattle.mix_io.specs.Memory.{kept_as}
use Rattle.gdb_steps.specs.declared.snapshot.Snapshot.{Snapshot}
use Rattle.gdb_steps.specs.declared.used.Used.{Used}

-- asks are a beginning of a journal
abbrev pub IsFront : List Asked → List Asked → Type 0
IsFront asks journal = asks ≡ take (length asks) journal

-- where a run begins: a machine, the bytes of its input, and which slots hold a device
pub record Begin : Type 0 where
  pub machine : Machine
  pub input : List ℕ
  pub slots : List Bool

-- what the outside gives: the whole input, the asks so far, each with its answer, and how many slots there are
pub record Given : Type 0 where
  pub input : List ℕ
  pub journal : List Asked
  pub slots : ℕ

-- a machine, and how much of the outside is used up
pub record Place : Type 0 where
  pub machine : Machine
  pub used : Used

-- the answers of asks, and those to come behind them
abbrev pub answers_of : List Asked → List (Option ℕ) → List (Option ℕ)
answers_of asks more = map (λ e. e.answer) asks ++ more

-- the first state, where the devices give those answers and then others
abbrev pub first_state : Begin → Given → List (Option ℕ) → State
first_state b g more =
    flat b.machine.body b.machine.active (record { input = b.input; slots = b.slots; asks = []; answers = answers_of g.journal more })

-- the state at a place: the input behind what was taken, the slots that still hold a device, and the answers behind those
-- that were given
abbrev pub state_at : Given → Place → List (Option ℕ) → State
state_at g p more =
    flat p.machine.body p.machine.active (record {
      input = drop p.used.input g.input;
      slots = take g.slots p.used.held;
      asks = take p.used.asks g.journal;
      answers = answers_of (drop p.used.asks g.journal) more;
    })

-- so many steps of the run lead to a place, whatever the devices answer later
pub record IsPlace (b : Begin) (g : Given) (n : ℕ) (p : Place) : Type 0 where
  pub asks : p.used.asks ≤ length g.journal
  pub leads : (more : List (Option ℕ)) → Leads 0 n (first_state b g more) (state_at g p more)

-- the places before so many steps, the newest first: each is one step before the one in front of it
abbrev pub ArePlaces : Begin → Given → ℕ → List Place → Type 0
ArePlaces b g n [] = Unit {0}
ArePlaces b g n (p ∷ ps) = (m : ℕ) × (n ≡ suc m) × IsPlace b g m p × ArePlaces b g m ps

-- the image that is kept is that of the machine after so many steps of the run
abbrev pub IsKept : Begin → Given → Snapshot → Type 0
IsKept b g s = (m : Machine) × HasSpelling m × (kept_as s.image [] ≡ spell m) × IsPlace b g s.steps (record { machine = m; used = s.used })

-- a run that stands at a place after so many steps, with the places before the steps that can be taken back, and that
-- reached another at the furthest, at which the devices are; and the machines that are kept on the way
pub record Run : Type 0 where
  pub given : Given
  pub rack : Rack
  pub here : Place
  pub steps : ℕ
  pub past : List Place
  pub furthest : ℕ
  pub kept : List Snapshot

pub record IsRun (b : Begin) (r : Run) : Type 0 where
  pub input : r.given.input ≡ b.input
  pub here : IsPlace b r.given r.steps r.here
  pub past : ArePlaces b r.given r.steps r.past
  pub order : r.steps ≤ r.furthest
  pub last : Place
  pub reached : IsPlace b r.given r.furthest last
  pub asked : last.used.asks ≡ length r.given.journal
  pub held : take r.given.slots last.used.held ≡ map is_some r.rack.slots
  pub kept : All (IsKept b r.given) r.kept
