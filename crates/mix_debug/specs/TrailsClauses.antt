-- A step forward that is kept, and a step back that takes the newest one back.
use Rattle.std.specs.Prelude.{◌≡◌, ℕ, Bool, true, false, List, [], ◌∷◌}
use Rattle.mixed_machine.specs.declared.stop.Stop.{Stop}
use Rattle.mixed_machine.specs.declared.stop.Stop.TheVariants.{Exit, Fault, Limit, ReadFault, OutFault, TraceFault}
use Rattle.mix_engine.specs.declared.machine.Machine.{Machine}
use Rattle.mix_debug.specs.declared.step.Step.{Step}
use Rattle.mix_debug.specs.declared.step.Step.TheVariants.{Next, End}
use Rattle.mix_debug.specs.CostsClauses.{Kept, cost_between, fitting}
use Rattle.mix_debug.specs.Trails.{history_room}

pub record Trail : Type 0 where
  pub machine : Machine
  -- the machines before the steps that can be taken back, the newest first
  pub kept : List Kept
  -- in the order in which they were set
  pub breaks : List ℕ

-- what a run of one step answered, and how that is told
abbrev pub stop_of : Step → Stop
stop_of Next = Limit
stop_of (End stop) = stop

abbrev pub step_of : Stop → Step
step_of (Exit code) = End (Exit code)
step_of (Fault fault) = End (Fault fault)
step_of Limit = Next
step_of ReadFault = End ReadFault
step_of OutFault = End OutFault
step_of TraceFault = End TraceFault

-- whether the step is done, and leads to another machine
abbrev pub is_done : Stop → Bool
is_done (Exit code) = false
is_done (Fault fault) = false
is_done Limit = true
is_done ReadFault = false
is_done OutFault = false
is_done TraceFault = true

-- a step that is done is kept, and with it as many earlier ones as there is room for; else all stays as it is
abbrev pub Keeps : Bool → Trail → Trail → Type 0
Keeps true old new =
    new.kept ≡ fitting history_room (record { machine = old.machine; cost = cost_between old.machine new.machine } ∷ old.kept)
Keeps false old new = (new.machine ≡ old.machine) × (new.kept ≡ old.kept)

-- the machine is that before the newest step that is kept, which is kept no more; where none is, all stays as it is
abbrev pub TakesBack : Bool → List Kept → Trail → Trail → Type 0
TakesBack done [] old new = (done ≡ false) × (new ≡ old)
TakesBack done (k ∷ ks) old new = (done ≡ true) × (new ≡ record { machine = k.machine; kept = ks; breaks = old.breaks })
