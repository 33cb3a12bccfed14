-- A walk back over the states of a run, until something stops it.
use Rattle.std.specs.Prelude.{◌≡◌, ℕ, suc, ◌+◌, ◌<◌, ◌≤◌, List, Option, None, Some}
use Rattle.mixed_machine.specs.Exec.{Leads}
use Rattle.mixed_machine.specs.State.{State, seen}
use Rattle.gdb_steps.specs.Places.{Begin, Given, first_state}
use Rattle.gdb_steps.specs.Points.{Points, halt_at}
use Rattle.gdb_steps.specs.declared.halt.Halt.{Halt}
use Rattle.gdb_steps.specs.declared.halt.Halt.TheVariants.{Beginning, Spent}
use Rattle.gdb_steps.specs.declared.halt.Until.{Until}

-- what stops a walk back over a step that led from one state to another
abbrev pub halt_back : Points → Until → State → State → Option Halt
halt_back p until s t = halt_at p until (seen t).bytes (seen s).bytes s.active

-- what stops it over the step of the run that has so many in front of it, whatever the devices answer later
abbrev pub StopsBack : Begin → Points → Until → Given → ℕ → Option Halt → Type 0
StopsBack b p until g n halt = (more : List (Option ℕ)) (s t : State) → Leads 0 n (first_state b g more) s → Leads 0 1 s t → halt_back p until s t ≡ halt

-- nothing stops it over any of the steps from a place of the run to a later one
abbrev pub Passes : Begin → Points → Until → Given → ℕ → ℕ → Type 0
Passes b p until g low high = (n : ℕ) → low ≤ n → n < high → StopsBack b p until g n None

-- a walk of n steps back from one place of the run ends at an earlier one: at the first of all, or where its steps are
-- done, if nothing stops it; else in front of the last step that stops it
abbrev pub EndsBack : Begin → Points → Until → Given → ℕ → Halt → ℕ → ℕ → Type 0
EndsBack b p until g n Beginning high low = (low ≡ 0) × (high < n) × Passes b p until g 0 high
EndsBack b p until g n Spent high low = (high ≡ low + n) × Passes b p until g low high
EndsBack b p until g n halt high low = (low < high) × StopsBack b p until g low (Some halt) × Passes b p until g (suc low) high
