-- How a walker goes to other places of its run, and what it finds on the way.
use Rattle.std.specs.Prelude.{◌≡◌, ℕ, suc, ◌<◌, ◌≤◌, Bool, true, false, List, [], ◌∷◌, IfSome, Option, None, Some}
use Rattle.dev_rack.specs.declared.devices.Devices.{Ghosts}
use Rattle.gdb_steps.specs.Backs.{Passes, StopsBack}
use Rattle.gdb_steps.specs.Places.{Begin, Given, IsRun, Place, Run}
use Rattle.gdb_steps.specs.Points.{Points}
use Rattle.gdb_steps.specs.Walkers.{run_of}
use Rattle.gdb_steps.specs.WalkersClauses.{Moved}
use Rattle.gdb_steps.specs.Walks.{Strays}
use Rattle.gdb_steps.specs.declared.found.Found.{Found}
use Rattle.gdb_steps.specs.declared.halt.Halt.{Halt}
use Rattle.gdb_steps.specs.declared.halt.Until.{Until}
use Rattle.gdb_steps.specs.declared.lost.Lost.{Lost}
use Rattle.gdb_steps.specs.declared.lost.Lost.TheVariants as By
use Rattle.gdb_steps.specs.declared.walker.Walker.{Walker}
use Rattle.gdb_steps.specs.inner.Looks.{Plain}
use Rattle.gdb_steps.specs.inner.Onces.{Keeps}

-- to the place before the newest step that is kept; where none is, all stays as it is
abbrev pub Returns : Bool → List Place → Run → Run → Type 0
Returns true [] r s = ⊥
Returns true (p ∷ ps) r s = (r.steps ≡ suc s.steps) × (s ≡ record r { here = p; past = ps; steps = s.steps })
Returns false [] r s = s ≡ r
Returns false (p ∷ ps) r s = ⊥

pub record StepsBack {D : Type 0} {G : Ghosts D} (done : Bool) (w v : Walker D G) : Type 0 where
  pub returns : Returns done (run_of w).past (run_of w) (run_of v)
  pub keeps : Keeps w v

-- there was no memory to go on, and it stands somewhere in the run; or a device did not answer again as before
abbrev pub IsLost : Lost → Run → Run → Type 0
IsLost By.NoMemory r s = Moved r s
IsLost By.Strayed r s = (b : Begin) → IsRun b r → Strays b r.given r.furthest

-- a walk back stops there, by one of the things that it is to stop at
pub record StopsAt (b : Begin) (p : Points) (until : Until) (g : Given) (n : ℕ) (halt : Halt) : Type 0 where
  pub plain : Plain halt
  pub stops : StopsBack b p until g n (Some halt)

-- the last place between two at which a walk back stops, or none
abbrev pub IsLast : Begin → Points → Until → Given → ℕ → ℕ → Option Found → Type 0
IsLast b p until g low high None = Passes b p until g low high
IsLast b p until g low high (Some found) = (low ≤ found.steps) × (found.steps < high) × StopsAt b p until g found.steps found.halt × Passes b p until g (suc found.steps) high

-- the first place on a walk back from the later one to the earlier at which it stops, if anything does
abbrev pub IsFirst : Begin → Points → Until → Given → ℕ → ℕ → Option Halt → Type 0
IsFirst b p until g low high None = Passes b p until g low high
IsFirst b p until g low high (Some halt) = (low < high) × StopsAt b p until g low halt × Passes b p until g (suc low) high

abbrev pub StopsOr : Begin → Points → Until → Given → ℕ → Option Halt → Type 0
StopsOr b p until g n None = StopsBack b p until g n None
StopsOr b p until g n (Some halt) = StopsAt b p until g n halt

-- one step further in the run, over which a walk back would be stopped or not
pub record Passed (p : Points) (until : Until) (r s : Run) (halt : Option Halt) : Type 0 where
  pub moved : Moved r s
  pub steps : s.steps ≡ suc r.steps
  pub stops : (b : Begin) → IsRun b r → StopsOr b p until r.given r.steps halt

-- further in the run
pub record Looked (p : Points) (until : Until) (high : ℕ) (r s : Run) (found : Option Found) : Type 0 where
  pub moved : Moved r s
  pub steps : s.steps ≡ high
  pub between : IfSome found (λ f. (r.steps ≤ f.steps) × (f.steps < high))
  pub last : (b : Begin) → IsRun b r → IsLast b p until r.given r.steps high found

-- where a walk back ends that is stopped there, or else at the earlier place, and why
abbrev pub place_in : ℕ → Option Found → ℕ
place_in low None = low
place_in low (Some found) = found.steps

abbrev pub halt_in : Option Found → Option Halt
halt_in None = None
halt_in (Some found) = Some found.halt

-- a walk back down to so many steps at the most
pub record Backed (p : Points) (until : Until) (low : ℕ) (r s : Run) (halt : Option Halt) : Type 0 where
  pub moved : Moved r s
  pub earlier : s.steps ≤ r.steps
  pub least : low ≤ s.steps
  pub first : (b : Begin) → IsRun b r → IsFirst b p until r.given s.steps r.steps halt

-- one that goes all that way, if nothing stops it
pub record BackedTo (p : Points) (until : Until) (low : ℕ) (r s : Run) (halt : Option Halt) : Type 0 where
  pub backed : Backed p until low r s halt
  pub whole : halt ≡ None → s.steps ≡ low
