-- How a walker begins, and what a walk back leaves.
use Rattle.std.specs.Prelude.{◌≡◌, ℕ, ◌+◌, ◌≤◌, List, []}
use Rattle.mix_engine.specs.declared.machine.Machine.{Machine}
use Rattle.dev_rack.specs.declared.devices.Devices.{Ghosts}
use Rattle.gdb_steps.specs.Backs.{EndsBack}
use Rattle.gdb_steps.specs.Places.{Begin, IsRun, Run}
use Rattle.gdb_steps.specs.Points.{Points}
use Rattle.gdb_steps.specs.Walkers.{begin_of, run_of}
use Rattle.gdb_steps.specs.Walks.{Strays}
use Rattle.gdb_steps.specs.declared.halt.Halt.{Halt}
use Rattle.gdb_steps.specs.declared.halt.Halt.TheVariants.{Strayed}
use Rattle.gdb_steps.specs.declared.halt.Until.{Until}
use Rattle.gdb_steps.specs.declared.walker.Walker.{Walker}

-- before the first step, with nothing to stop at
pub record Begins {D : Type 0} {G : Ghosts D} (first : Machine) (input : List ℕ) (devices : ℕ) (w : Walker D G) : Type 0 where
  pub run : IsRun (begin_of first input devices) (run_of w)
  pub machine : w.debug.machine ≡ first
  pub steps : w.steps ≡ 0
  pub furthest : w.furthest ≡ 0
  pub breaks : w.breakpoints ≡ []
  pub watches : w.watches ≡ []

-- another place of the same run
pub record Moved (r s : Run) : Type 0 where
  pub run : (b : Begin) → IsRun b r → IsRun b s
  pub same : s ≡ record r { here = s.here; past = s.past; steps = s.steps }

-- a walk back from one place of a run to another, in which nothing is told and no device asked
pub record GoesBack (b : Begin) (p : Points) (until : Until) (n : ℕ) (halt : Halt) (r s : Run) : Type 0 where
  pub run : IsRun b s
  pub earlier : s.steps ≤ r.steps
  pub within : r.steps ≤ s.steps + n
  pub ends : EndsBack b p until r.given n halt r.steps s.steps
  pub same : s ≡ record r { here = s.here; past = s.past; steps = s.steps }

abbrev pub Backs : Begin → Points → Until → ℕ → Halt → Run → Run → Type 0
Backs b p until n Strayed r s = Strays b r.given r.furthest
Backs b p until n halt r s = GoesBack b p until n halt r s
