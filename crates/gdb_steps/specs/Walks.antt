-- A walk over the states of a run, until something stops it, and what it tells.
use Rattle.std.specs.Prelude.{◌≡◌, ℕ, zero, suc, ◌+◌, ◌-◌, ◌<◌, ◌≤◌, List, ◌++◌, take, drop, Option, None, Some}
use Rattle.mix_io.specs.Streams.{Grows, Breaks}
use Rattle.dev_rack.specs.declared.answers.Asked.{Asked}
use Rattle.mixed_machine.specs.declared.stop.Stop.TheVariants as By
use Rattle.mixed_machine.specs.Exec.{GoesTo, Leads, line_of, log, said_of}
use Rattle.mixed_machine.specs.Machine.{flat}
use Rattle.mixed_machine.specs.Next.{Next}
use Rattle.mixed_machine.specs.Next.Next.{Goes, Exits, Faults}
use Rattle.mixed_machine.specs.Runs.{Sinks, SinksTook}
use Rattle.mixed_machine.specs.State.{State, seen}
use Rattle.mixed_machine.specs.Step.{step}
use Rattle.gdb_steps.specs.Points.{Points, halt_at}
use Rattle.gdb_steps.specs.Places.{Begin, Given, IsFront, IsPlace, IsRun, Place, Run, answers_of, first_state, state_at}
use Rattle.gdb_steps.specs.declared.halt.Halt.{Halt}
use Rattle.gdb_steps.specs.declared.halt.Halt.TheVariants.{End, Spent, Strayed}
use Rattle.gdb_steps.specs.declared.halt.Until.{Until}

-- where a walk ended, why, and how many of its steps were left
pub record Walked : Type 0 where
  pub left : ℕ
  pub at : State
  pub halt : Halt

abbrev pub halts : ℕ → State → Halt → Walked
halts left at halt = record { left = left; at = at; halt = halt }

abbrev pub halts_or : Option Halt → ℕ → State → (State → Walked) → Walked
halts_or None left t rest = rest t
halts_or (Some halt) left t rest = halts left t halt

abbrev pub walk_by : Points → Until → State → Next → ℕ → (State → Walked) → Walked
walk_by p until s (Goes t effects) left rest = halts_or (halt_at p until (seen s).bytes (seen t).bytes t.active) left t rest
walk_by p until s (Exits code) left rest = halts (suc left) s (End (By.Exit code))
walk_by p until s (Faults fault) left rest = halts (suc left) s (End (By.Fault fault))

-- up to so many steps: up to the first behind which something stops it, or in front of the end of the program
unfoldable pub walk : Points → Until → ℕ → State → Walked
walk p until zero s = halts 0 s Spent
walk p until (suc n) s = walk_by p until s (step s) n (walk p until n)

-- a walk of n steps came to a state, with so many steps left, and ended there; or a sink failed, at the step in front of it
-- or at the one behind it
abbrev pub Comes : Points → Until → ℕ → ℕ → Halt → State → State → Type 0
Comes p until n left (End By.OutFault) s t = walk p until n s ≡ walk p until left t
Comes p until n left (End By.TraceFault) s t = (u : State) × (walk p until n s ≡ walk p until (suc left) u) × GoesTo (step u) t
Comes p until n left halt s t = walk p until n s ≡ halts left t halt

-- the sinks took what j steps from a state put; or one failed at a piece of a step, and the other took it or not
abbrev pub Tells : Halt → ℕ → State → Sinks → Sinks → Type 0
Tells (End By.OutFault) j s old new =
    (u : State) × Leads 0 j s u × Breaks old.out new.out (log said_of j s) (said_of (step u)) × Grows old.trace new.trace (log line_of j s)
Tells (End By.TraceFault) j s old new =
    (i : ℕ) × (u : State) × (j ≡ suc i) × Leads 0 i s u × Grows old.out new.out (log said_of j s) × Breaks old.trace new.trace (log line_of i s) (line_of (step u))
Tells halt j s old new = SinksTook j s old new

-- a walk forward, from a run at one place to the run at another: what steps put is told when they are done for the first
-- time, which those up to the furthest place are
pub record GoesForward (b : Begin) (p : Points) (until : Until) (n : ℕ) (halt : Halt) (r s : Run) (old new : Sinks) : Type 0 where
  pub run : IsRun b s
  pub later : r.steps ≤ s.steps
  pub within : s.steps ≤ r.steps + n
  pub further : r.furthest ≤ s.furthest
  pub more : (asks : List Asked) × (s.given ≡ record r.given { journal = r.given.journal ++ asks })
  pub comes : (more : List (Option ℕ)) → Comes p until n (r.steps + n - s.steps) halt (state_at s.given r.here more) (state_at s.given s.here more)
  pub told : (more : List (Option ℕ)) (t : State) → Leads 0 r.furthest (first_state b s.given more) t → Tells halt (s.furthest - r.furthest) t old new

-- at a place before the furthest one the machine goes on, but by other asks or answers than the journal has
pub record Strays (b : Begin) (g : Given) (furthest : ℕ) : Type 0 where
  pub steps : ℕ
  pub place : Place
  pub fewer : steps < furthest
  pub is : IsPlace b g steps place
  pub asks : List Asked
  pub goes : (more : List (Option ℕ)) → (t : State)
      × Leads 0 1 (flat place.machine.body place.machine.active (record {
        input = drop place.used.input g.input;
        slots = take g.slots place.used.held;
        asks = take place.used.asks g.journal;
        answers = answers_of asks more;
      })) t
      × (t.around.asks ≡ take place.used.asks g.journal ++ asks)
  pub unlike : IsFront (take place.used.asks g.journal ++ asks) g.journal → ⊥

abbrev pub Forward : Begin → Points → Until → ℕ → Halt → Run → Run → Sinks → Sinks → Type 0
Forward b p until n Strayed r s old new = Strays b s.given s.furthest
Forward b p until n halt r s old new = GoesForward b p until n halt r s old new
