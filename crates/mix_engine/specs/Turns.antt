-- How the run of one instruction set ends: where its innermost caller goes on, or where the machine stops.
use Rattle.std.specs.Prelude.{◌≡◌, ℕ, ◌≤◌, List, ◌∷◌, length}
use Rattle.switch_frame.specs.declared.active.Active.{Active}
use Rattle.switch_frame.specs.Records.{Record, isa_of}
use Rattle.dev_rack.specs.Accounts.{Accounts}
use Rattle.toolbox.specs.Blames.{Calm, Counts}
use Rattle.mixed_machine.specs.CountsClauses.{Blames, counts_of}
use Rattle.mixed_machine.specs.Events.{CameBackAt, StopsAt}
use Rattle.mixed_machine.specs.Machine.{IsWhole, callers_of}
use Rattle.mixed_machine.specs.OutsideClauses.{At}
use Rattle.mix_engine.specs.declared.turn.Turn.{Turn}
use Rattle.mix_engine.specs.declared.turn.Turn.TheVariants.{Back, Stop as Stopped}

-- the registers that it hands back
abbrev pub file_of : Turn → Active
file_of (Back file) = file
file_of (Stopped file stop) = file

-- a run down to d callers of at most n steps, with `left` steps left at its end
abbrev pub TurnsAt : ℕ → ℕ → ℕ → At → At → Turn → Type 0
TurnsAt d n left a b (Back file) = CameBackAt d n left a b
TurnsAt d n left a b (Stopped file stop) = StopsAt d n left a b stop

-- a return leaves exactly the callers outside the innermost one
abbrev pub Waits : List Record → Turn → List Record → Type 0
Waits old (Back file) new = (r : Record) × (old ≡ r ∷ new)
Waits old (Stopped file stop) new = Unit {0}

-- whose count of faults rose: that of what stopped the machine
abbrev pub BlamesTurn : Turn → Counts → Counts → Type 0
BlamesTurn (Back file) old new = Calm old new
BlamesTurn (Stopped file stop) old new = Blames stop old new

-- a run of at most n steps, down to the callers at its start, with `left` steps left at its end
pub record Turned (n left : ℕ) (a b : At) (turn : Turn) : Type 0 where
  pub whole : IsWhole b.body (isa_of b.active)
  pub callers : Waits (callers_of a.body) turn (callers_of b.body)
  pub run : TurnsAt (length (callers_of a.body)) n left a b turn
  pub fewer : left ≤ n
  pub blames : BlamesTurn turn (counts_of a) (counts_of b)
  pub devices : Accounts a.outside.rack b.outside.rack
