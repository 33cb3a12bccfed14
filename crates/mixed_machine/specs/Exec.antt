-- Runs of steps.
use Rattle.std.specs.Prelude.{◌≡◌, ℕ, zero, suc, nat_lt, Bool, true, false, List, [], ◌++◌, length}
use Rattle.mix_bits.specs.declared.fault.Fault.{Fault}
use Rattle.mixed_machine.specs.State.{State}
use Rattle.mixed_machine.specs.Next.{Next}
use Rattle.mixed_machine.specs.Next.Next.{Goes, Exits, Faults}
use Rattle.mixed_machine.specs.Step.{step}

-- how a run ends
pub data How : Type 0 where
  Limited : How
  Exited : (code : ℕ) → How
  Faulted : (fault : Fault) → How

-- the end of a run down to a number of callers: fewer than these are left; or how it ended. With it come
-- the state, and the steps that are left: an exit is a step that was done, and a fault is none.
pub data End : Type 0 where
  Back : (at : State) (left : ℕ) → End
  Ended : (how : How) (at : State) (left : ℕ) → End

-- whether fewer callers than d are suspended
abbrev pub is_back : ℕ → State → Bool
is_back d s = nat_lt (length s.callers) d

abbrev pub rests : Bool → State → End
rests true s = Back s 0
rests false s = Ended Limited s 0

-- with n + 1 steps left
abbrev pub goes_on : Bool → Next → State → ℕ → (State → End) → End
goes_on true x s n rest = Back s (suc n)
goes_on false (Goes t effects) s n rest = rest t
goes_on false (Exits code) s n rest = Ended (Exited code) s n
goes_on false (Faults fault) s n rest = Ended (Faulted fault) s (suc n)

-- a run of at most so many steps, until fewer than d callers are suspended
unfoldable pub exec_to : ℕ → ℕ → State → End
exec_to d zero s = rests (is_back d s) s
exec_to d (suc n) s = goes_on (is_back d s) (step s) s n (exec_to d n)

-- a run of at most so many steps
abbrev pub exec : ℕ → State → End
exec n s = exec_to 0 n s

-- j steps, during which no fewer than d callers are suspended, lead from one state to another
abbrev pub Leads : ℕ → ℕ → State → State → Type 0
Leads d j s t = exec_to d j s ≡ Ended Limited t 0

-- what a step puts on the output, and what it puts on the trace
abbrev pub said_of : Next → List ℕ
said_of (Goes t effects) = effects.said
said_of _ = []

abbrev pub line_of : Next → List ℕ
line_of (Goes t effects) = effects.line
line_of _ = []

abbrev pub log_then : (Next → List ℕ) → Next → (State → List ℕ) → List ℕ
log_then pick (Goes t effects) rest = pick (Goes t effects) ++ rest t
log_then pick (Exits code) rest = pick (Exits code)
log_then pick (Faults fault) rest = []

-- what the first steps put, of which `pick` tells what one step puts
unfoldable pub log : (Next → List ℕ) → ℕ → State → List ℕ
log pick zero s = []
log pick (suc n) s = log_then pick (step s) (log pick n)

-- a step that goes on, to this state
abbrev pub GoesTo : Next → State → Type 0
GoesTo (Goes t effects) u = u ≡ t
GoesTo _ u = ⊥

-- a step that reads the input
abbrev pub Reads : Next → Type 0
Reads (Goes t effects) = effects.reads ≡ true
Reads _ = ⊥
