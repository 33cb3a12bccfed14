-- A debugger in memory beside the outside, and claims on the sessions that it stands for.
use Rattle.std.specs.Prelude.{ℕ, List, Option, Some, None, Result, Ok, Err}
use Rattle.mix_io.specs.Streams.{Output}
use Rattle.dev_rack.specs.Accounts.{Accounts}
use Rattle.dev_rack.specs.Rack.{State as Rack}
use Rattle.toolbox.specs.Blames.{BlamesOnly, Counts}
use Rattle.toolbox.specs.Calls.{Outside}
use Rattle.toolbox.specs.CallsClauses.{counts_beside}
use Rattle.mixed_machine.specs.Outside.{Between}
use Rattle.toolbox.specs.Calls.{around_at}
use Rattle.mixed_machine.specs.Runs.{Sinks}
use Rattle.mix_debug.specs.TrailsClauses.{Trail}
use Rattle.mix_engine.specs.Beside.{outside_lent, trace_lent}
use Rattle.mix_engine.specs.declared.outside.Outside.{Outside as Lent}
use Rattle.mix_top.specs.Sessions.{Session}
use Rattle.mix_top.specs.Debuggers.{session_of}
use Rattle.toolbox.specs.declared.broken.Broken.{Broken}

-- a debugger, and what the outside tells
pub record Place : Type 0 where
  pub trail : Trail
  pub outside : Outside
  pub trace : Output

abbrev pub place : Trail → Outside → Output → Place
place trail outside trace = record { trail = trail; outside = outside; trace = trace }

-- a debugger beside the outside that is lent to it
abbrev pub place_beside : {I O T D : Type 0} → (I → Option (List ℕ)) → (I → ℕ) → (O → Option (List ℕ)) → (O → ℕ) → (T → Option (List ℕ)) → (T → ℕ) → (D → Rack)
    → Trail → Lent I O T D → Place
place_beside left read_faults held put_faults traced trace_faults state trail o =
    place trail (outside_lent left read_faults held put_faults state o) (trace_lent traced trace_faults o)

abbrev pub sinks_in : Place → Sinks
sinks_in p = record { out = p.outside.out; trace = p.trace }

abbrev pub counts_in : Place → Counts
counts_in p = counts_beside p.outside p.trace

-- the session that it stands for, for some bytes of input that are left and some answers to come
abbrev pub session_at : Place → List ℕ → List (Option ℕ) → Session
session_at p input answers = session_of p.trail (around_at p.outside input answers)

-- what stopped, if anything did
abbrev pub stop_in : {V : Type 0} → Result V Broken → Option Broken
stop_in (Ok v) = None
stop_in (Err stopped) = Some stopped

-- a claim on the sessions that a debugger stands for before and after; the count of what stopped it rose, and no other
pub record Over (stop : Option Broken) (P : Session → Session → Type 0) (a b : Place) : Type 0 where
  pub blames : BlamesOnly stop (counts_in a) (counts_in b)
  pub devices : Accounts a.outside.rack b.outside.rack
  pub claim : Between P (session_of a.trail) (session_of b.trail) a.outside b.outside
