-- A machine beside the outside that is lent to it.
use Rattle.std.specs.Prelude.{◌≡◌, ℕ, List, Option}
use Rattle.switch_frame.specs.declared.active.Active.{Active}
use Rattle.dev_rack.specs.Rack.{State}
use Rattle.toolbox.specs.Calls.{Outside as ToldOutside}
use Rattle.toolbox.specs.CallsClauses.{outside}
use Rattle.mixed_machine.specs.declared.body.Body.{Body}
use Rattle.mixed_machine.specs.OutsideClauses.{At, at}
use Rattle.mix_io.specs.Streams.{Output}
use Rattle.mix_io.specs.StreamsClauses.{output}
use Rattle.mix_engine.specs.Worlds.{Seen}
use Rattle.mix_engine.specs.declared.outside.Outside.{Outside}

-- a machine beside what it sees of the outside
abbrev pub machine_in : Body → Active → Seen → At
machine_in body active seen = at body active seen.outside seen.trace

-- what the outside tells, and what the trace does
abbrev pub outside_lent : {I O T D : Type 0} → (I → Option (List ℕ)) → (I → ℕ) → (O → Option (List ℕ)) → (O → ℕ) → (D → State) → Outside I O T D → ToldOutside
outside_lent left read_faults held put_faults state o =
    outside (left o.input.now) (read_faults o.input.now) (state o.rack.now) (held o.out.now) (put_faults o.out.now)

abbrev pub trace_lent : {I O T D : Type 0} → (T → Option (List ℕ)) → (T → ℕ) → Outside I O T D → Output
trace_lent traced trace_faults o = output (traced o.trace.now) (trace_faults o.trace.now)

-- a machine beside it
abbrev pub machine_beside : {I O T D : Type 0} → (I → Option (List ℕ)) → (I → ℕ) → (O → Option (List ℕ)) → (O → ℕ) → (T → Option (List ℕ)) → (T → ℕ) → (D → State)
    → Body → Active → Outside I O T D → At
machine_beside left read_faults held put_faults traced trace_faults state body active o =
    at body active (outside_lent left read_faults held put_faults state o) (trace_lent traced trace_faults o)

-- the same streams and devices are lent
abbrev pub AreSame : {I O T D : Type 0} → Outside I O T D → Outside I O T D → Type 0
AreSame a b =
    (b.input.ghost_name ≡ a.input.ghost_name) × (b.out.ghost_name ≡ a.out.ghost_name) × (b.trace.ghost_name ≡ a.trace.ghost_name) × (b.rack.ghost_name ≡ a.rack.ghost_name)
