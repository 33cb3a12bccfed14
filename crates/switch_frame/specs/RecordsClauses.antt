-- A held caller is a record and its depth.
use Rattle.std.specs.Prelude.{ℕ}
use Rattle.switch_frame.specs.declared.held.Held.{Held}
use Rattle.switch_frame.specs.Records.{Record}

-- a held caller is a record and its depth, which counts the frames up to it from the outermost
abbrev pub record_of : Held → Record
record_of held =
    record { kind = held.kind; caller = held.caller; info = held.info; selector = held.selector; target = held.target; lo = held.lo; hi = held.hi; want = held.want_sp }

abbrev pub held_of : Record → ℕ → Held
held_of r depth =
    record { kind = r.kind; caller = r.caller; info = r.info; selector = r.selector; target = r.target; lo = r.lo; hi = r.hi; want_sp = r.want; depth = depth }
