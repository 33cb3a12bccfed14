-- What lies outside a machine, as its steps see it.
use Rattle.std.specs.Prelude.{◌≡◌, ℕ, List, Result}
use Rattle.mix_io.specs.CountsClauses.{HasCause}
use Rattle.mix_io.specs.Streams.{Output}
use Rattle.mix_io.specs.Told.{Puts}
use Rattle.toolbox.specs.Calls.{Outside}

-- the names of the streams and devices that are lent
pub data Lent : Type 0 where
  Lends : (input out trace rack : ℕ) → Lent

-- what the outside tells, what the trace does, and which streams and devices they are
pub record Seen : Type 0 where
  pub outside : Outside
  pub trace : Output
  pub lent : Lent

-- all but the trace is as before
pub record TracesOnly (a b : Seen) : Type 0 where
  pub outside : b.outside ≡ a.outside
  pub lent : b.lent ≡ a.lent

-- the trace is as before, and the same streams and devices are lent
pub record KeepsTrace (a b : Seen) : Type 0 where
  pub trace : b.trace ≡ a.trace
  pub lent : b.lent ≡ a.lent

-- the trace took a line, or failed at it
pub record Tells {V E : Type 0} (line : List ℕ) (a b : Seen) (result : Result V E) : Type 0 where
  pub puts : Puts a.trace.held b.trace.held line result
  pub cause : HasCause a.trace.faults b.trace.faults result
  pub rest : TracesOnly a b
