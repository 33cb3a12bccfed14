-- How far the events of a script were done: all of them, or those before one at which the outside failed.
use Rattle.std.specs.Prelude.{◌≡◌, ◌<◌, true, List, ◌∷◌, ◌++◌, length, Option, Some, None}
use Rattle.mix_io.specs.Streams.{Grows, Breaks}
use Rattle.mixed_machine.specs.Runs.{Sinks}
use Rattle.mix_top.specs.Sessions.{Session}
use Rattle.mix_top.specs.Events.{Event, after, lines_by, said_by}
use Rattle.toolbox.specs.declared.broken.Broken.{Broken}
use Rattle.toolbox.specs.declared.broken.Broken.TheVariants.{Input, Output, Trace}

-- all were done, and both sinks took what they put
pub record AllDone (events : List Event) (start end : Session) (old new : Sinks) : Type 0 where
  pub end_is : end ≡ after start events
  pub said : Grows old.out new.out (said_by events)
  pub traced : Grows old.trace new.trace (lines_by events)

-- the input failed at an event that reads it; those before it were done
pub record ReadFailed (events : List Event) (start end : Session) (old new : Sinks) : Type 0 where
  pub before : List Event
  pub event : Event
  pub behind : List Event
  pub order : events ≡ before ++ event ∷ behind
  pub reads : event.reads ≡ true
  pub end_is : end ≡ after start before
  pub said : Grows old.out new.out (said_by before)
  pub traced : Grows old.trace new.trace (lines_by before)

-- the output failed at an event that puts something, of which it took some front; those before it were done
pub record OutFailed (events : List Event) (start end : Session) (old new : Sinks) : Type 0 where
  pub before : List Event
  pub event : Event
  pub behind : List Event
  pub order : events ≡ before ++ event ∷ behind
  pub says : 0 < length event.said
  pub end_is : end ≡ after start before
  pub said : Breaks old.out new.out (said_by before) event.said
  pub traced : Grows old.trace new.trace (lines_by before)

-- the trace failed at an event that has a text, of which it took some front; that event and those before it were done
pub record TraceFailed (events : List Event) (start end : Session) (old new : Sinks) : Type 0 where
  pub before : List Event
  pub event : Event
  pub behind : List Event
  pub order : events ≡ before ++ event ∷ behind
  pub tells : 0 < length event.line
  pub end_is : end ≡ event.after
  pub said : Grows old.out new.out (said_by before ++ event.said)
  pub traced : Breaks old.trace new.trace (lines_by before) event.line

abbrev pub Played : Option Broken → List Event → Session → Session → Sinks → Sinks → Type 0
Played None events start end old new = AllDone events start end old new
Played (Some Input) events start end old new = ReadFailed events start end old new
Played (Some Output) events start end old new = OutFailed events start end old new
Played (Some Trace) events start end old new = TraceFailed events start end old new
