-- What the parts of a run of a script do.
use Rattle.std.specs.Prelude.{◌≡◌, ℕ, List, [], ◌∷◌, length, Option, Some, None, Result, Ok, Err}
use Rattle.mix_bits.specs.declared.isa.Isa.{Isa}
use Rattle.mix_io.specs.Streams.{Output, Grows, Breaks}
use Rattle.mix_io.specs.declared.errors.Failed.{Failed}
use Rattle.switch_frame.specs.Records.{isa_of}
use Rattle.call_trace.specs.Lines.{end_line}
use Rattle.call_trace.specs.declared.end.End.{End}
use Rattle.call_trace.specs.declared.end.End.TheVariants.{Exit as ExitEnd, Fault as FaultEnd, Limit as LimitEnd}
use Rattle.mixed_machine.specs.Next.{Next, Effects}
use Rattle.mixed_machine.specs.Next.Next.{Goes, Exits, Faults}
use Rattle.mixed_machine.specs.State.{State}
use Rattle.mixed_machine.specs.Step.{step}
use Rattle.mixed_machine.specs.Runs.{Sinks}
use Rattle.mixed_machine.specs.declared.stop.Stop.{Stop}
use Rattle.mixed_machine.specs.declared.stop.Stop.TheVariants.{Exit, Fault, Limit, ReadFault, OutFault, TraceFault}
use Rattle.mix_debug.specs.TrailsClauses.{Trail}
use Rattle.mix_top.specs.Sessions.{Session}
use Rattle.mix_top.specs.Events.{Walk, after, forward, lines_by, said_by, steps_to}
use Rattle.mix_top.specs.Places.{Over, Place, sinks_in, stop_in}
use Rattle.mix_top.specs.Plays.{AllDone, Played}
use Rattle.mix_top.specs.declared.walk.Once.{Once}
use Rattle.mix_top.specs.declared.walk.Once.TheVariants.{Went, Ended, Halted}
use Rattle.toolbox.specs.declared.broken.Broken.{Broken}
use Rattle.toolbox.specs.declared.broken.Broken.TheVariants.{Input, Output as Out, Trace}
use Rattle.mix_top.specs.declared.walk.Until.{Until}
use Rattle.mix_top.specs.declared.walk.Walked.{Walked}

-- what the stop of a run of one step by code of a set tells
abbrev pub once_of : Isa → Stop → Once
once_of set (Exit code) = Ended (ExitEnd code)
once_of set (Fault fault) = Ended (FaultEnd set fault)
once_of set Limit = Went
once_of set ReadFault = Halted Input
once_of set OutFault = Halted Out
once_of set TraceFault = Halted Trace

-- the same where the set is that of the machine behind the step: a fault changes none
abbrev pub once_in : Trail → Stop → Once
once_in d stop = once_of (isa_of d.machine.active) stop

-- what a walk of so many steps came to that a further one ended
abbrev pub ended_by : ℕ → Once → Result Walked Broken
ended_by done Went = Ok (record { done = done; end = None })
ended_by done (Ended end) = Ok (record { done = done; end = Some end })
ended_by done (Halted stopped) = Err stopped

abbrev pub halt_in : Once → Option Broken
halt_in Went = None
halt_in (Ended end) = None
halt_in (Halted stopped) = Some stopped

-- a step that goes on, as far as it was done
pub record GoesOn (stop : Option Broken) (s t : Session) (old new : Sinks) : Type 0 where
  pub next : State
  pub effects : Effects
  pub goes : step s.state ≡ Goes next effects
  pub played : Played stop (steps_to s next effects ∷ []) s t old new

-- the program ends, and nothing is done
pub record EndsAt (x : Next) (s t : Session) (old new : Sinks) : Type 0 where
  pub ends : step s.state ≡ x
  pub done : AllDone [] s t old new

-- one step
abbrev pub DoesOnce : Once → Session → Session → Sinks → Sinks → Type 0
DoesOnce Went s t old new = GoesOn None s t old new
DoesOnce (Ended (ExitEnd code)) s t old new = EndsAt (Exits code) s t old new
DoesOnce (Ended (FaultEnd set fault)) s t old new = (set ≡ isa_of s.state.active) × EndsAt (Faults fault) s t old new
DoesOnce (Ended LimitEnd) s t old new = ⊥
DoesOnce (Halted stopped) s t old new = GoesOn (Some stopped) s t old new

-- all steps of a walk
pub record Walks (w : Walk) (walked : Walked) (s t : Session) (old new : Sinks) : Type 0 where
  pub all : AllDone w.steps s t old new
  pub count : length w.steps ≡ walked.done
  pub ending : w.ending ≡ walked.end

abbrev pub WalkedBy : Result Walked Broken → Walk → Session → Session → Sinks → Sinks → Type 0
WalkedBy (Ok walked) w s t old new = Walks w walked s t old new
WalkedBy (Err stopped) w s t old new = Played (Some stopped) w.steps s t old new

abbrev pub GoesForward : Until → ℕ → Place → Place → Result Walked Broken → Type 0
GoesForward until count a b result = Over (stop_in result) (λ s t. WalkedBy result (forward until count s) s t (sinks_in a) (sinks_in b)) a b

-- all steps back, which put nothing
pub record WalksBack (w : Walk) (walked : Walked) (s t : Session) : Type 0 where
  pub end_is : t ≡ after s w.steps
  pub said : said_by w.steps ≡ []
  pub traced : lines_by w.steps ≡ []
  pub count : length w.steps ≡ walked.done
  pub ending : w.ending ≡ walked.end

-- the trace took a text, or failed within it
abbrev pub TellsTo : List ℕ → Output → Output → Option Broken → Type 0
TellsTo text old new None = Grows old new text
TellsTo text old new (Some Input) = ⊥
TellsTo text old new (Some Out) = ⊥
TellsTo text old new (Some Trace) = Breaks old new [] text

-- the end line of a program that ended
abbrev pub TellsEnd : Option End → Output → Output → Option Broken → Type 0
TellsEnd None old new stop = (new ≡ old) × (stop ≡ None)
TellsEnd (Some end) old new stop = TellsTo (end_line end) old new stop

-- what a put on the trace tells
abbrev pub traced_of : Result (Unit {0}) Failed → Result (Unit {0}) Broken
traced_of (Ok done) = Ok done
traced_of (Err failed) = Err Trace
