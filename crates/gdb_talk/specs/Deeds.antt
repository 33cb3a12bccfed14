-- What a server does at a request: an answer, a walk of the machine, a point set or taken away, a command, or the end.
-- Source: GDB manual, appendix 'GDB Remote Serial Protocol', sections 'Packets' and 'General Query Packets'.
use Rattle.std.specs.Prelude.{ℕ, ◌||◌, Bool, true, false, Option, Some, None, if◌then◌else◌}
use Rattle.mix_bits.specs.declared.isa.Isa.{Isa}
use Rattle.mix_bits.specs.declared.isa.Isa.TheVariants.{M68, Ppc}
use Rattle.gdb_answers.specs.declared.answer.Answer.{Answer as Said}
use Rattle.gdb_answers.specs.declared.answer.Answer.TheVariants as Says
use Rattle.gdb_answers.specs.declared.stops.Reason.{Reason}
use Rattle.gdb_answers.specs.declared.stops.Reason.TheVariants.{Breakpoint, Stepped}
use Rattle.gdb_answers.specs.declared.threads.ThreadName.TheVariants as Names
use Rattle.gdb_requests.specs.declared.request.Action.{Action}
use Rattle.gdb_requests.specs.declared.request.Id.{Id}
use Rattle.gdb_requests.specs.declared.request.Id.TheVariants.{Any, Number}
use Rattle.gdb_requests.specs.declared.request.Request.{Request}
use Rattle.gdb_requests.specs.declared.request.Request.TheVariants as Asks
use Rattle.gdb_talk.specs.declared.deed.Deed.{Deed}
use Rattle.gdb_talk.specs.declared.deed.Deed.TheVariants.{Answer, Walk, Insert, Remove, Command, Leave, End}
use Rattle.gdb_talk.specs.declared.deed.Goal.{Goal}
use Rattle.gdb_talk.specs.declared.deed.Goal.TheVariants.{Stop, Step, StepOf}
use Rattle.gdb_talk.specs.declared.talk.Talk.{Talk}
use Rattle.gdb_talk.specs.declared.who.Who.{Who}
use Rattle.gdb_talk.specs.declared.who.Who.TheVariants.{Anyone, One, Nobody}
use Rattle.gdb_talk.specs.Talks.{attached_by, detached, name_of, stopped_set, who_is, who_of}

-- that a breakpoint is there is told only to a gdb that wants to know it
abbrev pub told_reason : Talk → Reason → Reason
told_reason t Breakpoint = if t.breakpoints then Breakpoint else Stepped
told_reason t reason = reason

-- a stop, while code of a set is active
abbrev pub stop_answer : Isa → Talk → Reason → Said
stop_answer active t reason = Says.Stopped (name_of t (stopped_set t active)) (told_reason t reason)

-- the end of the program, with this code, of the process that a stop names
abbrev pub exit_answer : Isa → Talk → ℕ → Said
exit_answer active t code = Says.Exited (name_of t (stopped_set t active)) code

-- whoever is there is accepted
abbrev pub accepted : Who → Said
accepted Anyone = Says.Done
accepted (One set) = Says.Done
accepted Nobody = Says.Refused

-- a step of nobody's in particular is one of the machine, where gdb knows several processes
abbrev pub any_step : Talk → Goal
any_step t = if t.processes then Step else StepOf t.looked_at

-- a step of a process lasts until its set is active again
abbrev pub stepping : Talk → Bool → Who → Deed
stepping t is_back Anyone = Walk (record { is_back = is_back; goal = any_step t })
stepping t is_back (One set) = Walk (record { is_back = is_back; goal = StepOf set })
stepping t is_back Nobody = Answer Says.Refused

abbrev pub going : Bool → Deed
going is_back = Walk (record { is_back = is_back; goal = Stop })

abbrev pub chosen : Option Isa → Who
chosen None = Anyone
chosen (Some set) = One set

abbrev pub second_action : Talk → Option Action → Deed
second_action t None = going false
second_action t (Some a) = if a.is_step then stepping t false (who_of t a.thread) else going false

-- of two actions the step counts, the first one if both are steps
abbrev pub resumed : Talk → Action → Option Action → Deed
resumed t a more = if a.is_step then stepping t false (who_of t a.thread) else second_action t more

abbrev pub threads_by : Bool → Bool → Said
threads_by true true = Says.BothThreads
threads_by true false = Says.Thread (Names.Of M68)
threads_by false true = Says.Thread (Names.Of Ppc)
threads_by false false = Says.NoMoreThreads

abbrev pub threads : Talk → Said
threads t = if t.processes then threads_by t.has_68k t.has_ppc else Says.Thread Names.Only

abbrev pub attaching : Talk → Option Isa → Deed
attaching t None = Answer Says.Refused
attaching t (Some set) = Answer (Says.Stopped (name_of t set) (told_reason t t.reason))

-- the last process that goes takes the program with it
abbrev pub leaving : Talk → Deed
leaving t = if t.has_68k || t.has_ppc then Answer Says.Done else Leave

abbrev pub detaching : Talk → Who → Deed
detaching t Anyone = Leave
detaching t (One set) = leaving (detached t (One set))
detaching t Nobody = Answer Says.Refused

abbrev pub killing : Talk → Id → Deed
killing t Any = End
killing t (Number n) = detaching t (who_is t (Number n))

-- what is done at a request, while code of a set is active. Registers and memory are changed by none
abbrev pub deed_of : Isa → Talk → Request → Deed
deed_of active t (Asks.Supported features) = Answer (Says.Supported features.processes)
deed_of active t Asks.NoAcknowledgements = Answer Says.Done
deed_of active t Asks.Extended = Answer Says.Done
deed_of active t Asks.Reason = Answer (stop_answer active t t.reason)
deed_of active t (Asks.SelectForRegisters thread) = Answer (accepted (who_of t thread))
deed_of active t (Asks.SelectForRunning thread) = Answer (accepted (who_of t thread))
deed_of active t (Asks.Description offset count) = Answer (Says.Description t.looked_at offset count)
deed_of active t Asks.Registers = Answer (Says.Registers t.looked_at)
deed_of active t (Asks.Register number) = Answer (Says.Register t.looked_at number)
deed_of active t (Asks.Memory address count) = Answer (Says.Memory address count)
deed_of active t Asks.ResumeWords = Answer Says.ResumeWords
deed_of active t (Asks.Resume first second) = resumed t first second
deed_of active t Asks.Continue = going false
deed_of active t Asks.Step = stepping t false (chosen t.running)
deed_of active t Asks.BackContinue = going true
deed_of active t Asks.BackStep = stepping t true (chosen t.running)
deed_of active t (Asks.Insert point address count) = Insert point address count
deed_of active t (Asks.Remove point address count) = Remove point address count
deed_of active t Asks.FirstThreads = Answer (threads t)
deed_of active t Asks.MoreThreads = Answer Says.NoMoreThreads
deed_of active t Asks.CurrentThread = Answer (Says.Current (name_of t t.looked_at))
deed_of active t (Asks.IsAttached id) = Answer Says.IsAttached
deed_of active t (Asks.Attach id) = attaching t (attached_by t.processes id)
deed_of active t (Asks.IsAlive thread) = Answer (accepted (who_of t thread))
deed_of active t Asks.Monitor = Command
deed_of active t (Asks.Detach id) = detaching t (who_is t id)
deed_of active t (Asks.Kill id) = killing t id
deed_of active t Asks.Change = Answer Says.Refused
deed_of active t Asks.Unknown = Answer Says.Unknown
