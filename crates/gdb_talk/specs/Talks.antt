-- What a server and gdb have agreed on: which processes gdb knows and is attached to, and which one the next requests mean.
-- Source: GDB manual, appendix 'GDB Remote Serial Protocol', sections 'Packets' and 'General Query Packets'.
use Rattle.std.specs.Prelude.{ℕ, ◌==◌, Bool, true, false, Option, Some, None, if◌then◌else◌}
use Rattle.mix_bits.specs.declared.isa.Isa.{Isa}
use Rattle.mix_bits.specs.declared.isa.Isa.TheVariants.{M68, Ppc}
use Rattle.mix_bits.specs.Isas.{is_isa}
use Rattle.gdb_answers.specs.declared.threads.ThreadName.{ThreadName}
use Rattle.gdb_answers.specs.declared.threads.ThreadName.TheVariants.{Only, Of}
use Rattle.gdb_answers.specs.declared.stops.Reason.{Reason}
use Rattle.gdb_answers.specs.declared.stops.Reason.TheVariants.{Stepped}
use Rattle.gdb_requests.specs.declared.request.Id.{Id}
use Rattle.gdb_requests.specs.declared.request.Id.TheVariants.{Any, Number}
use Rattle.gdb_requests.specs.declared.request.Thread.{Thread}
use Rattle.gdb_requests.specs.declared.request.Request.{Request}
use Rattle.gdb_requests.specs.declared.request.Request.TheVariants as Asks
use Rattle.gdb_talk.specs.declared.talk.Talk.{Talk}
use Rattle.gdb_talk.specs.declared.who.Who.{Who}
use Rattle.gdb_talk.specs.declared.who.Who.TheVariants.{Anyone, One, Nobody}

abbrev pub other_set : Isa → Isa
other_set M68 = Ppc
other_set Ppc = M68

-- whether gdb is attached to the process of a set
abbrev pub is_attached : Talk → Isa → Bool
is_attached t M68 = t.has_68k
is_attached t Ppc = t.has_ppc

-- the process that a stop names: that of the active set, or the other one where gdb is not attached to it
abbrev pub stopped_set : Talk → Isa → Isa
stopped_set t active = if is_attached t active then active else other_set active

abbrev pub name_of : Talk → Isa → ThreadName
name_of t set = if t.processes then Of set else Only

-- the set whose process has a number
abbrev pub set_numbered : ℕ → Option Isa
set_numbered n = if n == 1 then Some M68 else (if n == 2 then Some Ppc else None)

abbrev pub attached_one : Talk → Option Isa → Who
attached_one t None = Nobody
attached_one t (Some set) = if is_attached t set then One set else Nobody

-- who has a number. A gdb that knows no processes sees one thread, 1
abbrev pub numbered : Talk → ℕ → Who
numbered t n = if t.processes then attached_one t (set_numbered n) else (if n == 1 then One t.looked_at else Nobody)

abbrev pub who_is : Talk → Id → Who
who_is t Any = Anyone
who_is t (Number n) = numbered t n

-- a thread is named by its process, where one is told
abbrev pub id_of : Id → Id → Id
id_of Any thread = thread
id_of (Number n) thread = Number n

abbrev pub who_of : Talk → Thread → Who
who_of t thread = who_is t (id_of thread.process thread.thread)

-- the set whose process gdb wants to attach to, which it can if it knows processes
abbrev pub attached_by : Bool → Id → Option Isa
attached_by processes Any = None
attached_by processes (Number n) = if processes then set_numbered n else None

-- gdb attached to a process looks at it
abbrev pub attached : Talk → Option Isa → Talk
attached t None = t
attached t (Some M68) = record t { has_68k = true; looked_at = M68 }
attached t (Some Ppc) = record t { has_ppc = true; looked_at = Ppc }

abbrev pub detached : Talk → Who → Talk
detached t Anyone = record t { has_68k = false; has_ppc = false }
detached t (One M68) = record t { has_68k = false; looked_at = Ppc; running = None }
detached t (One Ppc) = record t { has_ppc = false; looked_at = M68; running = None }
detached t Nobody = t

abbrev pub looking : Talk → Who → Talk
looking t Anyone = t
looking t (One set) = record t { looked_at = set }
looking t Nobody = t

abbrev pub running : Talk → Who → Talk
running t Anyone = record t { running = None }
running t (One set) = record t { running = Some set }
running t Nobody = t

-- what a request leaves agreed, while code of a set is active
abbrev pub after : Isa → Talk → Request → Talk
after active t (Asks.Supported features) = record t { processes = features.processes; breakpoints = features.breakpoints }
after active t Asks.NoAcknowledgements = record t { acknowledges = false }
after active t Asks.Reason = record t { looked_at = stopped_set t active }
after active t (Asks.SelectForRegisters thread) = looking t (who_of t thread)
after active t (Asks.SelectForRunning thread) = running t (who_of t thread)
after active t (Asks.Attach id) = attached t (attached_by t.processes id)
after active t (Asks.Detach id) = detached t (who_is t id)
after active t (Asks.Kill id) = detached t (who_is t id)
after active t _ = t

-- what a stop leaves
abbrev pub stopped : Isa → Reason → Talk → Talk
stopped active reason t = record t { looked_at = stopped_set t active; reason = reason }

-- where the machine went elsewhere by a command, the reason of the last stop holds no more
abbrev pub elsewhere : Talk → Talk
elsewhere t = record t { reason = Stepped }

-- what the end of the program leaves, once gdb was told: the process that a stop names is gone
abbrev pub exited : Isa → Talk → Talk
exited active t = detached t (One (stopped_set t active))

-- at the beginning gdb is attached to the process of the active set
abbrev pub first_talk : Isa → Talk
first_talk active =
    record {
      processes = false;
      breakpoints = false;
      has_68k = is_isa active M68;
      has_ppc = is_isa active Ppc;
      looked_at = active;
      running = None;
      acknowledges = true;
      reason = Stepped;
    }
