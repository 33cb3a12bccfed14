-- What a host call takes from outside and leaves there: each way in which it goes on or ends.
use Rattle.std.specs.Prelude.{◌≡◌, ℕ, ◌<◌, ◌≤◌, List, [], ◌++◌, length, true, Option, None, Some}
use Rattle.std.specs.Io.KnownBytes.{Keeps}
use Rattle.mix_io.specs.Counts.{Rose}
use Rattle.mix_io.specs.Streams.{Output, Grows, Breaks}
use Rattle.big_memory.specs.Memory.{Memory, floor_of}
use Rattle.big_memory.specs.StoresClauses.{OnlyFree}
use Rattle.switch_frame.specs.declared.active.Active.{Active}
use Rattle.host_heap.specs.Space.{Space}
use Rattle.dev_rack.specs.declared.answers.Answer.{Answer}
use Rattle.dev_rack.specs.Rack.{State}
use Rattle.dev_rack.specs.Accounts.{Accounts}
use Rattle.toolbox.specs.declared.out.HostOut.{HostOut}
use Rattle.toolbox.specs.declared.out.HostOut.TheVariants.{Done, Asked, Cross, Exit, Stop, ReadFault, OutFault}
use Rattle.toolbox.specs.declared.broken.Broken.{Broken}
use Rattle.toolbox.specs.declared.broken.Broken.TheVariants.{Input as BrokenInput, Output as BrokenOutput}
use Rattle.toolbox.specs.Blames.{BlamesOnly, Counts, counts}
use Rattle.toolbox.specs.Effects.{Around, Resources, Ask, Effects}
use Rattle.toolbox.specs.Host.{Hosted, host}
use Rattle.toolbox.specs.Host.Hosted.{Goes, Crosses, Leaves, Stops}
use Rattle.toolbox.specs.Calls.{Outside, answers_since, around_at, Taken, Took, IsLeft}

abbrev pub outside : Option (List ℕ) → ℕ → State → Option (List ℕ) → ℕ → Outside
outside left read_faults rack held put_faults =
    record { input = record { left = left; faults = read_faults }; rack = rack; out = record { held = held; faults = put_faults } }

-- what a call finds and leaves beside the registers
pub record Place : Type 0 where
  pub memory : Memory
  pub heap : Space
  pub outside : Outside

abbrev pub place : Memory → Space → Outside → Place
place memory heap outside = record { memory = memory; heap = heap; outside = outside }

-- the heap lies behind the program's first address and below the stack
pub record HeapLies (heap : Space) (memory : Memory) : Type 0 where
  pub above : 0x10000 ≤ heap.low
  pub below : heap.high ≤ floor_of memory

-- a heap stays where it is
pub record KeepsBounds (old new : Space) : Type 0 where
  pub low : new.low ≡ old.low
  pub high : new.high ≡ old.high

-- the resources of the table then
abbrev pub resources_at : Place → List ℕ → List (Option ℕ) → Resources
resources_at p input answers =
    record {
      memory = p.memory;
      heap = p.heap;
      around = around_at p.outside input answers;
    }

-- what was taken fits what the input tells before and after: whatever is left after, as far as it tells, some bytes
-- fit that were left before, as it told them
abbrev pub Told : Taken → Option (List ℕ) → Option (List ℕ) → Type 0
Told taken old new = (after : List ℕ) → IsLeft new after → (before : List ℕ) × IsLeft old before × Took taken before after

-- A call goes on: for every input that fits what was taken (at least one does), and whatever the devices answer later,
-- the table takes the old resources to the new ones; the output took what is said, no count of input or output rose,
-- and the devices were asked what the journal says.
pub record GoesOn {X : Type 0} (x : Resources → X) (gives : Resources → Effects → X) (asked : Option Ask) (old new : Place) : Type 0 where
  pub effects : Effects
  pub taken : Taken
  pub does : (before after : List ℕ) (rest : List (Option ℕ)) → Took taken before after →
      x (resources_at old before (answers_since old.outside.rack new.outside.rack ++ rest)) ≡ gives (resources_at new after rest) effects
  pub ask : effects.asked ≡ asked
  pub told : Told taken old.outside.input.left new.outside.input.left
  pub calm : new.outside.input.faults ≡ old.outside.input.faults
  pub put : Grows old.outside.out new.outside.out effects.said
  pub devices : Accounts old.outside.rack new.outside.rack
  pub bounds : KeepsBounds old.heap new.heap
  pub free : OnlyFree old.memory new.memory

-- the resources of the table, whatever is around
abbrev pub with_around : Place → Around → Resources
with_around p around = record { memory = p.memory; heap = p.heap; around = around }

-- a call ends with nothing changed
pub record Stays {X : Type 0} (x : Resources → X) (is : X) (old new : Place) : Type 0 where
  pub does : (around : Around) → x (with_around old around) ≡ is
  pub same : new ≡ old

-- the input failed: the call reads it, and nothing was taken or changed
pub record ReadBreaks {X : Type 0} (x : Resources → X) (Reads : X → Type 0) (old new : Place) : Type 0 where
  pub does : (around : Around) → Reads (x (with_around old around))
  pub kept : Keeps old.outside.input.left new.outside.input.left
  pub rose : Rose old.outside.input.faults new.outside.input.faults
  pub same : new ≡ record old { outside = record (old.outside) { input = new.outside.input } }

-- the output failed: the call says a piece, of which a part was put, and nothing else changed
pub record PutBreaks {X : Type 0} (x : Resources → X) (Says : List ℕ → X → Type 0) (old new : Place) : Type 0 where
  pub piece : List ℕ
  pub some : 0 < length piece
  pub does : (around : Around) → Says piece (x (with_around old around))
  pub broke : Breaks old.outside.out new.outside.out [] piece
  pub same : new ≡ record old { outside = record (old.outside) { out = new.outside.out } }

-- a step that reads the input, and one that says a piece
abbrev pub Reads : Hosted → Type 0
Reads (Goes h effects) = effects.reads ≡ true
Reads (Crosses pointer info) = ⊥
Reads (Leaves code) = ⊥
Reads (Stops fault) = ⊥

abbrev pub Says : List ℕ → Hosted → Type 0
Says piece (Goes h effects) = effects.said ≡ piece
Says piece (Crosses pointer info) = ⊥
Says piece (Leaves code) = ⊥
Says piece (Stops fault) = ⊥

abbrev pub host_at : ℕ → Active → Resources → Hosted
host_at index active r = host index (record { active = active; resources = r })

abbrev pub goes_at : Active → Resources → Effects → Hosted
goes_at active r effects = Goes (record { active = active; resources = r }) effects

abbrev pub ask_of : ℕ → ℕ → Answer → Ask
ask_of slot word answer = record { slot = slot; word = word; answer = answer }

-- the answers of a host call
abbrev pub Hosts : ℕ → HostOut → Active → Active → Place → Place → Type 0
Hosts index Done regs next old new = GoesOn (host_at index regs) (goes_at next) None old new
Hosts index (Asked slot word answer) regs next old new =
    GoesOn (host_at index regs) (goes_at next) (Some (ask_of slot word answer)) old new
Hosts index (Cross pointer info) regs next old new = Stays (host_at index regs) (Crosses pointer info) old new × (next ≡ regs)
Hosts index (Exit code) regs next old new = Stays (host_at index regs) (Leaves code) old new × (next ≡ regs)
Hosts index (Stop fault) regs next old new = Stays (host_at index regs) (Stops fault) old new × (next ≡ regs)
Hosts index ReadFault regs next old new = ReadBreaks (host_at index regs) Reads old new × (next ≡ regs)
Hosts index OutFault regs next old new = PutBreaks (host_at index regs) Says old new × (next ≡ regs)

-- what failed in a call
abbrev pub broken_in : HostOut → Option Broken
broken_in Done = None
broken_in (Asked slot word answer) = None
broken_in (Cross pointer info) = None
broken_in (Exit code) = None
broken_in (Stop fault) = None
broken_in ReadFault = Some BrokenInput
broken_in OutFault = Some BrokenOutput

-- the counts of faults of the outside, and of a trace beside it
abbrev pub counts_beside : Outside → Output → Counts
counts_beside o trace = counts o.input.faults o.out.faults trace.faults

-- whose count of faults rose; a call leaves the trace
abbrev pub Blames : HostOut → Outside → Outside → Type 0
Blames out old new = (trace : Output) → BlamesOnly (broken_in out) (counts_beside old trace) (counts_beside new trace)
