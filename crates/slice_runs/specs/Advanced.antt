-- A machine that is run on from its image for so many steps, with the number of those that are left.
use Rattle.std.specs.Prelude.{◌≡◌, ◌⊎◌, ℕ, ◌≤◌, ◌==◌, List, [], length, take, Err, Some, if◌then◌else◌}
use Rattle.mix_io.specs.Streams.{Output}
use Rattle.mix_io.specs.StreamsClauses.{output}
use Rattle.dev_rack.specs.Accounts.{Accounts}
use Rattle.toolbox.specs.Blames.{counts}
use Rattle.toolbox.specs.Calls.{Outside}
use Rattle.mixed_machine.specs.CountsClauses.{Blames}
use Rattle.mixed_machine.specs.OutsideClauses.{at}
use Rattle.mixed_machine.specs.declared.stop.Stop.{Stop}
use Rattle.mixed_machine.specs.declared.stop.Stop.TheVariants.{Exit, Fault, Limit, ReadFault, OutFault, TraceFault}
use Rattle.mix_engine.specs.Counted.{RunsTo}
use Rattle.mix_engine.specs.declared.machine.Machine.{Machine}
use Rattle.mix_image.specs.Restoring.{IsRestored}
use Rattle.mix_image.specs.Spelling.{HasSpelling, spell}
use Rattle.mix_image.specs.declared.error.ImageError.{ImageError}
use Rattle.slice_parts.specs.Buffers.{Buffer, Holds, IsFull, IsLeft, Shows, told_of}
use Rattle.mix_top.specs.WorldClauses.{two_devices}
use Rattle.slice_runs.specs.Looks.{refused_status}

-- the outside of a run as it begins: the input is told, nothing was put, no device was asked, and no count has risen
pub record IsFresh (input : List ℕ) (out : Buffer) (outside : Outside) : Type 0 where
  pub left : outside.input.left ≡ Some input
  pub faults : outside.input.faults ≡ 0
  pub rack : outside.rack ≡ two_devices
  pub put : outside.out ≡ output (told_of (length out.old) []) 0

-- the status of a run that stopped
abbrev pub stop_status : Stop → ℕ
stop_status (Exit code) = if code == 0 then 0 else 1
stop_status (Fault fault) = 10
stop_status Limit = 11
stop_status ReadFault = 5
stop_status OutFault = 6
stop_status TraceFault = 7

-- the buffer is full of a beginning of some bytes
pub record HoldsBeginning (bytes : List ℕ) (b : Buffer) : Type 0 where
  pub count : ℕ
  pub within : count ≤ length bytes
  pub front : Holds (take count bytes) b
  pub full : IsFull b

-- the spelling of a machine stands in a buffer, and the status is this one; or the buffer is full of a beginning, and the
-- status is 8
abbrev pub Kept : Machine → Buffer → ℕ → ℕ → Type 0
Kept machine kept status result = (Holds (spell machine) kept × (result ≡ status)) ⊎ (HoldsBeginning (spell machine) kept × (result ≡ 8))

-- a machine ran on, what it put and traced stands in the buffers, without an end line, and the machine that it became was
-- kept; the input, the output or the trace failed only where it stopped for that
pub record Ran (machine : Machine) (input : List ℕ) (steps left : ℕ) (out trace kept : Buffer) (result : ℕ) : Type 0 where
  pub next : Machine
  pub stop : Stop
  pub before : Outside
  pub after : Outside
  pub first : Output
  pub last : Output
  pub begins : IsFresh input out before
  pub blank : first ≡ output (told_of (length trace.old) []) 0
  pub run : RunsTo steps left (at machine.body machine.active before first) (at next.body next.active after last) stop
  pub blames : Blames stop (counts before.input.faults before.out.faults first.faults) (counts after.input.faults after.out.faults last.faults)
  pub devices : Accounts before.rack after.rack
  pub put : Shows after.out out
  pub traced : Shows last trace
  pub has_spelling : HasSpelling next
  pub saved : Kept next kept (stop_status stop) result

-- the ways to end
pub data Advanced (image input : List ℕ) (steps left : ℕ) (out trace kept : Buffer) (result : ℕ) : Type 0 where
  -- there was no memory for the input or as many bytes as the buffers have; nothing was done
  no_memory : result ≡ 9 → left ≡ steps → IsLeft out → IsLeft trace → IsLeft kept → Advanced image input steps left out trace kept result
  -- the bytes are no image, by the first test that they fail, or there was no memory for the machine; nothing was done
  refused : (error : ImageError) → IsRestored image (Err error) → result ≡ refused_status error
      → left ≡ steps → IsLeft out → IsLeft trace → IsLeft kept
      → Advanced image input steps left out trace kept result
  -- the machine whose image it is ran on
  advanced : (machine : Machine) → HasSpelling machine → spell machine ≡ image → Ran machine input steps left out trace kept result
      → Advanced image input steps left out trace kept result
