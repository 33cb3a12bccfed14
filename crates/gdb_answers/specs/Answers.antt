-- The text of an answer, from what gdb sees of a machine.
-- Source: GDB manual, appendix 'GDB Remote Serial Protocol', sections 'Packets', 'General Query Packets' and 'Stop Reply Packets'.
use Rattle.std.specs.Prelude.{ℕ, ◌+◌, ◌==◌, nat_lt, Bool, true, false, List, [], ◌++◌, codes, length, min, if◌then◌else◌}
use Rattle.std.specs.List.{flat_map}
use Rattle.big_memory.specs.Lists.{part}
use Rattle.big_memory.specs.Memory.{Memory as Ram}
use Rattle.switch_frame.specs.declared.active.Active.{Active}
use Rattle.switch_frame.specs.Chain.{cleared, records, view}
use Rattle.switch_frame.specs.Records.{Record}
use Rattle.gdb_packets.specs.Hex.{pair_of}
use Rattle.gdb_answers.specs.declared.answer.Answer.{Answer}
use Rattle.gdb_answers.specs.declared.answer.Answer.TheVariants.{Unknown, Done, Refused, Supported, ResumeWords, Registers, Register, Memory, Description, Thread, BothThreads, NoMoreThreads, Current, IsAttached, Stopped, Exited}
use Rattle.gdb_answers.specs.Descriptions.{description_of}
use Rattle.gdb_answers.specs.Registers.{register_text, registers_text, shown}
use Rattle.gdb_answers.specs.Stops.{error_text, exit_text, stop_text, thread_text}

-- what gdb sees of a machine: the registers of the running code, its suspended callers, innermost first, and memory as loads see it
pub record Scene : Type 0 where
  pub active : Active
  pub callers : List Record
  pub memory : List ℕ

-- memory as loads see it, of a machine whose innermost frame begins at `top`
abbrev pub memory_seen : Ram → ℕ → List ℕ
memory_seen m top = view (cleared m.bytes (records m.bytes top)) (records m.bytes top)

-- what gdb sees of such a machine
abbrev pub scene_of : Active → Ram → ℕ → Scene
scene_of active m top =
    record {
      active = active;
      callers = records m.bytes top;
      memory = memory_seen m top;
    }

-- at most so many bytes are told by one answer
abbrev pub most_told : ℕ
most_told = 0x2000

-- bytes in hexadecimal; none is an error
abbrev pub bytes_text : List ℕ → List ℕ
bytes_text bytes = if length bytes == 0 then error_text else flat_map pair_of bytes

-- the bytes from an address on, fewer where memory ends
abbrev pub memory_text : List ℕ → ℕ → ℕ → List ℕ
memory_text memory address count = bytes_text (part address (min count most_told) memory)

abbrev pub window_letter : Bool → List ℕ
window_letter true = codes "m"
window_letter false = codes "l"

-- a part of a text, behind `m` if more follows, and behind `l` if not
abbrev pub window_text : List ℕ → ℕ → ℕ → List ℕ
window_text text offset count =
    if nat_lt (length text) offset then error_text
    else window_letter (nat_lt (offset + count) (length text)) ++ part offset count text

abbrev pub features : List ℕ
features = codes "PacketSize=4000;QStartNoAckMode+;qXfer:features:read+;ReverseStep+;ReverseContinue+;swbreak+;hwbreak+;vContSupported+"

abbrev pub features_of : Bool → List ℕ
features_of true = features ++ codes ";multiprocess+"
features_of false = features

-- the data of the packet that an answer is
abbrev pub answer_text : Scene → Answer → List ℕ
answer_text scene Unknown = []
answer_text scene Done = codes "OK"
answer_text scene Refused = error_text
answer_text scene (Supported processes) = features_of processes
answer_text scene ResumeWords = codes "vCont;c;C;s;S"
answer_text scene (Registers set) = registers_text (shown set scene.active scene.callers)
answer_text scene (Register set number) = register_text number (shown set scene.active scene.callers)
answer_text scene (Memory address count) = memory_text scene.memory address count
answer_text scene (Description set offset count) = window_text (description_of set) offset count
answer_text scene (Thread name) = codes "m" ++ thread_text name
answer_text scene BothThreads = codes "mp1.1,p2.2"
answer_text scene NoMoreThreads = codes "l"
answer_text scene (Current name) = codes "QC" ++ thread_text name
answer_text scene IsAttached = codes "1"
answer_text scene (Stopped name reason) = stop_text name reason
answer_text scene (Exited name code) = exit_text name code

-- the data of a packet with text for gdb's console
abbrev pub console_text : List ℕ → List ℕ
console_text bytes = codes "O" ++ flat_map pair_of bytes
