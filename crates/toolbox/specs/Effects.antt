-- The host table: what a call of each function does (Inside Macintosh: PowerPC System Software, chapter 2, for
-- routine descriptors; the Macintosh toolbox for NewPtr, NewPtrClear, DisposePtr, BlockMove and ExitToShell; the rest
-- is this project's own).
use Rattle.std.specs.Prelude.{ℕ, ◌-◌, ◌%◌, ◌^◌, ◌==◌, Bool, true, false, not, if◌then◌else◌, List, [], ◌∷◌, ◌++◌, length, drop, slice_index_or, slice_set, Option, Some, None}
use Rattle.big_memory.specs.declared.refusals.Access.{Access}
use Rattle.big_memory.specs.declared.refusals.Access.TheVariants.{Outside}
use Rattle.big_memory.specs.Lists.{part}
use Rattle.big_memory.specs.Memory.{Memory, with_bytes, in_memory, filled, copied, copy_refusal}
use Rattle.routine_desc.specs.Build.{image}
use Rattle.host_heap.specs.Space.{Space}
use Rattle.host_heap.specs.Place.{place_for, taken, freed, begins_at}
use Rattle.dev_rack.specs.declared.answers.Answer.{Answer}
use Rattle.dev_rack.specs.declared.answers.Answer.TheVariants.{Word, Failed, Empty, Full}
use Rattle.dev_rack.specs.declared.answers.Asked.{Asked}
use Rattle.dev_rack.specs.Rack.{journal_limit}
use Rattle.toolbox.specs.declared.values.Operands.{Operands}
use Rattle.toolbox.specs.declared.values.Results.{Results}
use Rattle.toolbox.specs.declared.function.Function.{Function}
use Rattle.toolbox.specs.declared.function.Function.TheVariants.{NewRoutineDescriptor, NewFatRoutineDescriptor, DisposeRoutineDescriptor, CallUniversalProc, NewPtr, NewPtrClear, DisposePtr, BlockMove, ExitToShell, PutByte, GetByte, PutBlock, AskDevice, EjectDevice, ExitWith, UnloadSeg}

-- what the outside still holds for the machine: the bytes of the input that are left, which slots of the rack hold a
-- device, the journal of the asks, and the answers that the devices are going to give, where None is a failure
pub record Around : Type 0 where
  pub input : List ℕ
  pub slots : List Bool
  pub asks : List Asked
  pub answers : List (Option ℕ)

-- what a host call sees and changes, beside the registers
pub record Resources : Type 0 where
  pub memory : Memory
  pub heap : Space
  pub around : Around

-- an ask and what came of it
pub record Ask : Type 0 where
  pub slot : ℕ
  pub word : ℕ
  pub answer : Answer

-- what is seen of a call from outside: what it puts on the output, whether it reads the input, and its ask
pub record Effects : Type 0 where
  pub said : List ℕ
  pub reads : Bool
  pub asked : Option Ask

abbrev pub quiet : Effects
quiet = record { said = []; reads = false; asked = None }

-- what a call does: it gives results, crosses into other code, ends the program, or is refused an access
pub data Effect : Type 0 where
  Gives : Resources → Results → Effects → Effect
  Crosses : ℕ → ℕ → Effect
  Leaves : ℕ → Effect
  Refuses : Access → Effect

abbrev pub results : ℕ → ℕ → Results
results first second = record { first = first; second = second }

-- the error numbers of the toolbox are negative, in 32 bits
abbrev pub error : ℕ → ℕ
error n = 2 ^ 32 - n

abbrev pub no_slot : ℕ
no_slot = error 21

abbrev pub no_room : ℕ
no_room = error 108

-- a block of so many bytes is made, and memory becomes what it then is: the block's address and 0, or 0 and an error
abbrev pub made_at : Resources → ℕ → (ℕ → Memory) → Option ℕ → Effect
made_at r size memory None = Gives r (results 0 no_room) quiet
made_at r size memory (Some a) = Gives (record r { heap = taken r.heap size; memory = memory a }) (results a 0) quiet

abbrev pub makes : Resources → ℕ → (ℕ → Memory) → Effect
makes r size memory = made_at r size memory (place_for r.heap size)

-- a block is made for some bytes, which are written to it
abbrev pub makes_of : Resources → List ℕ → Effect
makes_of r bytes = makes r (length bytes) (λ a. with_bytes a bytes r.memory)

-- the block that begins at an address is given up; error 111 says that none begins there
abbrev pub disposes : Resources → ℕ → Effect
disposes r a =
    Gives (record r { heap = freed r.heap a }) (results (if begins_at r.heap.blocks a then 0 else error 111) 0) quiet

-- bytes are moved as if through another place
abbrev pub moved_unless : Resources → Memory → Option Access → Effect
moved_unless r moved None = Gives (record r { memory = moved }) (results 0 0) quiet
moved_unless r moved (Some e) = Refuses e

abbrev pub moves : Resources → ℕ → ℕ → ℕ → Effect
moves r from to n = moved_unless r (copied r.memory from to n) (copy_refusal r.memory from to n)

-- bytes are put on the output
abbrev pub says : Resources → List ℕ → Effect
says r bytes = Gives r (results 0 0) (record quiet { said = bytes })

-- the first byte of the input is taken, or -1 is given at its end
abbrev pub takes_from : Resources → List ℕ → Effect
takes_from r [] = Gives r (results (error 1) 0) (record quiet { reads = true })
takes_from r (byte ∷ left) =
    Gives (record r { around = record (r.around) { input = left } }) (results byte 0) (record quiet { reads = true })

-- what comes of an ask: the slot is looked at first, then the journal's room
abbrev pub first_answer : List (Option ℕ) → Answer
first_answer (Some word ∷ answers) = Word word
first_answer _ = Failed

abbrev pub holds_device : Around → ℕ → Bool
holds_device around slot = slice_index_or around.slots slot false

abbrev pub answer_in : Around → ℕ → Answer
answer_in around slot =
    if not (holds_device around slot) then Empty else (if length around.asks == journal_limit then Full else first_answer around.answers)

-- a device that was asked used up an answer, and the journal has an entry of it
abbrev pub noted : Around → ℕ → ℕ → Option ℕ → Around
noted around slot word answer =
    record around { asks = around.asks ++ (record { slot = slot; word = word; answer = answer }) ∷ []; answers = drop 1 around.answers }

abbrev pub after_ask : Around → ℕ → ℕ → Answer → Around
after_ask around slot word (Word answer) = noted around slot word (Some answer)
after_ask around slot word Failed = noted around slot word None
after_ask around slot word _ = around

-- the error and the answer of an ask
abbrev pub results_of : Answer → Results
results_of (Word answer) = results 0 answer
results_of Failed = results (error 36) 0
results_of Empty = results no_slot 0
results_of Full = results no_room 0

abbrev pub asks_for : Resources → ℕ → ℕ → Answer → Effect
asks_for r slot word answer =
    Gives (record r { around = after_ask r.around slot word answer }) (results_of answer)
    (record quiet { asked = Some (record { slot = slot; word = word; answer = answer }) })

-- a slot is emptied; one that holds no device, or is none, stays as it is
abbrev pub ejects : Resources → ℕ → Effect
ejects r slot =
    Gives (record r { around = record (r.around) { slots = slice_set r.around.slots slot false } })
    (results (if holds_device r.around slot then 0 else no_slot) 0) quiet

-- the table
abbrev pub effect : Function → Operands → Resources → Effect
effect NewRoutineDescriptor o r = makes_of r (image o.second None (o.third % 256) o.first)
effect NewFatRoutineDescriptor o r = makes_of r (image o.third (Some o.first) 1 o.second)
effect DisposeRoutineDescriptor o r = disposes r o.first
effect CallUniversalProc o r = Crosses o.first o.second
effect NewPtr o r = makes r o.first (λ a. r.memory)
effect NewPtrClear o r = makes r o.first (λ a. filled r.memory a o.first)
effect DisposePtr o r = disposes r o.first
effect BlockMove o r = moves r o.first o.second o.third
effect ExitToShell o r = Leaves 0
effect PutByte o r = says r (o.first % 256 ∷ [])
effect GetByte o r = takes_from r r.around.input
effect PutBlock o r =
    if in_memory r.memory o.first o.second then says r (part o.first o.second r.memory.bytes)
    else Refuses (Outside o.first)
effect AskDevice o r = asks_for r o.first o.second (answer_in r.around o.first)
effect EjectDevice o r = ejects r o.first
effect ExitWith o r = Leaves o.first
effect UnloadSeg o r = Gives r (results 0 0) quiet
