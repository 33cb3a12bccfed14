-- What a fault says in words: its numbers, and what stands around them (this project's own).
use Rattle.std.specs.Prelude.{ℕ, ◌++◌, nat_lt, if◌then◌else◌, List, [], codes, unwrap_or}
use Rattle.mix_bits.specs.Text.{hexadecimal}
use Rattle.mix_bits.specs.declared.fault.Fault.{Fault}
use Rattle.mix_bits.specs.declared.fault.FaultKind.{FaultKind}
use Rattle.mix_bits.specs.declared.fault.FaultKind.TheVariants.{Illegal, Privileged, Odd, Outside, GateStore, FrameStore, GateFetch, Vector, BadInstr, Trap, NoTrap, BadDesc, Info, Mismatch, NoRecord, FramesFull, StackOutside, StackCrossed, StackFull, Unmatched}
use Rattle.trap_names.specs.Traps.{name_of}
use Rattle.fault_words.specs.Reasons.{descriptor_reason, info_reason, vector_reason}

-- what stands before the first number
abbrev pub front : FaultKind → List ℕ
front Illegal = codes "the word $"
front Privileged = codes "the word $"
front Odd = codes "the pc $"
front Outside = codes "what is asked for at $"
front GateStore = codes "the store to $"
front FrameStore = codes "the store to $"
front GateFetch = codes "at $"
front Vector = codes "it is the exception of vector $"
front BadInstr = codes "the word $"
front Trap = codes "the condition of the trap instruction $"
front NoTrap = codes "the library lacks the trap $"
front BadDesc = codes "the routine descriptor at $"
front Info = codes "the procInfo $"
front Mismatch = codes "the procInfo $"
front NoRecord = codes "no routine record can be chosen by the selector $"
front FramesFull = codes "so many callers are suspended already: $"
front StackOutside = codes "the stack pointer $"
front StackCrossed = codes "the stack pointer $"
front StackFull = codes "the stack pointer of the callee would be $"
front Unmatched = codes "the stack pointer is $"

-- what stands behind it
abbrev pub middle : FaultKind → List ℕ
middle Illegal = codes " is no instruction that this host has"
middle Privileged = codes " is an instruction of the supervisor"
middle Odd = codes " is odd, or in PowerPC code no multiple of 4"
middle Outside = codes " is outside RAM"
middle GateStore = codes " is into the gate page"
middle FrameStore = codes " is into the frame of a suspended caller"
middle GateFetch = codes " the gate page has neither a gate nor a function"
middle Vector = codes ", "
middle BadInstr = codes " is no instruction that this host has, or an invalid form of one"
middle Trap = codes " holds"
middle NoTrap = codes " "
middle BadDesc = codes " is refused: "
middle Info = codes " has no signature: "
middle Mismatch = codes " is not that of the routine record, $"
middle NoRecord = []
middle FramesFull = []
middle StackOutside = codes " is outside the stack, whose floor is $"
middle StackCrossed = codes " is above the innermost frame, which begins at $"
middle StackFull = codes ", below the floor of the stack, $"
middle Unmatched = codes ", and at this gate it has to be $"

-- what a trap word calls, where that is known
abbrev pub word_name : ℕ → List ℕ
word_name word = if nat_lt word 65536 then unwrap_or (name_of word) [] else []

-- what the second number says, or else the first one
abbrev pub second_by : FaultKind → ℕ → ℕ → List ℕ
second_by Vector detail also = vector_reason detail
second_by NoTrap detail also = word_name detail
second_by BadDesc detail also = descriptor_reason also
second_by Info detail also = info_reason also
second_by Mismatch detail also = hexadecimal 8 also
second_by StackOutside detail also = hexadecimal 8 also
second_by StackCrossed detail also = hexadecimal 8 also
second_by StackFull detail also = hexadecimal 8 also
second_by Unmatched detail also = hexadecimal 8 also
second_by kind detail also = []

abbrev pub second : Fault → List ℕ
second fault = second_by fault.kind fault.detail fault.also

abbrev pub meaning_of : Fault → List ℕ
meaning_of fault =
    front fault.kind ++ (hexadecimal 8 fault.detail ++ (middle fault.kind ++ (second fault ++ (codes "\n" ++ []))))
