-- The event that a text is read as: the text of a line, without the line feed that ends it.
use Rattle.std.specs.Prelude.{ℕ, ◌≡◌, ◌+◌, ◌-◌, ◌==◌, List, [], ◌∷◌, ◌++◌, length, take, drop, replicate, codes, if◌then◌else◌, Option, Some, None, Result, Ok, Err}
use Rattle.std.specs.Option.{option_and_then, option_map}
use Rattle.std.specs.Str.{bytes_eq}
use Rattle.mix_bits.specs.declared.isa.Isa.{Isa}
use Rattle.mix_bits.specs.declared.fault.FaultKind.{FaultKind}
use Rattle.mix_bits.specs.declared.fault.FaultKind.TheVariants.{Illegal, Privileged, Odd, Outside, GateStore, FrameStore, GateFetch, Vector, BadInstr, Trap, NoTrap, BadDesc, Info, Mismatch, NoRecord, FramesFull, StackOutside, StackCrossed, StackFull, Unmatched}
use Rattle.mix_bits.specs.declared.size.Size.{Size}
use Rattle.mix_bits.specs.declared.size.Size.TheVariants.{Zero, One, Two, Four}
use Rattle.mix_bits.specs.Numbers.{decimal_number, hexadecimal_number}
use Rattle.proc_info.specs.declared.bad_info.BadInfo.{BadInfo}
use Rattle.proc_info.specs.declared.param.Param.{Param}
use Rattle.proc_info.specs.Signature.{Signature, signature_of}
use Rattle.switch_frame.specs.Sets.{kind_of}
use Rattle.dev_rack.specs.declared.answers.Answer.{Answer}
use Rattle.dev_rack.specs.declared.answers.Answer.TheVariants.{Word, Failed, Empty, Full}
use Rattle.call_trace.specs.declared.end.End.{End}
use Rattle.call_trace.specs.declared.end.End.TheVariants.{Exit, Fault, Limit}
use Rattle.call_trace.specs.Names.{fault_name}
use Rattle.trace_lines.specs.declared.calls.Head.{Head}
use Rattle.trace_lines.specs.declared.event.Crossing.{Crossing}
use Rattle.trace_lines.specs.declared.event.Event.{Event}
use Rattle.trace_lines.specs.declared.event.Event.TheVariants.{Called, Returned, Asked, Ended}
use Rattle.trace_lines.specs.inner.Pieces.{after_mark, first_space, hex_front, marked_value, marked_width, set_front}

-- the front of a call's line: the two sets, the target and the procInfo
unfoldable pub head_of : List ℕ → Option Head
head_of text =
    option_and_then (λ caller.
    option_and_then (λ callee.
    option_and_then (λ target.
    option_map (λ info. record { kind = kind_of caller callee; target = target; info = info })
    (marked_value (codes " ") Four (drop 16 text)))
    (hex_front 8 (drop 8 text)))
    (set_front (drop 4 text)))
    (set_front text)

-- the arguments of parameters, whose text is all that is left of the line
abbrev pub args_in : List Param → List ℕ → Option (List ℕ)
args_in [] text = if length text == 0 then Some [] else None
args_in (p ∷ ps) text =
    option_and_then (λ v. option_map (λ vs. v ∷ vs) (args_in ps (drop (marked_width (codes " ") p.size) text)))
    (marked_value (codes " ") p.size text)

abbrev pub crossing_of : Head → ℕ → List ℕ → Crossing
crossing_of head selector args =
    record {
      kind = head.kind;
      target = head.target;
      info = head.info;
      selector = selector;
      count = length args;
      args = args ++ replicate (13 - length args) 0;
    }

-- a call by its front, and the selector and arguments behind that
unfoldable pub values_of : Head → Signature → List ℕ → Option Crossing
values_of head s text =
    option_and_then (λ selector.
    option_map (crossing_of head selector)
    (args_in s.params (drop (marked_width (codes " #") s.selector) text)))
    (marked_value (codes " #") s.selector text)

abbrev pub rest_by : Head → Result Signature BadInfo → List ℕ → Option Crossing
rest_by head (Ok s) text = values_of head s text
rest_by head (Err bad) text = None

unfoldable pub call_of : List ℕ → Option Crossing
call_of text = option_and_then (λ head. rest_by head (signature_of head.info) (drop 25 text)) (head_of text)

-- values behind others, where there are some
abbrev pub behind : List ℕ → Option (List ℕ) → Option (List ℕ)
behind xs None = None
behind xs (Some ys) = Some (xs ++ ys)

-- values are appended where there are some; else the call answers that there are none
abbrev pub Appends : {T : Type 0} → Option T → List ℕ → List ℕ → Option (List ℕ) → Type 0
Appends (Some done) old new values = behind old values ≡ Some new
Appends None old new values = values ≡ None

-- the size of a result whose text has so many bytes
abbrev pub size_by : ℕ → Option Size
size_by bytes =
    if bytes == 0 then Some Zero
    else (if bytes == 3 then Some One else (if bytes == 5 then Some Two else (if bytes == 9 then Some Four else None)))

abbrev pub return_of : List ℕ → Option Event
return_of text =
    option_and_then (λ size. option_map (λ value. Returned size value) (marked_value (codes " ") size text)) (size_by (length text))

-- what came of an ask
abbrev pub answer_in : List ℕ → Option Answer
answer_in text =
    if bytes_eq text (codes "fail") then Some Failed
    else (if bytes_eq text (codes "empty") then Some Empty
    else (if bytes_eq text (codes "full") then Some Full else option_map Word (hexadecimal_number 8 text)))

unfoldable pub ask_of : List ℕ → Option Event
ask_of text =
    option_and_then (λ k.
    option_and_then (λ slot.
    option_and_then (λ word.
    option_and_then (λ behind.
    option_map (λ answer. Asked slot word answer)
    (answer_in behind))
    (after_mark (codes " ") (drop 8 (drop (k + 1) text))))
    (hex_front 8 (drop (k + 1) text)))
    (decimal_number (take k text)))
    (first_space text)

-- the first of these kinds with a name
abbrev pub kind_in : List FaultKind → List ℕ → Option FaultKind
kind_in [] name = None
kind_in (kind ∷ kinds) name = if bytes_eq name (fault_name kind) then Some kind else kind_in kinds name

-- all kinds of faults
abbrev pub all_kinds : List FaultKind
all_kinds = Illegal ∷ (Privileged ∷ (Odd ∷ (Outside ∷ (GateStore ∷ (FrameStore ∷ (GateFetch ∷ (Vector ∷ (BadInstr ∷ (Trap ∷ (NoTrap ∷ (BadDesc ∷ (Info ∷ (Mismatch ∷ (NoRecord ∷ (FramesFull ∷ (StackOutside ∷ (StackCrossed ∷ (StackFull ∷ (Unmatched ∷ [])))))))))))))))))))

-- a fault of a kind in a set, at a place, by its two numbers
abbrev pub details_of : FaultKind → Isa → ℕ → List ℕ → Option End
details_of kind set pc text =
    option_and_then (λ detail.
    option_map (λ also. Fault set (record { kind = kind; pc = pc; detail = detail; also = also }))
    (marked_value (codes " ") Four (drop 9 text)))
    (marked_value (codes " ") Four text)

-- and by its set and its place, all of it in 30 bytes
unfoldable pub place_of : FaultKind → List ℕ → Option End
place_of kind text =
    if length text == 30 then
    (option_and_then (λ set. option_and_then (λ pc. details_of kind set pc (drop 12 text)) (hex_front 8 (drop 4 text)))
    (set_front text))
    else None

unfoldable pub fault_of : List ℕ → Option End
fault_of text =
    option_and_then (λ k. option_and_then (λ kind. place_of kind (drop (k + 1) text)) (kind_in all_kinds (take k text))) (first_space text)

-- what stands behind `exit `, or a fault
abbrev pub exit_or_fault : Option (List ℕ) → List ℕ → Option End
exit_or_fault (Some code) text = option_map Exit (decimal_number code)
exit_or_fault None text = option_and_then fault_of (after_mark (codes "fault ") text)

unfoldable pub end_of : List ℕ → Option End
end_of text = if bytes_eq text (codes "limit") then Some Limit else exit_or_fault (after_mark (codes "exit ") text) text

-- the first of three marks decides
abbrev pub ask_or_end : Option (List ℕ) → List ℕ → Option Event
ask_or_end (Some ask) text = ask_of ask
ask_or_end None text = option_map Ended (end_of text)

abbrev pub return_or_other : Option (List ℕ) → List ℕ → Option Event
return_or_other (Some result) text = return_of result
return_or_other None text = ask_or_end (after_mark (codes "ask ") text) text

abbrev pub by_mark : Option (List ℕ) → List ℕ → Option Event
by_mark (Some call) text = option_map Called (call_of call)
by_mark None text = return_or_other (after_mark (codes "ret") text) text

-- the event of a text
unfoldable pub event_of : List ℕ → Option Event
event_of text = by_mark (after_mark (codes "call ") text) text
