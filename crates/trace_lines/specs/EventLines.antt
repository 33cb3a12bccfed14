-- The line of an event, as call_trace defines it, and which events there are.
use Rattle.std.specs.Prelude.{ℕ, ◌≡◌, ◌-◌, ◌^◌, ◌<◌, true, List, ◌++◌, length, take, replicate}
use Rattle.mix_bits.specs.declared.fault.Fault.{Fault as AFault}
use Rattle.mix_bits.specs.declared.size.Size.{Size}
use Rattle.mix_bits.specs.Sizes.{truncated}
use Rattle.m68_isa.specs.Registers.{cleared_registers}
use Rattle.proc_info.specs.Cut.{cut}
use Rattle.proc_info.specs.Signature.{Signature, has_signature, no_parameters, signature_in}
use Rattle.switch_frame.specs.declared.active.Active.TheVariants.{M68}
use Rattle.switch_frame.specs.Records.{Record}
use Rattle.dev_rack.specs.declared.answers.Answer.{Answer}
use Rattle.dev_rack.specs.declared.answers.Answer.TheVariants.{Word, Failed, Empty, Full}
use Rattle.call_trace.specs.declared.end.End.{End}
use Rattle.call_trace.specs.declared.end.End.TheVariants.{Exit, Fault, Limit}
use Rattle.call_trace.specs.Lines.{call_line, ret_line, ask_line, end_line}
use Rattle.trace_lines.specs.declared.event.Crossing.{Crossing}
use Rattle.trace_lines.specs.declared.event.Event.{Event}
use Rattle.trace_lines.specs.declared.event.Event.TheVariants.{Called, Returned, Asked, Ended}

-- the arguments of a call
abbrev pub args_of : Crossing → List ℕ
args_of c = take c.count c.args

-- a suspended caller that made the call; its line shows neither registers nor places
abbrev pub record_of : Crossing → Record
record_of c =
    record { kind = c.kind; caller = M68 cleared_registers; info = c.info; selector = c.selector; target = c.target; lo = 0; hi = 0; want = 0 }

-- a signature with a result of this size
abbrev pub with_result : Size → Signature
with_result size = record no_parameters { result = size }

-- the line of an event
abbrev pub line_of : Event → List ℕ
line_of (Called c) = call_line (record_of c) (signature_in c.info) (args_of c)
line_of (Returned size value) = ret_line (with_result size) value
line_of (Asked slot word answer) = ask_line slot word answer
line_of (Ended end) = end_line end

-- a call of a procInfo word with a signature, whose values have the sizes that it declares
pub record IsCrossing (c : Crossing) : Type 0 where
  pub target : c.target < 2 ^ 32
  pub info : c.info < 2 ^ 32
  pub signed : has_signature c.info ≡ true
  pub selector : truncated c.selector (signature_in c.info).selector ≡ c.selector
  pub count : c.count ≡ length (signature_in c.info).params
  pub held : length (args_of c) ≡ c.count
  pub sized : cut (signature_in c.info).params (args_of c) ≡ args_of c
  pub rest : c.args ≡ args_of c ++ replicate (13 - c.count) 0

-- a fault of 32-bit numbers
pub record IsFault (f : AFault) : Type 0 where
  pub pc : f.pc < 2 ^ 32
  pub detail : f.detail < 2 ^ 32
  pub also : f.also < 2 ^ 32

abbrev pub IsEnd : End → Type 0
IsEnd (Exit code) = code < 2 ^ 32
IsEnd (Fault set fault) = IsFault fault
IsEnd Limit = Unit {0}

abbrev pub IsAnswer : Answer → Type 0
IsAnswer (Word answer) = answer < 2 ^ 32
IsAnswer Failed = Unit {0}
IsAnswer Empty = Unit {0}
IsAnswer Full = Unit {0}

-- an event whose numbers have 32 bits, and whose values have their sizes
abbrev pub IsEvent : Event → Type 0
IsEvent (Called c) = IsCrossing c
IsEvent (Returned size value) = truncated value size ≡ value
IsEvent (Asked slot word answer) = (slot < 2 ^ 32) × (word < 2 ^ 32) × IsAnswer answer
IsEvent (Ended end) = IsEnd end
