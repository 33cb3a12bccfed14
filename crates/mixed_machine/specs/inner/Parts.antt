-- Parts of a step and of a machine.
use Rattle.std.specs.Prelude.{ℕ, List, [], Option}
use Rattle.std.specs.Option.{option_map_or}
use Rattle.proc_info.specs.Signature.{Signature}
use Rattle.switch_frame.specs.declared.active.Active.{Active}
use Rattle.switch_frame.specs.Chain.{Chain}
use Rattle.switch_frame.specs.Records.{Record}
use Rattle.switch_frame.specs.Sets.{callee_isa}
use Rattle.toolbox.specs.Effects.{Ask}
use Rattle.mode_switch.specs.Callee.{fresh}
use Rattle.mode_switch.specs.Passed.{Passage}
use Rattle.mode_switch.specs.Returned.{given_back}
use Rattle.mode_switch.specs.Wanted.{Crossing, passed_selector}
use Rattle.call_trace.specs.Lines.{ask_line}
use Rattle.mixed_machine.specs.declared.body.Body.{Body}
use Rattle.mixed_machine.specs.State.{State, seen}
use Rattle.mixed_machine.specs.Next.{Next}
use Rattle.mixed_machine.specs.Enter.{sp_in}
use Rattle.mixed_machine.specs.Leave.{leaves_with}
use Rattle.mixed_machine.specs.Machine.{callers_of}

-- an ask has a line of the trace
abbrev pub line_of_ask : Option Ask → List ℕ
line_of_ask asked = option_map_or (λ a. ask_line a.slot a.word a.answer) asked []

-- the callee's registers
abbrev pub started : Crossing → ℕ × ℕ → Passage → Active
started c range p = fresh (callee_isa c.kind) c.sig (passed_selector c) p.args (sp_in c range) p.entry

-- by the signature of the call
abbrev pub leaves_by : State → Record → List Record → Signature → Next
leaves_by s r outer sig = leaves_with s outer sig (given_back (seen s) sig s.active r.caller)

-- the suspended callers stand in a whole chain of frames
abbrev pub HasChain : Body → Type 0
HasChain b = Chain b.ram b.top (callers_of b)
