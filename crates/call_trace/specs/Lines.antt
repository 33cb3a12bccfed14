-- The lines of the trace, as this project writes them. Hexadecimal digits are upper case, and a value has two for
-- each of its bytes.
use Rattle.std.specs.Prelude.{ℕ, List, [], ◌∷◌, ◌++◌, codes, decimal}
use Rattle.mix_bits.specs.Text.{hexadecimal}
use Rattle.mix_bits.specs.declared.isa.Isa.{Isa}
use Rattle.mix_bits.specs.declared.fault.Fault.{Fault as AFault}
use Rattle.mix_bits.specs.declared.size.Size.{Size}
use Rattle.mix_bits.specs.declared.size.Size.TheVariants.{Zero, One, Two, Four}
use Rattle.proc_info.specs.declared.param.Param.{Param}
use Rattle.proc_info.specs.Signature.{Signature}
use Rattle.switch_frame.specs.Records.{Record}
use Rattle.dev_rack.specs.declared.answers.Answer.{Answer}
use Rattle.dev_rack.specs.declared.answers.Answer.TheVariants.{Word, Failed, Empty, Full}
use Rattle.call_trace.specs.declared.end.End.{End}
use Rattle.call_trace.specs.declared.end.End.TheVariants.{Exit, Fault, Limit}
use Rattle.call_trace.specs.Names.{set_name, set_names, fault_name}

-- a value behind a mark; nothing where there is no value
abbrev pub marked : List ℕ → Size → ℕ → List ℕ
marked mark Zero v = []
marked mark One v = mark ++ hexadecimal 2 v
marked mark Two v = mark ++ hexadecimal 4 v
marked mark Four v = mark ++ hexadecimal 8 v

-- the arguments of a call, each behind a space
unfoldable pub arguments : List Param → List ℕ → List ℕ
arguments (p ∷ ps) (v ∷ vs) = marked (codes " ") p.size v ++ arguments ps vs
arguments _ _ = []

-- a frame is made: `call FROM TO TARGET PROCINFO`, then `#` and the selector of a dispatched call, then the arguments
abbrev pub call_head : Record → Signature → List ℕ
call_head r s =
    codes "call " ++ set_names r.kind ++ codes " " ++ hexadecimal 8 r.target ++ codes " " ++ hexadecimal 8 r.info
    ++ marked (codes " #") s.selector r.selector

unfoldable pub call_line : Record → Signature → List ℕ → List ℕ
call_line r s args = call_head r s ++ arguments s.params args ++ codes "\n"

-- a frame is given up: `ret`, and the result where there is one
unfoldable pub ret_line : Signature → ℕ → List ℕ
ret_line s value = codes "ret" ++ marked (codes " ") s.result value ++ codes "\n"

-- what came of an ask
abbrev pub answer_text : Answer → List ℕ
answer_text (Word answer) = hexadecimal 8 answer
answer_text Failed = codes "fail"
answer_text Empty = codes "empty"
answer_text Full = codes "full"

-- a device is asked: `ask SLOT WORD ANSWER`, with the slot in decimal
unfoldable pub ask_line : ℕ → ℕ → Answer → List ℕ
ask_line slot word answer =
    codes "ask " ++ decimal slot ++ codes " " ++ hexadecimal 8 word ++ codes " " ++ answer_text answer ++ codes "\n"

-- a run ends: `exit CODE` in decimal, `fault NAME SET PC DETAIL ALSO`, or `limit`
abbrev pub fault_line : Isa → AFault → List ℕ
fault_line set f =
    codes "fault " ++ fault_name f.kind ++ codes " " ++ set_name set
    ++ codes " " ++ hexadecimal 8 f.pc ++ codes " " ++ hexadecimal 8 f.detail ++ codes " " ++ hexadecimal 8 f.also ++ codes "\n"

unfoldable pub end_line : End → List ℕ
end_line (Exit code) = codes "exit " ++ decimal code ++ codes "\n"
end_line (Fault set fault) = fault_line set fault
end_line Limit = codes "limit\n"
