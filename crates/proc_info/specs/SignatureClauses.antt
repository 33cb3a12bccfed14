-- The word of a signature.
use Rattle.std.specs.Prelude.{ℕ, ◌+◌, ◌*◌, List, [], ◌∷◌}
use Rattle.proc_info.specs.declared.conv.Shape.{Shape}
use Rattle.proc_info.specs.declared.conv.Shape.TheVariants.{Stack, Dispatched, Registers}
use Rattle.proc_info.specs.declared.param.Param.{Param}
use Rattle.proc_info.specs.CodesClauses.{conv_code}
use Rattle.proc_info.specs.Codes.{shape_of, size_code}
use Rattle.proc_info.specs.Signature.{Signature, base}

-- the digit of a parameter
abbrev pub digit_of_param : Shape → Param → ℕ
digit_of_param Stack p = size_code p.size
digit_of_param Dispatched p = size_code p.size
digit_of_param Registers p = size_code p.size + 4 * p.reg

-- the number whose digits are these parameters
abbrev pub params_word : Shape → List Param → ℕ
params_word shape [] = 0
params_word shape (p ∷ ps) = digit_of_param shape p + base shape * params_word shape ps

-- the word of a signature whose convention has this shape
abbrev pub word_by : Shape → Signature → ℕ
word_by Stack s = conv_code s.conv + 16 * size_code s.result + 64 * params_word Stack s.params
word_by Dispatched s = conv_code s.conv + 16 * size_code s.result + 64 * size_code s.selector + 256 * params_word Dispatched s.params
word_by Registers s = conv_code s.conv + 16 * size_code s.result + 64 * s.place + 2048 * params_word Registers s.params

-- the word of a signature
abbrev pub word_of : Signature → ℕ
word_of s = word_by (shape_of s.conv) s
