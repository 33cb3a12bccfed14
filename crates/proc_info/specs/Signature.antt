-- A procInfo word, a number below 2 ^ 32, and the signature that it stands for
-- (Inside Macintosh: PowerPC System Software, chapter 2).
use Rattle.std.specs.Prelude.{ℕ, zero, suc, ◌/◌, ◌%◌, ◌^◌, Bool, false, not, Result, Ok, Err, is_ok, if◌then◌else◌, ◌==◌, ◌||◌, List, [], ◌∷◌}
use Rattle.std.specs.List.{list_any}
use Rattle.std.specs.Result.{result_unwrap_or}
use Rattle.mix_bits.specs.Results.{◌>>=◌}
use Rattle.mix_bits.specs.declared.size.Size.{Size}
use Rattle.mix_bits.specs.declared.size.Size.TheVariants.{Zero}
use Rattle.proc_info.specs.declared.bad_info.BadInfo.{BadInfo}
use Rattle.proc_info.specs.declared.bad_info.BadInfo.TheVariants.{TopBit, Place, Gap, Twice}
use Rattle.proc_info.specs.declared.conv.Conv.{Conv}
use Rattle.proc_info.specs.declared.conv.Conv.TheVariants.{Pascal}
use Rattle.proc_info.specs.declared.conv.Shape.{Shape}
use Rattle.proc_info.specs.declared.conv.Shape.TheVariants.{Stack, Dispatched, Registers}
use Rattle.proc_info.specs.declared.param.Param.{Param}
use Rattle.proc_info.specs.Codes.{conv_at, shape_of, size_at, is_place}

-- how a procedure is called; a field that its convention does not use is 0 or no size
pub record Signature : Type 0 where
  pub conv : Conv
  pub result : Size
  pub place : ℕ
  pub selector : Size
  pub params : List Param

-- a word has one digit of this base for each parameter
abbrev pub base : Shape → ℕ
base Registers = 32
base _ = 4

-- how many parameters there may be
abbrev pub most_params : Shape → ℕ
most_params Stack = 13
most_params Dispatched = 12
most_params Registers = 4

-- the parameter that the lowest digit says: its size, and above that its register
abbrev pub param_at : Shape → ℕ → Param
param_at Registers v = record { size = size_at (v % 4); reg = v / 4 % 8 }
param_at _ v = record { size = size_at (v % 4); reg = 0 }

-- The parameters that a number's digits say, the lowest digit first, at most `most` of them: they end where all
-- digits that are left are 0; a digit of size 0 at or before another digit than 0 is a gap.
unfoldable pub params_at : Shape → ℕ → ℕ → Result (List Param) BadInfo
params_at shape zero v = if v == 0 then Ok [] else Err Gap
params_at shape (suc most) v =
    if v == 0 then Ok [] else
    (if v % 4 == 0 then Err Gap else
    (params_at shape most (v / base shape) >>= λ ps. Ok (param_at shape v ∷ ps)))

-- whether a register is named by two parameters
abbrev pub is_twice : List Param → Bool
is_twice [] = false
is_twice (p ∷ ps) = list_any (λ q. q.reg == p.reg) ps || is_twice ps

-- the signature of a word that has these parameters, with a place of the result and a selector's size
abbrev pub of_word : Conv → ℕ → ℕ → Size → List Param → Signature
of_word conv w place selector ps =
    record { conv = conv; result = size_at (w / 16 % 4); place = place; selector = selector; params = ps }

-- the signature of a word whose convention has this shape: the result's size stands in bits 4 and 5, on top of it
-- the selector's size or the result's place where the shape has one, and then the parameters
unfoldable pub signature_by : Shape → Conv → ℕ → Result Signature BadInfo
signature_by Stack conv w = params_at Stack (most_params Stack) (w / 64) >>= λ ps. Ok (of_word conv w 0 Zero ps)
signature_by Dispatched conv w =
    if w / 64 % 4 == 0 then Err Gap else
    (params_at Dispatched (most_params Dispatched) (w / 256) >>= λ ps. Ok (of_word conv w 0 (size_at (w / 64 % 4)) ps))
signature_by Registers conv w =
    if not (w / 2 ^ 31 == 0) then Err TopBit else
    (if not (is_place (w / 64 % 32) (size_at (w / 16 % 4))) then Err Place else
    (params_at Registers (most_params Registers) (w / 2048) >>= λ ps.
    if is_twice ps then Err Twice else Ok (of_word conv w (w / 64 % 32) Zero ps)))

-- the signature of a word, or the first that holds of Convention, TopBit, Place, Gap and Twice
unfoldable pub signature_of : ℕ → Result Signature BadInfo
signature_of w = conv_at (w % 16) >>= λ conv. signature_by (shape_of conv) conv w

-- whether a word has a signature
abbrev pub has_signature : ℕ → Bool
has_signature w = is_ok (signature_of w)

-- a Pascal call without parameters and result, whose word is 0
abbrev pub no_parameters : Signature
no_parameters = record { conv = Pascal; result = Zero; place = 0; selector = Zero; params = [] }

-- the signature of a word, or that of the word 0 where it has none
abbrev pub signature_in : ℕ → Signature
signature_in w = result_unwrap_or (signature_of w) no_parameters
