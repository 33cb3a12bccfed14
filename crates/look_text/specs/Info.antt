-- A procInfo word in words: the places are those that args_m68 defines.
use Rattle.std.specs.Prelude.{ℕ, ◌+◌, ◌%◌, List, [], ◌∷◌, ◌++◌, codes, decimal, if◌then◌else◌, Option, Some, None, Result, Ok, Err}
use Rattle.mix_bits.specs.Text.{hexadecimal}
use Rattle.mix_bits.specs.declared.size.Size.{Size}
use Rattle.mix_bits.specs.declared.size.Size.TheVariants.{Zero, One, Two, Four}
use Rattle.proc_info.specs.Codes.{is_dispatched}
use Rattle.proc_info.specs.Signature.{Signature, signature_of}
use Rattle.proc_info.specs.declared.bad_info.BadInfo.{BadInfo}
use Rattle.proc_info.specs.declared.conv.Conv.{Conv}
use Rattle.proc_info.specs.declared.param.Param.{Param}
use Rattle.proc_info.specs.Routes.{route_of}
use Rattle.args_m68.specs.Places.{next_base, place_of, result_place, selector_place, selector_width, widths}
use Rattle.args_m68.specs.declared.places.Place.{Place}
use Rattle.look_text.specs.Pieces.{joined}
use Rattle.look_text.specs.Places.{place_text, ppc_place}
use Rattle.look_text.specs.Words.{conv_name, rule_text, size_name}

-- the result, and the place that it has behind the return
abbrev pub result_line : Size → Place → List ℕ
result_line size place =
    joined (codes "result: " ∷ size_name size ∷ codes ", 68K " ∷ place_text place ∷ codes " behind the return, PowerPC r3\n" ∷ [])

abbrev pub sized_result : Size → Place → List ℕ
sized_result Zero place = codes "result: none\n"
sized_result One place = result_line One place
sized_result Two place = result_line Two place
sized_result Four place = result_line Four place

abbrev pub result_text : Signature → List ℕ
result_text s = sized_result s.result (result_place (route_of s.conv) s.place)

-- the selector of a dispatched convention: in PowerPC code it is the first word of the routine, and the third one that
-- CallUniversalProc is passed, which takes two words itself
abbrev pub selector_line : Size → Place → List ℕ
selector_line size place =
    joined (codes "selector: " ∷ size_name size ∷ codes ", 68K " ∷ place_text place ∷ codes ", PowerPC " ∷ ppc_place 0
    ∷ codes ", by CallUniversalProc " ∷ ppc_place 2 ∷ codes "\n" ∷ [])

abbrev pub sized_selector : Size → Place → List ℕ
sized_selector Zero place = []
sized_selector One place = selector_line One place
sized_selector Two place = selector_line Two place
sized_selector Four place = selector_line Four place

abbrev pub selector_text : Signature → List ℕ
selector_text s = sized_selector s.selector (selector_place s.conv)

-- the PowerPC word of the first parameter
abbrev pub first_word : Conv → ℕ
first_word conv = if is_dispatched conv then 1 else 0

-- the parameter of number k, counted from 0, in a place of 68K code and in a word of the routine in PowerPC code
unfoldable pub param_line : ℕ → Size → Place → ℕ → List ℕ
param_line k size place word =
    joined (codes "parameter " ∷ decimal (k + 1) ∷ codes ": " ∷ size_name size ∷ codes ", 68K " ∷ place_text place
    ∷ codes ", PowerPC " ∷ ppc_place word ∷ codes ", by CallUniversalProc " ∷ ppc_place (word + 2) ∷ codes "\n" ∷ [])

-- its places: the lowest of it and the later ones begins `base` bytes above the return address, and the later ones take
-- `later` bytes on a Pascal stack
abbrev pub param_text : Conv → ℕ → ℕ → Param → ℕ → List ℕ
param_text conv base k p later = param_line k p.size (place_of (route_of conv) base p later) (first_word conv + k)

abbrev pub params_text : Conv → ℕ → ℕ → List Param → List ℕ
params_text conv base k [] = []
params_text conv base k (p ∷ ps) = param_text conv base k p (widths ps) ++ params_text conv (next_base (route_of conv) base) (k + 1) ps

abbrev pub values_text : Signature → List ℕ
values_text s = result_text s ++ (selector_text s ++ params_text s.conv (4 + selector_width s.conv s.selector) 0 s.params)

abbrev pub signed_text : ℕ → Signature → List ℕ
signed_text w s = joined (hexadecimal 8 w ∷ codes ": " ∷ conv_name s.conv ∷ codes "\n" ∷ []) ++ values_text s

abbrev pub unsigned_text : ℕ → BadInfo → List ℕ
unsigned_text w bad = joined (hexadecimal 8 w ∷ codes " has no signature, by rule " ∷ rule_text bad ∷ codes "\n" ∷ [])

abbrev pub text_by : ℕ → Result Signature BadInfo → List ℕ
text_by w (Ok s) = signed_text w s
text_by w (Err bad) = unsigned_text w bad

-- what a word says, or which rule it breaks
unfoldable pub info_of : ℕ → List ℕ
info_of w = text_by w (signature_of w)

-- the convention of a word without a signature, which bits 0 to 3 are, and the rule that it breaks
abbrev pub refusal_line : ℕ → BadInfo → List ℕ
refusal_line w bad =
    joined (codes "convention " ∷ decimal (w % 16) ∷ codes ": " ∷ hexadecimal 8 w
    ∷ codes " has no signature, by rule " ∷ rule_text bad ∷ codes "\n" ∷ [])

abbrev pub refusal_by : ℕ → Result Signature BadInfo → Option (List ℕ)
refusal_by w (Ok s) = None
refusal_by w (Err bad) = Some (refusal_line w bad)

unfoldable pub refusal_of : ℕ → Option (List ℕ)
refusal_of w = refusal_by w (signature_of w)
