-- What a word sets: a table of the keys of each command, and of the values of each key.
use Rattle.std.specs.Prelude.{ℕ, ◌&&◌, ◌==◌, nat_le, nat_lt, Bool, List, [], ◌∷◌, length, codes, if◌then◌else◌, Option, Some, None}
use Rattle.std.specs.List.{before_first, after_first, position_or_len}
use Rattle.std.specs.Option.{option_and_then, option_map}
use Rattle.std.specs.Str.{bytes_eq}
use Rattle.mix_bits.specs.declared.isa.Isa.TheVariants.{M68, Ppc}
use Rattle.mix_bits.specs.Numbers.{decimal_number, hexadecimal_number}
use Rattle.mix_bits.specs.declared.file.File.TheVariants.{Flat, Rsrc, Pef}
use Rattle.job_words.specs.declared.job.Key.{Key}
use Rattle.job_words.specs.declared.job.Key.TheVariants.{Program, Image, Text, Script}
use Rattle.job_words.specs.declared.setting.Name.{Name}
use Rattle.job_words.specs.declared.setting.Name.TheVariants.{File, Main, Ram, Steps, At, Count, Calls, Depth, CodeSet, Save}
use Rattle.job_words.specs.declared.setting.Setting.{Setting}
use Rattle.job_words.specs.declared.setting.Value.{Value}
use Rattle.job_words.specs.declared.setting.Value.TheVariants.{Named, Set, Number}
use Rattle.job_words.specs.declared.setting.Verb.{Verb}
use Rattle.job_words.specs.declared.setting.Verb.TheVariants.{ToRun, ToList, ToSample, ToAssemble, ToContinue, ToDebug}

-- the command that a first word is
unfoldable pub verb_of : List ℕ → Option Verb
verb_of word =
    if bytes_eq word (codes "run") then Some ToRun
    else (if bytes_eq word (codes "list") then Some ToList
    else (if bytes_eq word (codes "sample") then Some ToSample
    else (if bytes_eq word (codes "assemble") then Some ToAssemble
    else (if bytes_eq word (codes "continue") then Some ToContinue
    else (if bytes_eq word (codes "debug") then Some ToDebug else None)))))

-- the keys that each command knows
abbrev pub keys : Verb → List Name
keys ToRun = File (Program Flat) ∷ (File (Program Rsrc) ∷ (File (Program Pef) ∷ (Main ∷ (Ram ∷ (Steps ∷ (Save ∷ []))))))
keys ToList = File (Program Flat) ∷ (File (Program Rsrc) ∷ (File (Program Pef) ∷ (Main ∷ (Ram ∷ (At ∷ (Count ∷ []))))))
keys ToSample = Calls ∷ (Depth ∷ [])
keys ToAssemble = CodeSet ∷ (File Text ∷ (At ∷ []))
keys ToContinue = File Image ∷ (Steps ∷ (Save ∷ []))
keys ToDebug = File (Program Flat) ∷ (File (Program Rsrc) ∷ (File (Program Pef) ∷ (Main ∷ (Ram ∷ (File Script ∷ [])))))

-- the text of each key
abbrev pub key_text : Key → List ℕ
key_text (Program Flat) = codes "flat"
key_text (Program Rsrc) = codes "rsrc"
key_text (Program Pef) = codes "pef"
key_text Image = codes "image"
key_text Text = codes "text"
key_text Script = codes "script"

abbrev pub text_of : Name → List ℕ
text_of (File key) = key_text key
text_of Main = codes "main"
text_of Ram = codes "ram"
text_of Steps = codes "steps"
text_of At = codes "at"
text_of Count = codes "count"
text_of Calls = codes "n"
text_of Depth = codes "depth"
text_of CodeSet = codes "set"
text_of Save = codes "save"

abbrev pub set_of : List ℕ → Option Value
set_of name =
    if bytes_eq name (codes "68k") then Some (Set M68)
    else (if bytes_eq name (codes "ppc") then Some (Set Ppc) else None)

-- a file has a name that is not empty
abbrev pub named_by : List ℕ → Option Value
named_by name = if length name == 0 then None else Some Named

-- a number from `least` to `most`
abbrev pub kept_within : ℕ → ℕ → ℕ → Option ℕ
kept_within least most n = if nat_le least n && nat_le n most then Some n else None

abbrev pub number_within : ℕ → ℕ → List ℕ → Option ℕ
number_within least most text = option_and_then (kept_within least most) (decimal_number text)

abbrev pub number_in : Option ℕ → Option Value
number_in read = option_map Number read

-- the values of each key
abbrev pub value_of : Name → List ℕ → Option Value
value_of (File key) text = named_by text
value_of Main text = set_of text
value_of Ram text = number_in (number_within 128 16384 text)
value_of Steps text = number_in (decimal_number text)
value_of At text = number_in (hexadecimal_number 8 text)
value_of Count text = number_in (number_within 1 4096 text)
value_of Calls text = number_in (number_within 1 1000 text)
value_of Depth text = number_in (number_within 1 300 text)
value_of CodeSet text = set_of text
value_of Save text = named_by text

abbrev pub setting : Name → Value → Setting
setting name value = record { name = name; value = value }

-- the first of some keys with this text
abbrev pub name_in : List Name → List ℕ → Option Name
name_in [] text = None
name_in (name ∷ names) text = if bytes_eq text (text_of name) then Some name else name_in names text

-- a key ends at the first equals sign, and its value stands behind that
abbrev pub key_in : List ℕ → List ℕ
key_in word = before_first (λ byte. byte == 61) word

abbrev pub value_in : List ℕ → List ℕ
value_in word = after_first (λ byte. byte == 61) word

abbrev pub has_equals : List ℕ → Bool
has_equals word = nat_lt (position_or_len (λ byte. byte == 61) word) (length word)

-- what a text sets for a key
abbrev pub setting_in : List ℕ → Name → Option Setting
setting_in text name = option_map (setting name) (value_of name text)

-- what a word after the command sets
unfoldable pub setting_of : Verb → List ℕ → Option Setting
setting_of verb word = if has_equals word then option_and_then (setting_in (value_in word)) (name_in (keys verb) (key_in word)) else None
