-- A word sets the key whose text it begins with, and no two keys have one text or one number.
use Rattle.std.proofs.Common.{◌≡◌, ℕ, ◌<◌, List, [], ◌∷◌, length, ◌==◌, Bool, true, false, if◌then◌else◌, IsTrue, Option, Some, None, get_or, arith, sym, ap, ◌∙◌, refl}
use Rattle.std.specs.Str.{bytes_eq}
use Rattle.std.specs.Option.{option_and_then, option_map}
use Rattle.std.proofs.lemmas.Slice.Eq.{bytes_eq-Decides}
use Rattle.mix_bits.specs.declared.file.File.TheVariants.{Flat, Rsrc, Pef}
use Rattle.job_words.specs.Settings.{has_equals, key_in, keys, name_in, setting, setting_in, setting_of, text_of, value_in, value_of}
use Rattle.job_words.specs.Drafts.{index_of}
use Rattle.job_words.specs.declared.job.Key.{Key}
use Rattle.job_words.specs.declared.job.Key.TheVariants.{Program, Image, Text, Script}
use Rattle.job_words.specs.declared.setting.Name.{Name}
use Rattle.job_words.specs.declared.setting.Name.TheVariants.{File, Main, Ram, Steps, At, Count, Calls, Depth, CodeSet, Save}
use Rattle.job_words.specs.declared.setting.Setting.{Setting}
use Rattle.job_words.specs.declared.setting.Value.{Value}
use Rattle.job_words.specs.declared.setting.Value.TheVariants.{Named}
use Rattle.job_words.specs.declared.setting.Verb.{Verb}

-- all keys, by their numbers
abbrev all : List Name
all = File (Program Flat) ∷ File (Program Rsrc) ∷ File (Program Pef) ∷ Main ∷ Ram ∷ Steps ∷ At ∷ Count ∷ Calls ∷ Depth ∷ File Text ∷ CodeSet ∷ File Image ∷ File Script ∷ Save ∷ []

-- each is the one of its text, and the one of its number
record IsOwn (name : Name) : Type 0 where
  text : name_in all (text_of name) ≡ Some name
  number : get_or all (index_of name) Main ≡ name
  small : index_of name < 15

own : (name : Name) → IsOwn name
own (File (Program Flat)) = record { text = refl; number = refl; small = omega arith }
own (File (Program Rsrc)) = record { text = refl; number = refl; small = omega arith }
own (File (Program Pef)) = record { text = refl; number = refl; small = omega arith }
own Main = record { text = refl; number = refl; small = omega arith }
own Ram = record { text = refl; number = refl; small = omega arith }
own Steps = record { text = refl; number = refl; small = omega arith }
own At = record { text = refl; number = refl; small = omega arith }
own Count = record { text = refl; number = refl; small = omega arith }
own Calls = record { text = refl; number = refl; small = omega arith }
own Depth = record { text = refl; number = refl; small = omega arith }
own (File Text) = record { text = refl; number = refl; small = omega arith }
own CodeSet = record { text = refl; number = refl; small = omega arith }
own (File Image) = record { text = refl; number = refl; small = omega arith }
own (File Script) = record { text = refl; number = refl; small = omega arith }
own Save = record { text = refl; number = refl; small = omega arith }

pub text-apart : (a b : Name) → text_of a ≡ text_of b → a ≡ b
text-apart a b same = let one : Some a ≡ Some b = sym (own a).text ∙ ap (name_in all) same ∙ (own b).text in cc

pub index-apart : (a b : Name) → index_of a ≡ index_of b → a ≡ b
index-apart a b same = sym (own a).number ∙ ap (λ i. get_or all i Main) same ∙ (own b).number

pub index-small : (name : Name) → index_of name < 15
index-small name = (own name).small

-- what a word that sets something reads
pub record Reads (word : List ℕ) (s : Setting) : Type 0 where
  pub equals : IsTrue (has_equals word)
  pub named : key_in word ≡ text_of s.name
  pub value : value_of s.name (value_in word) ≡ Some s.value

name-by : (b : Bool) (n name : Name) (rest : Option Name) (key : List ℕ) → bytes_eq key (text_of n) ≡ b → (rest ≡ Some name → key ≡ text_of name)
    → (if b then Some n else rest) ≡ Some name → key ≡ text_of name
name-by true n name rest key alike later is = let same : n ≡ name = cc in (bytes_eq-Decides key (text_of n)).0 alike ∙ ap text_of same
name-by false n name rest key alike later is = later is

name-text : (names : List Name) (key : List ℕ) (name : Name) → name_in names key ≡ Some name → key ≡ text_of name
name-text [] key name is = cc
name-text (n ∷ names) key name is = name-by (bytes_eq key (text_of n)) n name (name_in names key) key refl (λ later. name-text names key name later) is

value-by : (o : Option Value) (name : Name) (word : List ℕ) (s : Setting) → IsTrue (has_equals word) → key_in word ≡ text_of name → value_of name (value_in word) ≡ o
    → option_map (setting name) o ≡ Some s → Reads word s
value-by None name word s equals named value is = cc
value-by (Some v) name word s equals named value is =
    let same : setting name v ≡ s = cc in
    record { equals = equals; named = named ∙ ap (λ t. text_of t.name) same; value = ap (λ t. value_of t.name (value_in word)) (sym same) ∙ value ∙ ap (λ t. Some t.value) same }

word-by : (o : Option Name) (verb : Verb) (word : List ℕ) (s : Setting) → IsTrue (has_equals word) → name_in (keys verb) (key_in word) ≡ o
    → option_and_then (setting_in (value_in word)) o ≡ Some s → Reads word s
word-by None verb word s equals named is = cc
word-by (Some name) verb word s equals named is = value-by (value_of name (value_in word)) name word s equals (name-text (keys verb) (key_in word) name named) refl is

reads-by : (b : Bool) (verb : Verb) (word : List ℕ) (s : Setting) → has_equals word ≡ b
    → (if b then option_and_then (setting_in (value_in word)) (name_in (keys verb) (key_in word)) else None) ≡ Some s → Reads word s
reads-by true verb word s with is = word-by (name_in (keys verb) (key_in word)) verb word s with refl is
reads-by false verb word s with is = cc

pub setting-reads : (verb : Verb) (word : List ℕ) (s : Setting) → setting_of verb word ≡ Some s → Reads word s
unfolding setting_of
setting-reads verb word s is = reads-by (has_equals word) verb word s refl is

-- a file is named, and nothing more
named-by : (b : Bool) (v : Value) → (if b then None else Some Named) ≡ Some v → v ≡ Named
named-by true v is = cc
named-by false v is = cc

pub file-named : (key : Key) (word : List ℕ) (v : Value) → Reads word (setting (File key) v) → v ≡ Named
file-named key word v reads = named-by (length (value_in word) == 0) v reads.value
