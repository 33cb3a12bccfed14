-- What the key of a word wants: the values that mix_io takes for it, and their kind in words.
use Rattle.std.specs.Prelude.{ℕ, ◌≡◌, ◌++◌, List, codes, decimal, Option}
use Rattle.mix_bits.specs.Numbers.{decimal_number, hexadecimal_number}
use Rattle.job_words.specs.Settings.{named_by, number_in, number_within, set_of, value_of}
use Rattle.job_words.specs.declared.setting.Value.{Value}
use Rattle.look_text.specs.declared.label.Label.{Label}
use Rattle.look_text.specs.declared.label.Label.TheVariants.{Flat, Rsrc, Pef, Main, Ram, Steps, Save, At, Count, Calls, Depth, CodeSet, Text, Image, Script}
use Rattle.look_text.specs.Labels.{name_of}

-- the name of a file, a set, eight digits of an address, any number, or one from the first to the second; of RAM in KiB
pub data Kind : Type 0 where
  Named : Kind
  Set : Kind
  Address : Kind
  Number : Kind
  Kib : (least most : ℕ) → Kind
  Within : (least most : ℕ) → Kind

abbrev pub kind_of : Label → Kind
kind_of Flat = Named
kind_of Rsrc = Named
kind_of Pef = Named
kind_of Main = Set
kind_of Ram = Kib 128 16384
kind_of Steps = Number
kind_of Save = Named
kind_of At = Address
kind_of Count = Within 1 4096
kind_of Calls = Within 1 1000
kind_of Depth = Within 1 300
kind_of CodeSet = Set
kind_of Text = Named
kind_of Image = Named
kind_of Script = Named

-- the value of a kind that a text is
abbrev pub value_by : Kind → List ℕ → Option Value
value_by Named text = named_by text
value_by Set text = set_of text
value_by Address text = number_in (hexadecimal_number 8 text)
value_by Number text = number_in (decimal_number text)
value_by (Kib least most) text = number_in (number_within least most text)
value_by (Within least most) text = number_in (number_within least most text)

abbrev pub TakesKind : Label → Type 0
TakesKind label = (text : List ℕ) → value_of (name_of label) text ≡ value_by (kind_of label) text

-- numbers have no leading zero
abbrev pub range_text : ℕ → ℕ → List ℕ
range_text least most = decimal least ++ (codes " to " ++ (decimal most ++ codes ", in decimal without a leading zero"))

abbrev pub kind_text : Kind → List ℕ
kind_text Named = codes "the name of a file, which is not empty"
kind_text Set = codes "68k or ppc"
kind_text Address = codes "an address of eight upper-case hexadecimal digits"
kind_text Number = codes "a number from " ++ range_text 0 4294967295
kind_text (Kib least most) = codes "a number of KiB from " ++ range_text least most
kind_text (Within least most) = codes "a number from " ++ range_text least most

abbrev pub wants_text : Label → List ℕ
wants_text label = kind_text (kind_of label)
