-- Laws of lines, texts and names: a line gives one word at most, and each name of the list is printed.
use Rattle.std.specs.Prelude.{ℕ, ◌≡◌, ◌^◌, ◌<◌, List, true}
use Rattle.mix_bits.specs.Names.{name_of}
use Rattle.ppc_text.specs.Listed.{is_name}
use Rattle.ppc_text.specs.Text.{word_text}
use Rattle.asm_ppc.specs.Assembly.{Gives}

-- a line gives one word at most
abbrev pub GivesOne : Type 0
GivesOne = (line : List ℕ) (at v w : ℕ) → at < 2 ^ 32 → Gives line at v → Gives line at w → v ≡ w

-- and has a name of the list
abbrev pub GivenAreNamed : Type 0
GivenAreNamed = (line : List ℕ) (at w : ℕ) → at < 2 ^ 32 → Gives line at w → is_name (name_of line) ≡ true

-- two words with the same text at the same address are one
abbrev pub TextsDiffer : Type 0
TextsDiffer = (at v w : ℕ) → at < 2 ^ 32 → v < 2 ^ 32 → w < 2 ^ 32 → word_text v at ≡ word_text w at → v ≡ w

-- the name of some word's text
abbrev pub IsPrinted : List ℕ → Type 0
IsPrinted n = (w : ℕ) × ((w < 2 ^ 32) × (name_of (word_text w 0) ≡ n))

abbrev pub NamesArePrinted : Type 0
NamesArePrinted = (n : List ℕ) → is_name n ≡ true → IsPrinted n
