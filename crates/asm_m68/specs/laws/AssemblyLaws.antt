-- Laws of lines, texts and names: each text gives its words, and no others (the texts are this project's own).
use Rattle.std.specs.Prelude.{ℕ, ◌≡◌, ◌≢◌, ◌^◌, ◌<◌, ◌≤◌, ◌==◌, List, length, take, Bool, true, false}
use Rattle.m68_isa.specs.declared.instructions.Decoded68.{Decoded68}
use Rattle.m68_isa.specs.declared.instructions.Decoded68.TheVariants.{Op, Short}
use Rattle.m68_isa.specs.declared.instructions.Instr68.{Instr68}
use Rattle.m68_isa.specs.Decode.{decoded}
use Rattle.m68_text.specs.Listed.{is_name}
use Rattle.m68_text.specs.Text.{text_of}
use Rattle.mix_bits.specs.Names.{name_of}
use Rattle.asm_m68.specs.Assembly.{AreWords, Gives}
use Rattle.asm_m68.specs.laws.Assembly.{count_of}

-- the words are one instruction, or one word that is none, and nothing more
abbrev pub is_exact : Decoded68 → ℕ → Bool
is_exact (Op i used) count = used == count
is_exact Short count = false
is_exact _ count = count == 1

-- words of one instruction, or one word that is none
abbrev pub AreExact : List ℕ → Type 0
AreExact ws = AreWords ws × (is_exact (decoded ws) (length ws) ≡ true)

-- a line gives the words of one instruction at most
abbrev pub GivesOne : Type 0
GivesOne = (line : List ℕ) (at : ℕ) (vs ws : List ℕ) → at < 2 ^ 32 → Gives line at vs → Gives line at ws → vs ≡ ws

-- and has a name of the list
abbrev pub GivenAreNamed : Type 0
GivenAreNamed = (line : List ℕ) (at : ℕ) (ws : List ℕ) → at < 2 ^ 32 → Gives line at ws → is_name (name_of line) ≡ true

-- the text of the instruction that begins with some words gives its own, whatever stands behind them
abbrev pub TextsGive : Type 0
TextsGive = (ws : List ℕ) (at : ℕ) → AreWords ws → decoded ws ≢ Short → Gives (text_of (decoded ws) ws at) at (take (count_of (decoded ws)) ws)

-- and none of them is missing
abbrev pub NoneIsMissing : Type 0
NoneIsMissing = (ws : List ℕ) → count_of (decoded ws) ≤ length ws

-- two instructions with the same text at the same address have the same words
abbrev pub TextsDiffer : Type 0
TextsDiffer = (at : ℕ) (vs ws : List ℕ) (i j : Instr68) → at < 2 ^ 32 → AreWords vs → AreWords ws → decoded vs ≡ Op i (length vs) → decoded ws ≡ Op j (length ws) → text_of (decoded vs) vs at ≡ text_of (decoded ws) ws at → vs ≡ ws

-- the name of some text
pub record IsPrinted (n : List ℕ) : Type 0 where
  pub words : List ℕ
  pub are : AreExact words
  pub named : name_of (text_of (decoded words) words 0) ≡ n

abbrev pub NamesArePrinted : Type 0
NamesArePrinted = (n : List ℕ) → is_name n ≡ true → IsPrinted n
