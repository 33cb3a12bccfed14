-- The listing of a program: a line for each instruction (this project's own).
use Rattle.std.specs.Prelude.{ℕ, zero, suc, ◌*◌, List, [], ◌++◌, codes, Option, Some, None, Result, Ok, Err}
use Rattle.std.specs.Option.{option_map}
use Rattle.mix_bits.specs.Addresses.{onward}
use Rattle.mix_bits.specs.Text.{hexadecimal}
use Rattle.mix_bits.specs.declared.isa.Isa.{Isa}
use Rattle.mix_bits.specs.declared.isa.Isa.TheVariants.{M68, Ppc}
use Rattle.mix_bits.specs.declared.size.Size.TheVariants.{Four}
use Rattle.big_memory.specs.declared.refusals.Access.{Access}
use Rattle.big_memory.specs.Memory.{Memory, loaded}
use Rattle.m68_isa.specs.Decode.{decoded}
use Rattle.m68_isa.specs.declared.instructions.Decoded68.{Decoded68}
use Rattle.m68_isa.specs.declared.instructions.Decoded68.TheVariants.{Op, LineA, LineF, Privileged, Illegal, Short}
use Rattle.m68_ea.specs.Words.{words_at}
use Rattle.m68_text.specs.Text.{text_of}
use Rattle.ppc_text.specs.Text.{word_text}

-- an instruction that lies whole in memory: its text, and how many bytes it has
pub record Listed : Type 0 where
  pub text : List ℕ
  pub bytes : ℕ

abbrev pub listed_as : List ℕ → ℕ → Listed
listed_as text bytes = record { text = text; bytes = bytes }

-- how many bytes a 68K instruction has, of which no word is missing; a word that is no instruction of a program stands
-- alone
abbrev pub bytes_m68 : Decoded68 → Option ℕ
bytes_m68 (Op i used) = Some (2 * used)
bytes_m68 (LineA word) = Some 2
bytes_m68 LineF = Some 2
bytes_m68 Privileged = Some 2
bytes_m68 Illegal = Some 2
bytes_m68 Short = None

abbrev pub listed_m68 : List ℕ → ℕ → Option Listed
listed_m68 ws at = option_map (listed_as (text_of (decoded ws) ws at)) (bytes_m68 (decoded ws))

-- PowerPC code: a word each
abbrev pub listed_ppc : Result ℕ Access → ℕ → Option Listed
listed_ppc (Ok word) at = Some (listed_as (word_text word at) 4)
listed_ppc (Err e) at = None

-- the instruction of a set at an address, if it lies whole in memory
unfoldable pub instruction : Isa → Memory → ℕ → Option Listed
instruction M68 m at = listed_m68 (words_at m at) at
instruction Ppc m at = listed_ppc (loaded m at Four) at

-- `ADDRESS: TEXT`
abbrev pub line_at : ℕ → List ℕ → List ℕ
line_at at text = hexadecimal 8 at ++ codes ": " ++ text ++ codes "\n"

-- a line, and then those of what stands behind the instruction
abbrev pub listing_with : Option Listed → ℕ → (ℕ → List ℕ) → List ℕ
listing_with (Some i) at rest = line_at at i.text ++ rest (onward at i.bytes)
listing_with None at rest = []

-- at most so many lines from an address on, up to the first instruction that does not lie whole in memory
unfoldable pub listing : ℕ → Isa → Memory → ℕ → List ℕ
listing zero set m at = []
listing (suc count) set m at = listing_with (instruction set m at) at (listing count set m)
