-- What a line of PowerPC code gives: the word whose text it is (PowerPC 601 RISC Microprocessor User's Manual, chapter 10;
-- the texts are this project's own).
use Rattle.std.specs.Prelude.{ℕ, ◌≡◌, ◌⊎◌, ◌^◌, ◌<◌, List}
use Rattle.ppc_text.specs.Text.{long_text, word_text}

-- the word whose text at an address is the line; a word has its own text after `.long` too
abbrev pub Gives : List ℕ → ℕ → ℕ → Type 0
Gives line at w = (w < 2 ^ 32) × ((line ≡ long_text w) ⊎ (line ≡ word_text w at))
