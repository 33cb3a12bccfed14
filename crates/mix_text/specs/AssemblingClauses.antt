-- A text of which no line is refused.
use Rattle.std.specs.Prelude.{ℕ, List, Ok}
use Rattle.mix_bits.specs.declared.isa.Isa.{Isa}
use Rattle.mix_text.specs.Assembling.{IsAssembled}

-- no line is refused
abbrev pub HasBytes : Isa → ℕ → List ℕ → Type 0
HasBytes set at text = (bytes : List ℕ) × IsAssembled set at text (Ok bytes)

-- a text of which no line is refused has bytes of which something holds
pub record OfBytes (set : Isa) (at : ℕ) (text : List ℕ) (Puts : List ℕ → Type 0) : Type 0 where
  pub bytes : List ℕ
  pub is : IsAssembled set at text (Ok bytes)
  pub puts : Puts bytes
