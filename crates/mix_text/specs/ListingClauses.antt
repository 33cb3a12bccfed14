-- What the parts of a listing answer.
use Rattle.std.specs.Prelude.{◌≡◌, ℕ, List, Option, Some, None}
use Rattle.mix_text.specs.Listing.{Listed}

-- the text of an instruction that lies whole in memory was written, and these are its bytes
abbrev pub Writes : Option Listed → Option ℕ → List ℕ → Type 0
Writes (Some i) (Some bytes) text = (text ≡ i.text) × (bytes ≡ i.bytes)
Writes (Some i) None text = ⊥
Writes None (Some bytes) text = ⊥
Writes None None text = Unit {0}
