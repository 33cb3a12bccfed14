-- Where the lines of a text stand.
use Rattle.std.specs.Prelude.{ℕ, zero, suc, ◌≡◌, List, length, Ok}
use Rattle.mix_bits.specs.Addresses.{onward}
use Rattle.mix_bits.specs.declared.isa.Isa.{Isa}
use Rattle.mix_text.specs.Assembling.{IsAssembled}
use Rattle.mix_top.specs.ScriptLines.{behind_line, first_line}

-- a line gives so many bytes at its address
abbrev pub HasCount : Isa → List ℕ → ℕ → ℕ → Type 0
HasCount set line at count = (bytes : List ℕ) × IsAssembled set at line (Ok bytes) × (count ≡ length bytes)

-- the bytes of so many lines of a text, of which the first stands at one address, lead to another one
abbrev pub Leads : Isa → ℕ → List ℕ → ℕ → ℕ → Type 0
Leads set zero text at address = address ≡ at
Leads set (suc lines) text at address =
    (count : ℕ) × HasCount set (first_line text) at count × Leads set lines (behind_line text) (onward at count) address
