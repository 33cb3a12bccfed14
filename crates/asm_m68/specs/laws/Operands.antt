-- The operands of a line, between which commas stand. A comma inside parentheses belongs to an operand
-- (the texts are this project's own).
use Rattle.std.specs.Prelude.{ℕ, suc, ◌==◌, ◌&&◌, not, Bool, true, false, List, [], ◌∷◌, take, drop, if◌then◌else◌}
use Rattle.asm_m68.specs.declared.operands.Parsed.{Parsed}
use Rattle.asm_m68.specs.Reading.{read}

-- whether the bytes behind this one are inside parentheses
abbrev pub within : Bool → ℕ → Bool
within inside c = if c == 40 then true else if c == 41 then false else inside

abbrev pub ends : Bool → ℕ → Bool
ends inside c = (c == 44) && not inside

-- the bytes before the first comma outside parentheses, or all
abbrev pub comma : Bool → List ℕ → ℕ
comma inside [] = 0
comma inside (c ∷ cs) = if ends inside c then 0 else suc (comma (within inside c) cs)

abbrev pub front_of : List ℕ → List ℕ
front_of text = take (comma false text) text

abbrev pub behind : List ℕ → List ℕ
behind text = drop (suc (comma false text)) text

-- up to three operands
abbrev pub read_all : List ℕ → Parsed
read_all text = record { first = read (front_of text); second = read (front_of (behind text)); third = read (behind (behind text)) }
