-- The pieces of a line, read from its front.
use Rattle.std.specs.Prelude.{ℕ, ◌+◌, ◌==◌, List, [], ◌∷◌, length, take, codes, if◌then◌else◌, Option, Some, None, is_some}
use Rattle.std.specs.List.{position_from}
use Rattle.std.specs.Option.{option_and_then}
use Rattle.mix_bits.specs.declared.isa.Isa.{Isa}
use Rattle.mix_bits.specs.declared.isa.Isa.TheVariants.{M68, Ppc}
use Rattle.mix_bits.specs.declared.size.Size.{Size}
use Rattle.mix_bits.specs.declared.size.Size.TheVariants.{Zero, One, Two, Four}
use Rattle.mix_bits.specs.Numbers.{hexadecimal_number}

-- what stands behind a mark at the front of a text
abbrev pub after_mark : List ℕ → List ℕ → Option (List ℕ)
after_mark [] text = Some text
after_mark (m ∷ mark) [] = None
after_mark (m ∷ mark) (byte ∷ text) = if byte == m then after_mark mark text else None

-- the number in so many digits at the front
abbrev pub hex_front : ℕ → List ℕ → Option ℕ
hex_front digits text = hexadecimal_number digits (take digits text)

-- the set whose name stands at the front
abbrev pub set_front : List ℕ → Option Isa
set_front text =
    if is_some (after_mark (codes "68k ") text) then Some M68
    else (if is_some (after_mark (codes "ppc ") text) then Some Ppc else None)

-- a value behind its mark: nothing stands there where it has no size
abbrev pub marked_width : List ℕ → Size → ℕ
marked_width mark Zero = 0
marked_width mark One = length mark + 2
marked_width mark Two = length mark + 4
marked_width mark Four = length mark + 8

abbrev pub marked_value : List ℕ → Size → List ℕ → Option ℕ
marked_value mark Zero text = Some 0
marked_value mark One text = option_and_then (hex_front 2) (after_mark mark text)
marked_value mark Two text = option_and_then (hex_front 4) (after_mark mark text)
marked_value mark Four text = option_and_then (hex_front 8) (after_mark mark text)

-- the place of the first space
abbrev pub first_space : List ℕ → Option ℕ
first_space text = position_from (λ byte. byte == 32) 0 text
