-- Kinds of bytes, by their ASCII codes.
use Rattle.std.specs.Prelude.{ℕ, ◌==◌, ◌&&◌, ◌||◌, not, nat_le, Bool, false, List, [], ◌∷◌}
use Rattle.look_why.specs.declared.kind.Kind.{Kind}
use Rattle.look_why.specs.declared.kind.Kind.TheVariants.{Blank, Tab, Capital, Colon, Dollar, NoDigit, NoHexadecimal}

-- whether a byte stands between two, or is one of them
abbrev pub between : ℕ → ℕ → ℕ → Bool
between least most byte = nat_le least byte && nat_le byte most

abbrev pub is_of : Kind → ℕ → Bool
is_of Blank byte = byte == 32 || byte == 9
is_of Tab byte = byte == 9
is_of Capital byte = between 65 90 byte
is_of Colon byte = byte == 58
is_of Dollar byte = byte == 36
is_of NoDigit byte = not (between 48 57 byte)
is_of NoHexadecimal byte = not (between 48 57 byte || between 65 70 byte || between 97 102 byte)

-- whether one of some bytes is of a kind
abbrev pub has : Kind → List ℕ → Bool
has kind [] = false
has kind (byte ∷ bytes) = is_of kind byte || has kind bytes
