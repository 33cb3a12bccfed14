-- Why a line is refused whose name is good: what can be told by its bytes alone, in this order.
use Rattle.std.specs.Prelude.{ℕ, ◌==◌, ◌&&◌, ◌||◌, not, nat_eq, Bool, true, false, List, [], ◌∷◌, codes, if◌then◌else◌, Option, Some, None}
use Rattle.std.specs.List.{ends_with}
use Rattle.mix_bits.specs.Names.{name_of}
use Rattle.mix_bits.specs.laws.Names.{rest_of}
use Rattle.mix_bits.specs.declared.isa.Isa.{Isa}
use Rattle.mix_bits.specs.declared.isa.Isa.TheVariants.{M68, Ppc}
use Rattle.mix_top.specs.Commands.{begins}
use Rattle.look_why.specs.Kinds.{between, has, is_of}
use Rattle.look_why.specs.declared.kind.Kind.TheVariants.{Capital, Dollar as dollar}
use Rattle.look_why.specs.declared.rule.Rule.{Rule}
use Rattle.look_why.specs.declared.rule.Rule.TheVariants.{Return, Behind, Comment, Tab, Spaces, Percent, Prefix, LowerDigit, Upper, Decimal, Dollar, Operands}

-- whether a number in hexadecimal goes on behind a byte, or begins
abbrev pub is_hexadecimal : Bool → ℕ → Bool
is_hexadecimal hexadecimal byte = if byte == 36 then true else hexadecimal && (between 48 57 byte || between 65 70 byte)

abbrev pub digit_rule : Bool → ℕ → Option Rule
digit_rule hexadecimal byte =
    if hexadecimal && between 97 102 byte then Some LowerDigit
    else (if is_of Capital byte && not (is_hexadecimal hexadecimal byte) then Some Upper else None)

-- what a byte breaks behind another one, and in a hexadecimal number or not
abbrev pub byte_rule : Bool → ℕ → ℕ → Option Rule
byte_rule hexadecimal before byte =
    if byte == 59 then Some Comment
    else (if byte == 9 then Some Tab
    else (if byte == 32 then Some Spaces
    else (if byte == 37 then Some Percent
    else (if byte == 120 then (if before == 48 then Some Prefix else None) else digit_rule hexadecimal byte))))

abbrev pub or_later : Option Rule → Option Rule → Option Rule
or_later (Some rule) later = Some rule
or_later None later = later

-- what the first byte breaks that breaks something
abbrev pub first_rule : Bool → ℕ → List ℕ → Option Rule
first_rule hexadecimal before [] = None
first_rule hexadecimal before (byte ∷ bytes) =
    or_later (byte_rule hexadecimal before byte) (first_rule (is_hexadecimal hexadecimal byte) byte bytes)

-- a decimal digit behind a #
abbrev pub has_decimal : ℕ → List ℕ → Bool
has_decimal before [] = false
has_decimal before (byte ∷ bytes) = (before == 35 && between 48 57 byte) || has_decimal byte bytes

-- the 68K instructions that have one: addq, subq, shifts and trap
unfoldable pub is_quick : List ℕ → Bool
is_quick name =
    begins (codes "addq") name || (begins (codes "subq") name || (begins (codes "as") name
    || (begins (codes "ls") name || (begins (codes "ro") name || begins (codes "trap") name))))

abbrev pub last_rule : Isa → List ℕ → List ℕ → Rule
last_rule M68 name operands = if has_decimal 0 operands && not (is_quick name) then Decimal else Operands
last_rule Ppc name operands =
    if has dollar operands && (not (begins (codes "b") name) && not (begins (codes ".") name)) then Dollar else Operands

abbrev pub or_last : Option Rule → Rule → Rule
or_last (Some rule) last = rule
or_last None last = last

abbrev pub words_rule : Isa → List ℕ → List ℕ → Rule
words_rule set name operands = or_last (first_rule false 0 operands) (last_rule set name operands)

-- of a line without its address
abbrev pub operand_rule : Isa → List ℕ → Rule
operand_rule set text =
    if ends_with nat_eq text (13 ∷ []) then Return
    else (if ends_with nat_eq text (32 ∷ []) then Behind
    else (if ends_with nat_eq text (9 ∷ []) then Behind else words_rule set (name_of text) (rest_of text)))
