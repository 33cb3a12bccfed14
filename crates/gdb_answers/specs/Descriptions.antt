-- How a target describes its registers to gdb: the architecture, and a feature with each register's name, width and type, in the order in which `g` tells them.
-- Source: GDB manual, appendix 'Target Descriptions', sections 'Target Description Format', 'M68K Features' and 'PowerPC Features'.
use Rattle.std.specs.Prelude.{ℕ, zero, suc, ◌+◌, ◌/◌, ◌%◌, nat_lt, List, [], ◌∷◌, ◌++◌, codes, if◌then◌else◌}
use Rattle.std.specs.List.{flat_map}
use Rattle.mix_bits.specs.declared.isa.Isa.{Isa}
use Rattle.mix_bits.specs.declared.isa.Isa.TheVariants.{M68, Ppc}

-- a number below 100 in decimal digits
abbrev pub in_decimal : ℕ → List ℕ
in_decimal n = if nat_lt n 10 then (48 + n) ∷ [] else (48 + n / 10) ∷ (48 + n % 10) ∷ []

-- the first names of a bank: `d0`, `d1` and so on
abbrev pub bank : List ℕ → ℕ → List (List ℕ)
bank letter zero = []
bank letter (suc n) = bank letter n ++ ((letter ++ in_decimal n) ∷ [])

-- a register of 32 bits: a number, or a pointer of this type
abbrev pub number : List ℕ → List ℕ
number name = codes "<reg name=\"" ++ name ++ codes "\" bitsize=\"32\"/>"

abbrev pub pointer : List ℕ → List ℕ → List ℕ
pointer to name = codes "<reg name=\"" ++ name ++ codes "\" bitsize=\"32\" type=\"" ++ to ++ codes "\"/>"

abbrev pub registers_described : Isa → List ℕ
registers_described M68 =
    flat_map number (bank (codes "d") 8)
    ++ flat_map (pointer (codes "data_ptr")) (bank (codes "a") 6 ++ (codes "fp" ∷ codes "sp" ∷ []))
    ++ number (codes "ps") ++ pointer (codes "code_ptr") (codes "pc")
registers_described Ppc =
    flat_map number (bank (codes "r") 32)
    ++ pointer (codes "code_ptr") (codes "pc") ++ number (codes "msr") ++ number (codes "cr")
    ++ pointer (codes "code_ptr") (codes "lr") ++ number (codes "ctr") ++ number (codes "xer")

abbrev pub architecture : Isa → List ℕ
architecture M68 = codes "m68k:68000"
architecture Ppc = codes "powerpc:601"

abbrev pub feature : Isa → List ℕ
feature M68 = codes "org.gnu.gdb.m68k.core"
feature Ppc = codes "org.gnu.gdb.power.core"

unfoldable pub description_of : Isa → List ℕ
description_of set =
    codes "<?xml version=\"1.0\"?><!DOCTYPE target SYSTEM \"gdb-target.dtd\"><target><architecture>" ++ architecture set
    ++ codes "</architecture><feature name=\"" ++ feature set ++ codes "\">" ++ registers_described set ++ codes "</feature></target>"
