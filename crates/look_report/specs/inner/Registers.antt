-- The registers of a machine, line by line.
use Rattle.std.specs.Prelude.{ℕ, ◌+◌, List, [], ◌∷◌, ◌++◌, codes, decimal, slice_range, Bool, true, false}
use Rattle.mix_bits.specs.Text.{hexadecimal}
use Rattle.m68_isa.specs.declared.registers.Ccr.{Ccr}
use Rattle.ppc_isa.specs.declared.registers.RegsPpc.{RegsPpc}
use Rattle.switch_frame.specs.declared.active.Active.{Active}
use Rattle.switch_frame.specs.declared.active.Active.TheVariants.{M68, Ppc}
use Rattle.look_text.specs.Pieces.{joined}

abbrev pub register_text : List ℕ → ℕ → ℕ → List ℕ
register_text bank k v = joined (codes " " ∷ bank ∷ decimal k ∷ codes "=" ∷ hexadecimal 8 v ∷ [])

-- registers of a bank from a number on, and the end of their line
abbrev pub bank_text : List ℕ → ℕ → List ℕ → List ℕ
bank_text bank k [] = codes "\n"
bank_text bank k (v ∷ vs) = register_text bank k v ++ bank_text bank (k + 1) vs

abbrev pub flag : Bool → List ℕ
flag true = codes "1"
flag false = codes "0"

abbrev pub codes_line : Ccr → List ℕ
codes_line c =
    joined (codes " x=" ∷ flag c.x ∷ codes " n=" ∷ flag c.n ∷ codes " z=" ∷ flag c.z ∷ codes " v=" ∷ flag c.v ∷ codes " c=" ∷ flag c.c ∷ codes "\n" ∷ [])

unfoldable pub special_line : RegsPpc → List ℕ
special_line r =
    joined (codes " cr=" ∷ hexadecimal 8 r.cr ∷ codes " lr=" ∷ hexadecimal 8 r.lr ∷ codes " ctr=" ∷ hexadecimal 8 r.ctr ∷ codes " xer=" ∷ hexadecimal 8 r.xer ∷ codes "\n" ∷ [])

-- the line of eight general registers from a number on
abbrev pub row_text : List ℕ → ℕ → List ℕ
row_text gpr first = bank_text (codes "r") first (slice_range gpr first (first + 8))

abbrev pub registers_text : Active → List ℕ
registers_text (M68 r) = bank_text (codes "d") 0 r.d ++ (bank_text (codes "a") 0 r.a ++ codes_line r.ccr)
registers_text (Ppc r) = row_text r.gpr 0 ++ (row_text r.gpr 8 ++ (row_text r.gpr 16 ++ (row_text r.gpr 24 ++ special_line r)))
