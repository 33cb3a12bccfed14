-- The table of the 68000's instructions, and what the words of one are
-- (M68000 Family Programmer's Reference Manual, section 8).
use Rattle.std.specs.Prelude.{ℕ, ◌==◌, ◌&&◌, ◌||◌, nat_lt, Bool, true, if◌then◌else◌, List, [], ◌∷◌, length}
use Rattle.m68_isa.specs.declared.instructions.Decoded68.{Decoded68}
use Rattle.m68_isa.specs.declared.instructions.Decoded68.TheVariants as Decoded
use Rattle.m68_isa.specs.declared.found.Found.{Found}
use Rattle.m68_isa.specs.declared.found.Found.TheVariants.{Made, Privileged, Illegal}
use Rattle.m68_isa.specs.First.{First, first_of}
use Rattle.m68_isa.specs.Rows.{Section, section, chosen, rows_in}
use Rattle.m68_isa.specs.Immediates.{rows_0_even, rows_0_odd}
use Rattle.m68_isa.specs.Moves.{rows_1, rows_2, rows_3}
use Rattle.m68_isa.specs.Miscellaneous.{rows_4_one, rows_4_8, rows_4_test, rows_4_control, rows_4_jump, rows_4_odd}
use Rattle.m68_isa.specs.Branches.{rows_5, rows_6, rows_7}
use Rattle.m68_isa.specs.Arithmetic.{rows_8, rows_9, rows_B, rows_C, rows_D}
use Rattle.m68_isa.specs.Shifts.{rows_E}

abbrev pub all : First → Bool
all f = true

-- line 0 by bit 8, line 4 by bits 11 to 6
abbrev pub table : List Section
table =
    section 0 (λ f. f.bit8 == 0) rows_0_even
    ∷ section 0 (λ f. f.bit8 == 1) rows_0_odd
    ∷ section 1 all rows_1
    ∷ section 2 all rows_2
    ∷ section 3 all rows_3
    ∷ section 4 (λ f. (f.bit8 == 0) && nat_lt f.upper 4) rows_4_one
    ∷ section 4 (λ f. (f.bit8 == 0) && (f.upper == 4)) rows_4_8
    ∷ section 4 (λ f. (f.bit8 == 0) && ((f.upper == 5) || (f.upper == 6))) rows_4_test
    ∷ section 4 (λ f. (f.bit8 == 0) && (f.upper == 7) && (f.size == 1)) rows_4_control
    ∷ section 4 (λ f. (f.bit8 == 0) && (f.upper == 7) && nat_lt 1 f.size) rows_4_jump
    ∷ section 4 (λ f. f.bit8 == 1) rows_4_odd
    ∷ section 5 all rows_5
    ∷ section 6 all rows_6
    ∷ section 7 all rows_7
    ∷ section 8 all rows_8
    ∷ section 9 all rows_9
    ∷ section 11 all rows_B
    ∷ section 12 all rows_C
    ∷ section 13 all rows_D
    ∷ section 14 all rows_E
    ∷ []

-- an instruction needs all its words first, and good index words then
abbrev pub ended : Found → ℕ → Decoded68
ended (Made i used good) count = if nat_lt count used then Decoded.Short else if good then Decoded.Op i used else Decoded.Illegal
ended Privileged count = Decoded.Privileged
ended Illegal count = Decoded.Illegal

-- what the first word's row makes of the words; the words of lines A and F need no further word
abbrev pub decoded : List ℕ → Decoded68
decoded [] = Decoded.Short
decoded (w ∷ ws) =
    let f = first_of w in
    if f.line == 10 then Decoded.LineA w else if f.line == 15 then Decoded.LineF else ended (chosen (rows_in table f) f (w ∷ ws)) (length (w ∷ ws))
