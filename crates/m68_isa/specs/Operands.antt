-- What the extension words of an operand say
-- (M68000 Family Programmer's Reference Manual, section 2.2). Words have their numbers in the
-- instruction, the first word 0; behind the last one stand zeros.
use Rattle.std.specs.Prelude.{ℕ, ◌+◌, ◌*◌, ◌%◌, ◌^◌, ◌==◌, List, Bool, true, if◌then◌else◌, slice_index}
use Rattle.mix_bits.specs.Digits.{digit_of}
use Rattle.mix_bits.specs.Sizes.{sign_extended}
use Rattle.mix_bits.specs.declared.size.Size.{Size}
use Rattle.mix_bits.specs.declared.size.Size.TheVariants.{Zero, One, Two, Four}
use Rattle.m68_isa.specs.declared.ea.Index.{Index}
use Rattle.m68_isa.specs.declared.ea.Ea.{Ea}
use Rattle.m68_isa.specs.declared.ea.Ea.TheVariants.{Dn, An, Ind, Post, Pre, Disp, Indexed, AbsWord, AbsLong, PcDisp, PcIndexed, Imm}
use Rattle.m68_isa.specs.declared.operand.Operand.{Operand}

abbrev pub extended_word : List ℕ → ℕ → ℕ
extended_word ws at = sign_extended (slice_index ws at) Two

abbrev pub long_at : List ℕ → ℕ → ℕ
long_at ws at = slice_index ws at * 65536 + slice_index ws (at + 1)

-- bits 10 and 9: what the index is multiplied by, as a power of two
abbrev pub scale_of : ℕ → ℕ
scale_of w = 2 ^ digit_of w 9 2

-- bit 15 address register, 14 to 12 its number, 11 long, low byte displacement
abbrev pub index_of : ℕ → Index
index_of w = record { reg = digit_of w 12 3; address = digit_of w 15 1 == 1; long = digit_of w 11 1 == 1; scale = scale_of w; disp = sign_extended w One }

-- bit 8 tells the full format, which takes further words and is none of these
abbrev pub is_index : ℕ → Bool
is_index w = digit_of w 8 1 == 0

abbrev pub immediate_words : Size → ℕ
immediate_words Zero = 0
immediate_words One = 1
immediate_words Two = 1
immediate_words Four = 2

abbrev pub immediate_at : List ℕ → ℕ → Size → ℕ
immediate_at ws at Zero = 0
immediate_at ws at One = slice_index ws at % 256
immediate_at ws at Two = slice_index ws at
immediate_at ws at Four = long_at ws at

abbrev pub plain : Ea → ℕ → Operand
plain ea next = record { ea = ea; next = next; good = true }

abbrev pub special_at : List ℕ → ℕ → Size → ℕ → Operand
special_at ws at s register =
    if register == 0 then plain (AbsWord (extended_word ws at)) (at + 1)
    else if register == 1 then plain (AbsLong (long_at ws at)) (at + 2)
    else if register == 2 then plain (PcDisp (2 * at) (extended_word ws at)) (at + 1)
    else if register == 3 then record { ea = PcIndexed (2 * at) (index_of (slice_index ws at)); next = at + 1; good = is_index (slice_index ws at) }
    else plain (Imm (immediate_at ws at s)) (at + immediate_words s)

-- the operand of a mode and register, whose extension words begin with word `at`
abbrev pub operand_at : List ℕ → ℕ → Size → ℕ → ℕ → Operand
operand_at ws at s mode register =
    if mode == 0 then plain (Dn register) at
    else if mode == 1 then plain (An register) at
    else if mode == 2 then plain (Ind register) at
    else if mode == 3 then plain (Post register) at
    else if mode == 4 then plain (Pre register) at
    else if mode == 5 then plain (Disp register (extended_word ws at)) (at + 1)
    else if mode == 6 then record { ea = Indexed register (index_of (slice_index ws at)); next = at + 1; good = is_index (slice_index ws at) }
    else special_at ws at s register
