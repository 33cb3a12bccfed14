-- The names of instructions as a finite list (M68000 Family Programmer's Reference Manual, section 4).
use Rattle.std.specs.Prelude.{ℕ, List, [], ◌∷◌, ◌++◌, Bool, codes, map}
use Rattle.std.specs.List.{flat_map, list_any}
use Rattle.std.specs.Str.{bytes_eq}
use Rattle.mix_bits.specs.declared.size.Size.TheVariants.{One, Two, Four}
use Rattle.m68_text.specs.Names.{suffix, condition_name}

-- the names that come with each size, and those that come with a word or a long
unfoldable pub stems : List (List ℕ)
stems =
    codes "ori" ∷ codes "andi" ∷ codes "subi" ∷ codes "addi" ∷ codes "eori" ∷ codes "cmpi" ∷ codes "move" ∷ codes "negx"
    ∷ codes "clr" ∷ codes "neg" ∷ codes "not" ∷ codes "tst" ∷ codes "addq" ∷ codes "subq" ∷ codes "or" ∷ codes "sub"
    ∷ codes "subx" ∷ codes "cmp" ∷ codes "eor" ∷ codes "cmpm" ∷ codes "and" ∷ codes "add" ∷ codes "addx" ∷ codes "asl"
    ∷ codes "asr" ∷ codes "lsl" ∷ codes "lsr" ∷ codes "roxl" ∷ codes "roxr" ∷ codes "rol" ∷ codes "ror" ∷ []

unfoldable pub wide_stems : List (List ℕ)
wide_stems =
    codes "movep" ∷ codes "movea" ∷ codes "ext" ∷ codes "movem" ∷ codes "suba" ∷ codes "cmpa" ∷ codes "adda" ∷ []

-- the names without a size, or with one of their own
unfoldable pub plain_names : List (List ℕ)
plain_names =
    codes "ori" ∷ codes "andi" ∷ codes "eori" ∷ codes "btst" ∷ codes "bchg" ∷ codes "bclr" ∷ codes "bset" ∷ codes "move"
    ∷ codes "nbcd" ∷ codes "swap" ∷ codes "extb.l" ∷ codes "pea" ∷ codes "tas" ∷ codes "trap" ∷ codes "link" ∷ codes "link.l" ∷ codes "unlk" ∷ codes "nop"
    ∷ codes "rtd" ∷ codes "rts" ∷ codes "trapv" ∷ codes "rtr" ∷ codes "jsr" ∷ codes "jmp" ∷ codes "chk" ∷ codes "lea" ∷ codes "moveq"
    ∷ codes "divs" ∷ codes "divu" ∷ codes "divs.l" ∷ codes "divu.l" ∷ codes "sbcd" ∷ codes "muls" ∷ codes "mulu" ∷ codes "muls.l" ∷ codes "mulu.l" ∷ codes "abcd" ∷ codes "exg" ∷ codes "asl"
    ∷ codes "asr" ∷ codes "lsl" ∷ codes "lsr" ∷ codes "roxl" ∷ codes "roxr" ∷ codes "rol" ∷ codes "ror" ∷ []

-- all conditions, and those that a branch tests
unfoldable pub tested : List (List ℕ)
tested = map condition_name (2 ∷ 3 ∷ 4 ∷ 5 ∷ 6 ∷ 7 ∷ 8 ∷ 9 ∷ 10 ∷ 11 ∷ 12 ∷ 13 ∷ 14 ∷ 15 ∷ [])

unfoldable pub conditions : List (List ℕ)
conditions = condition_name 0 ∷ condition_name 1 ∷ tested

-- each beginning with each ending
abbrev pub each_with : List (List ℕ) → List (List ℕ) → List (List ℕ)
each_with beginnings endings = flat_map (λ b. map (λ e. b ++ e) endings) beginnings

-- the names that an instruction can have, and that of a word which is none
unfoldable pub names : List (List ℕ)
names =
    each_with stems (map suffix (One ∷ Two ∷ Four ∷ []))
    ++ (each_with wide_stems (map suffix (Two ∷ Four ∷ []))
    ++ (each_with (codes "s" ∷ codes "db" ∷ []) conditions
    ++ (each_with (codes "bra" ∷ codes "bsr" ∷ map (λ c. codes "b" ++ c) tested) (codes ".b" ∷ codes ".w" ∷ codes ".l" ∷ [])
    ++ (plain_names ++ (codes "dc.w" ∷ [])))))

abbrev pub is_name : List ℕ → Bool
is_name n = list_any (λ m. bytes_eq m n) names
