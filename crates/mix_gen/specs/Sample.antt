-- The sample image: 68K and PowerPC code that call each other, this project's own (the instructions as in the M68000 Family
-- Programmer's Reference Manual and the PowerPC 601 RISC Microprocessor User's Manual; the routine descriptor and the
-- transition vector as in Inside Macintosh: PowerPC System Software).
use Rattle.std.specs.Prelude.{ℕ, List, [], ◌∷◌, ◌++◌, Some, None, replicate}
use Rattle.std.specs.List.{flat_map}
use Rattle.byteorder.specs.Endian.{big_bytes}
use Rattle.big_memory.specs.Numbers.{bytes_of_longs}
use Rattle.switch_frame.specs.Pieces.{piece, puts}
use Rattle.mix_load.specs.declared.files.Files.{Files}

-- big-endian words
abbrev pub words : List ℕ → List ℕ
words ws = flat_map (big_bytes 2) ws

-- the main part, in 68K code: it calls the routine so many times, each with this depth, and adds the results
abbrev pub main_part : ℕ → ℕ → List ℕ
main_part n depth =
    words (0x2C3C ∷ []) ++ bytes_of_longs (n ∷ []) ++ words (0x7A00 ∷ 0x2F3C ∷ []) ++ bytes_of_longs (depth ∷ [])
    ++ words (0x4EB9 ∷ 0x0001 ∷ 0x0080 ∷ 0x588F ∷ 0xDA80 ∷ 0x5386 ∷ 0x66EC ∷ 0x2005 ∷ 0xAA85 ∷ [])

-- the routine's 68K half: 1 at depth 1, else one more than the routine gives for one less
abbrev pub half_m68 : List ℕ
half_m68 =
    words (0x202F ∷ 0x0004 ∷ 0x5380 ∷ 0x670E ∷ 0x2F00 ∷ 0x4EB9 ∷ 0x0001 ∷ 0x0080 ∷ 0x588F ∷ 0x5280 ∷ 0x4E75 ∷ 0x7001 ∷ 0x4E75 ∷ [])

-- the routine descriptor of its PowerPC half, and the half's transition vector
abbrev pub descriptor : List ℕ
descriptor = bytes_of_longs (0xAAFE0700 ∷ 0x00000000 ∷ 0x00000000 ∷ 0x000000F1 ∷ 0x00010000 ∷ 0x000100A0 ∷ 0x00000000 ∷ 0x00000000 ∷ [])

abbrev pub vector : List ℕ
vector = bytes_of_longs (0x000100A8 ∷ 0x00000000 ∷ [])

-- the PowerPC half: 1 at depth 1, else one more than the 68K half gives through CallUniversalProc
abbrev pub half_ppc : List ℕ
half_ppc =
    bytes_of_longs (0x3463FFFF ∷ 0x4082000C ∷ 0x38600001 ∷ 0x4E800020 ∷ 0x7C0802A6 ∷ 0x90010008 ∷ 0x9421FFC0 ∷ 0x7C651B78
    ∷ 0x3C600001 ∷ 0x60630020 ∷ 0x388000F1 ∷ 0x4800180F ∷ 0x38630001 ∷ 0x38210040 ∷ 0x80010008 ∷ 0x7C0803A6 ∷ 0x4E800020 ∷ [])

-- how many bytes the image has
abbrev pub sample_bytes : ℕ
sample_bytes = 236

-- the parts in their places, with zeros between them
unfoldable pub sample_image : ℕ → ℕ → List ℕ
sample_image n depth =
    puts (piece 0x00 (main_part n depth) ∷ piece 0x20 half_m68 ∷ piece 0x80 descriptor ∷ piece 0xA0 vector ∷ piece 0xA8 half_ppc ∷ [])
    (replicate sample_bytes 0)

-- a flat file alone
abbrev pub sample_files : ℕ → ℕ → Files
sample_files n depth = record { flat = Some (sample_image n depth); rsrc = None; pef = None }
