-- Routine descriptors that stand in the bytes of a file (Inside Macintosh: PowerPC System Software, chapter 2).
--
-- A header has $AAFE, the version 7, a byte of flags, a long and a byte that are zero, a byte on selectors, and the index
-- of the last record, at most 63. A record has 20 bytes: the procInfo, a zero, the code of its set, its flags, the place
-- of the routine, a long that is zero, and a selector.
use Rattle.std.specs.Prelude.{ℕ, ◌+◌, ◌*◌, ◌==◌, ◌&&◌, nat_le, Bool, List, length, slice_index, is_ok, is_some}
use Rattle.mix_bits.specs.Fields.{word_at, long_at}
use Rattle.proc_info.specs.Signature.{signature_of}
use Rattle.routine_desc.specs.Layout.{are_good_flags, code_at, mixed_mode_magic}

-- where a record stands of the descriptor at a place
abbrev pub record_place : ℕ → ℕ → ℕ
record_place at k = at + 12 + 20 * k

abbrev pub is_header : List ℕ → ℕ → Bool
is_header bytes at =
    (word_at bytes at == mixed_mode_magic) && (slice_index bytes (at + 2) == 7) && (long_at bytes (at + 4) == 0)
    && (slice_index bytes (at + 8) == 0) && nat_le (word_at bytes (at + 10)) 63

abbrev pub is_record : List ℕ → ℕ → Bool
is_record bytes at =
    is_ok (signature_of (long_at bytes at)) && (slice_index bytes (at + 4) == 0) && is_some (code_at (slice_index bytes (at + 5)))
    && are_good_flags (word_at bytes (at + 6)) && (long_at bytes (at + 12) == 0)

-- a header with all its records behind it, the first of which is one
abbrev pub is_descriptor : List ℕ → ℕ → Bool
is_descriptor bytes at =
    is_header bytes at && nat_le (record_place at (word_at bytes (at + 10) + 1)) (length bytes) && is_record bytes (at + 12)
