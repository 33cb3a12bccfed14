-- What is loaded stands from the program's start on, and leaves the memory below it as it was.
use Rattle.std.proofs.Common.{◌≡◌, ◌∙◌, refl, ℕ, zero, suc, ◌+◌, ◌*◌, ◌≤◌, List, length, take, Option, Some, None, arith}
use Rattle.byteorder.specs.Endian.{big_bytes}
use Rattle.big_memory.specs.Lists.{put}
use Rattle.big_memory.proofs.Lists.{length-put}
use Rattle.rsrc_fork.specs.Resources.{Resource}
use Rattle.switch_frame.specs.Pieces.{Piece, puts}
use Rattle.mix_bits.specs.Multiples.{rounded_up}
use Rattle.mix_load.specs.Segments.{added_segment, jump_target, segment_at, segment_in, segment_pieces, segments_end, table_pieces, with_segment}
use Rattle.mix_load.proofs.Ends.{ends_grow}
use Rattle.mix_load.proofs.Placing.{take-put_behind}

added-length : (end : ℕ) (segment : Option (List ℕ)) (pieces : List Piece) (xs : List ℕ) → length (puts pieces xs) ≡ length xs → with_segment end segment ≤ length xs
    → length (puts (added_segment (rounded_up 16 end) segment pieces) xs) ≡ length xs
added-length end None pieces xs before within = before
added-length end (Some segment) pieces xs before within =
    length-put (rounded_up 16 end) segment (puts pieces xs) (omega (arith, before, within)) ∙ before

added-front : (end n : ℕ) (segment : Option (List ℕ)) (pieces : List Piece) (xs : List ℕ) → n ≤ end → length (puts pieces xs) ≡ length xs → with_segment end segment ≤ length xs
    → take n (puts (added_segment (rounded_up 16 end) segment pieces) xs) ≡ take n (puts pieces xs)
added-front end n None pieces xs behind before within = refl
added-front end n (Some segment) pieces xs behind before within =
    take-put_behind n (rounded_up 16 end) segment (puts pieces xs) (omega (arith, behind)) (omega (arith, before, within))

pub segments-length : (resources : List Resource) (start n : ℕ) (xs : List ℕ) → segments_end resources start n ≤ length xs → length (puts (segment_pieces resources start n) xs) ≡ length xs
segments-length resources start zero xs within = refl
segments-length resources start (suc n) xs within =
    added-length (segments_end resources start n) (segment_at resources n) (segment_pieces resources start n) xs
    (segments-length resources start n xs (omega (arith, ends_grow resources start n (suc n) (omega arith), within))) within

pub segments-front : (resources : List Resource) (start n front : ℕ) (xs : List ℕ) → front ≤ start → segments_end resources start n ≤ length xs
    → take front (puts (segment_pieces resources start n) xs) ≡ take front xs
segments-front resources start zero front xs behind within = refl
segments-front resources start (suc n) front xs behind within =
    let below : segments_end resources start n ≤ length xs = omega (arith, ends_grow resources start n (suc n) (omega arith), within) in
    added-front (segments_end resources start n) front (segment_at resources n) (segment_pieces resources start n) xs
    (omega (arith, ends_grow resources start 0 n (omega arith), behind)) (segments-length resources start n xs below) within
    ∙ segments-front resources start n front xs behind below

pub table-length : (places : List ℕ) (table : ℕ) (code0 : List ℕ) (n : ℕ) (xs : List ℕ) → table + 8 * n ≤ length xs → length (puts (table_pieces places table code0 n) xs) ≡ length xs
table-length places table code0 zero xs within = refl
table-length places table code0 (suc n) xs within =
    let pieces = puts (table_pieces places table code0 n) xs in
    let first = put (table + 8 * n) (big_bytes 4 (segment_in code0 n * 65536 + 0x4EF9)) pieces in
    let before : length pieces ≡ length xs = table-length places table code0 n xs (omega (arith, within)) in
    let one : length first ≡ length pieces = length-put (table + 8 * n) (big_bytes 4 (segment_in code0 n * 65536 + 0x4EF9)) pieces (omega (arith, before, within)) in
    length-put (table + 8 * n + 4) (big_bytes 4 (jump_target places code0 n)) first (omega (arith, one, before, within)) ∙ (one ∙ before)

pub table-front : (places : List ℕ) (table : ℕ) (code0 : List ℕ) (n front : ℕ) (xs : List ℕ) → front ≤ table → table + 8 * n ≤ length xs
    → take front (puts (table_pieces places table code0 n) xs) ≡ take front xs
table-front places table code0 zero front xs behind within = refl
table-front places table code0 (suc n) front xs behind within =
    let pieces = puts (table_pieces places table code0 n) xs in
    let first = put (table + 8 * n) (big_bytes 4 (segment_in code0 n * 65536 + 0x4EF9)) pieces in
    let before : length pieces ≡ length xs = table-length places table code0 n xs (omega (arith, within)) in
    let one : length first ≡ length pieces = length-put (table + 8 * n) (big_bytes 4 (segment_in code0 n * 65536 + 0x4EF9)) pieces (omega (arith, before, within)) in
    take-put_behind front (table + 8 * n + 4) (big_bytes 4 (jump_target places code0 n)) first (omega (arith, behind)) (omega (arith, one, before, within))
    ∙ (take-put_behind front (table + 8 * n) (big_bytes 4 (segment_in code0 n * 65536 + 0x4EF9)) pieces (omega (arith, behind)) (omega (arith, before, within))
    ∙ table-front places table code0 n front xs behind (omega (arith, within)))
