-- What is added to what is loaded leaves it whole.
use Rattle.std.proofs.Common.{◌≡◌, ap, ◌∙◌, refl, ℕ, ◌+◌, ◌*◌, ◌≤◌, Bool, true, false, nat_lt, Option, Some, None, IfSome, unwrap_or, slice_index_or, List, length, take, arith}
use Rattle.big_memory.specs.Lists.{put}
use Rattle.big_memory.specs.Memory.{Memory, floor_of, with_bytes}
use Rattle.big_memory.proofs.Lists.{length-put}
use Rattle.mix_bits.specs.declared.isa.Isa.{Isa}
use Rattle.rsrc_fork.specs.Resources.{Resource}
use Rattle.switch_frame.specs.Program.{program_start}
use Rattle.switch_frame.specs.Pieces.{puts}
use Rattle.mix_load.specs.declared.header.CodeHeader.{CodeHeader}
use Rattle.mix_load.specs.declared.image.Image.{Image}
use Rattle.mix_bits.specs.Multiples.{rounded_up}
use Rattle.mix_load.specs.Segments.{a5_of, entry_count, header_of, segment_pieces, segments_end, segments_start, table_pieces, table_start}
use Rattle.mix_load.specs.SegmentsClauses.{segment_places}
use Rattle.std.proofs.lemmas.Bool.Decides.{nat_tests}
use Rattle.mix_bits.specs.Search.{refused}
use Rattle.mix_load.specs.declared.error.LoadError.TheVariants.{TooLarge}
use Rattle.mix_load.specs.inner.ForkImage.{HasRoom}
use Rattle.mix_load.specs.ForkImage.{too_large, fork_end, fork_image}
use Rattle.mix_load.specs.Load.{flat_entry, flat_image}
use Rattle.mix_load.specs.inner.Loaded.{IsImage}
use Rattle.mix_load.proofs.Ends.{ends_grow}
use Rattle.mix_load.proofs.Images.{segments-front, segments-length, table-front, table-length}
use Rattle.mix_load.proofs.Placing.{take-put_behind}

-- the world of A5 is in front of the segments
pub world_within : (ids floor : ℕ) (resources : List Resource) (h : CodeHeader) → rounded_up 16 (fork_end ids resources h) ≤ floor → a5_of h + h.above ≤ floor
world_within ids floor resources h fits = omega (arith, ends_grow resources (segments_start h) 0 ids (omega arith), fits)

pub flat_whole : (main : Isa) (bytes : List ℕ) (image : Image) → rounded_up 16 (program_start + length bytes) ≤ floor_of image.ram → IsImage image → IsImage (flat_image main bytes image)
flat_whole main bytes image fits whole =
    let room : program_start + length bytes ≤ length image.ram.bytes = omega (arith, fits) in
    let len_is : length (put program_start bytes image.ram.bytes) ≡ length image.ram.bytes = length-put program_start bytes image.ram.bytes room in
    record {
      unguarded = whole.unguarded;
      front = λ n le. take-put_behind n program_start bytes image.ram.bytes le room ∙ whole.front n le;
      behind = omega arith;
      room = omega (arith, len_is, fits);
      vector = omega (arith, len_is, whole.vector);
    }

pub fork_whole : (ids : ℕ) (resources : List Resource) (code0 : List ℕ) (image : Image) → HasRoom ids (floor_of image.ram) resources code0 → IsImage image → IsImage (fork_image ids resources code0 image)
fork_whole ids resources code0 image room whole =
    let h = header_of code0 in
    let start = segments_start h in
    let count = entry_count code0 in
    let held = puts (segment_pieces resources start ids) image.ram.bytes in
    let places = segment_places resources start ids in
    let low : start ≤ segments_end resources start ids = ends_grow resources start 0 ids (omega arith) in
    let within : segments_end resources start ids ≤ length image.ram.bytes = omega (arith, room.end_fits) in
    let held_len : length held ≡ length image.ram.bytes = segments-length resources start ids image.ram.bytes within in
    let table_within : table_start h + 8 * count ≤ length held = omega (arith, held_len, room.world_fits, room.table.above) in
    let all_len : length (puts (table_pieces places (table_start h) code0 count) held) ≡ length held = table-length places (table_start h) code0 count held table_within in
    record {
      unguarded = whole.unguarded;
      front = λ n le. table-front places (table_start h) code0 count n held (omega (arith, le)) table_within
          ∙ (segments-front resources start ids n image.ram.bytes (omega (arith, le)) within ∙ whole.front n le);
      behind = omega (arith, low);
      room = omega (arith, all_len, held_len, room.end_fits);
      vector = omega (arith, all_len, held_len, whole.vector);
    }

pub added_whole : (old new : Image) → new.ram.marks ≡ old.ram.marks → ((n : ℕ) → n ≤ old.end → take n new.ram.bytes ≡ take n old.ram.bytes)
    → length new.ram.bytes ≡ length old.ram.bytes → old.end ≤ new.end → rounded_up 16 new.end ≤ floor_of old.ram → new.vector + 8 ≤ length old.ram.bytes → IsImage old → IsImage new
added_whole old new marks front len_is later fits vector whole = record {
  unguarded = λ unit. ap (λ (ms : List Bool). slice_index_or ms unit false) marks ∙ whole.unguarded unit;
  front = λ n le. front n (omega (arith, le, whole.behind)) ∙ whole.front n le;
  behind = omega (arith, later, whole.behind);
  room = omega (arith, fits, len_is);
  vector = omega (arith, vector, len_is);
}

pub not_too_large : (floor end : ℕ) → too_large floor end ≡ None → rounded_up 16 end ≤ floor
not_too_large floor end none = by (nat_lt floor (rounded_up 16 end)) refl none
  where
    by : (b : Bool) → nat_lt floor (rounded_up 16 end) ≡ b → refused b (TooLarge end) ≡ None → rounded_up 16 end ≤ floor
    by true q never = absurd (cc)
    by false q none = grind (arith, nat_tests)

abbrev flat_with : Image → Memory → ℕ → ℕ → Image
flat_with image ram end entry = record image { ram = ram; end = end; entry = entry }

pub flat-image-is : (main : Isa) (bytes : List ℕ) (image : Image) (ram : Memory) (end entry : ℕ) → ram ≡ with_bytes program_start bytes image.ram → end ≡ program_start + length bytes → entry ≡ flat_entry main
    → record { ram = ram; end = end; entry = entry; vector = image.vector; a5 = image.a5 } ≡ flat_image main bytes image
flat-image-is main bytes image ram end entry ram_is end_is entry_is =
    ap (λ (m : Memory). flat_with image m end entry) ram_is
    ∙ (ap (λ (e : ℕ). flat_with image (with_bytes program_start bytes image.ram) e entry) end_is
    ∙ ap (flat_with image (with_bytes program_start bytes image.ram) (program_start + length bytes)) entry_is)

pub vector-room : (vector : Option ℕ) (limit len : ℕ) → IfSome vector (λ (v : ℕ). v + 8 ≤ limit) → limit ≤ len → 8 ≤ len → unwrap_or vector 0 + 8 ≤ len
vector-room None limit len within le least = omega (arith, least)
vector-room (Some v) limit len within le least = omega (arith, within, le)
