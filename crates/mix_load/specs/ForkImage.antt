-- A resource fork as a program in memory, or why it is refused.
use Rattle.std.specs.Prelude.{ℕ, pos, nat_lt, List, Option, Some, None, Result, Ok, Err, ◌+◌, false, not, is_some, option_map}
use Rattle.big_memory.specs.Memory.{Memory, floor_of}
use Rattle.mix_bits.specs.SearchOperator.{◌or◌}
use Rattle.mix_bits.specs.Search.{refused, least, any_below}
use Rattle.rsrc_fork.specs.declared.error.RsrcError.{RsrcError}
use Rattle.rsrc_fork.specs.Resources.{Resource}
use Rattle.rsrc_fork.specs.References.{resources_of}
use Rattle.mix_load.specs.declared.error.LoadError.{LoadError}
use Rattle.mix_load.specs.declared.error.LoadError.TheVariants.{NoCode, TooLarge, Rsrc, Far, JumpTable}
use Rattle.mix_load.specs.declared.header.CodeHeader.{CodeHeader}
use Rattle.mix_load.specs.declared.image.Image.{Image}
use Rattle.mix_bits.specs.Multiples.{rounded_up}
use Rattle.mix_load.specs.Pieces.{with_pieces, numbered}
use Rattle.mix_load.specs.Outcome.{unless}
use Rattle.mix_load.specs.Segments.{code_at, id_count, header_of, a5_of, segments_start, table_start, segments_end, segment_pieces, entry_count, table_pieces, segment_at, segment_place, is_far_code, is_short_code, has_table, entry_place, is_bad_entry}
use Rattle.std.specs.Option.{option_map_or}

-- an end that is, rounded up to 16, above the floor of the stack
abbrev pub too_large : ℕ → ℕ → Option LoadError
too_large floor end = refused (nat_lt floor (rounded_up 16 end)) (TooLarge end)

-- where the segments of the ids below a count end
abbrev pub fork_end : ℕ → List Resource → CodeHeader → ℕ
fork_end ids resources h = segments_end resources (segments_start h) ids

-- the first rule that a fork with this CODE 0 breaks
abbrev pub fork_refusal : ℕ → ℕ → List Resource → List ℕ → Option LoadError
fork_refusal ids floor resources code0 =
    refused (not (any_below (λ id. is_some (segment_at resources id)) ids)) (NoCode (pos 1))
    or option_map (λ id. Far (pos id)) (least (λ id. option_map_or is_far_code (segment_at resources id) false) ids)
    or refused (any_below (λ id. option_map_or is_short_code (segment_at resources id) false) ids) (JumpTable 0)
    or (refused (not (has_table code0)) (JumpTable 0)
    or option_map (λ i. JumpTable (entry_place i)) (least (is_bad_entry resources code0) (entry_count code0)))
    or too_large floor (fork_end ids resources (header_of code0))

-- the segments, and the jump table over the world of A5
abbrev pub fork_memory : ℕ → List Resource → List ℕ → Memory → Memory
fork_memory ids resources code0 m =
    let h = header_of code0 in
    let places = numbered (segment_place resources (segments_start h)) ids in
    with_pieces (table_pieces places (table_start h) code0 (entry_count code0)) (with_pieces (segment_pieces resources (segments_start h) ids) m)

abbrev pub fork_image : ℕ → List Resource → List ℕ → Image → Image
fork_image ids resources code0 image =
    record image {
      ram = fork_memory ids resources code0 image.ram;
      end = fork_end ids resources (header_of code0);
      entry = table_start (header_of code0) + 2;
      a5 = a5_of (header_of code0);
    }

abbrev pub with_codes : ℕ → List Resource → Option (List ℕ) → Image → Result Image LoadError
with_codes ids resources None image = Err (NoCode (pos 0))
with_codes ids resources (Some code0) image =
    unless (fork_refusal ids (floor_of image.ram) resources code0) (fork_image ids resources code0 image)

abbrev pub with_resources : ℕ → Result (List Resource) RsrcError → Image → Result Image LoadError
with_resources ids (Ok resources) image = with_codes ids resources (code_at resources 0) image
with_resources ids (Err e) image = Err (Rsrc e)

-- what a fork's file adds to what is loaded
unfoldable pub with_fork : List ℕ → Image → Result Image LoadError
with_fork bytes image = with_resources id_count (resources_of bytes) image
