-- Room for a fork that is not refused.
use Rattle.std.specs.Prelude.{ℕ, ◌+◌, ◌≤◌, List, pos, not, Option, option_map}
use Rattle.rsrc_fork.specs.Resources.{Resource}
use Rattle.mix_bits.specs.Multiples.{rounded_up}
use Rattle.mix_load.specs.JumpTable.{HasTable}
use Rattle.mix_load.specs.Segments.{header_of, a5_of, has_table, entry_count, entry_place, is_bad_entry}
use Rattle.mix_load.specs.SegmentsClauses.{is_segment, is_far, is_short}
use Rattle.mix_load.specs.ForkImage.{fork_end}
use Rattle.mix_bits.specs.SearchOperator.{◌or◌}
use Rattle.mix_bits.specs.Search.{refused, any_below, least}
use Rattle.mix_load.specs.declared.error.LoadError.{LoadError}
use Rattle.mix_load.specs.declared.error.LoadError.TheVariants.{NoCode, Far, JumpTable}

-- a fork that is not refused has its room
pub record HasRoom (ids floor : ℕ) (resources : List Resource) (code0 : List ℕ) : Type 0 where
  pub table : HasTable code0
  pub end_fits : rounded_up 16 (fork_end ids resources (header_of code0)) ≤ floor
  pub world_fits : a5_of (header_of code0) + (header_of code0).above ≤ floor

-- the segments' own refusals
abbrev pub segments_refusal : ℕ → List Resource → Option LoadError
segments_refusal ids resources =
    refused (not (any_below (is_segment resources) ids)) (NoCode (pos 1))
    or option_map (λ id. Far (pos id)) (least (is_far resources) ids)
    or refused (any_below (is_short resources) ids) (JumpTable 0)

abbrev pub table_refusal : List Resource → List ℕ → Option LoadError
table_refusal resources code0 =
    refused (not (has_table code0)) (JumpTable 0)
    or option_map (λ i. JumpTable (entry_place i)) (least (is_bad_entry resources code0) (entry_count code0))
