-- Where the areas of a fork lie.
use Rattle.std.specs.Prelude.{ℕ, ◌+◌, ◌≤◌}
use Rattle.mix_bits.specs.declared.file.TheConstants.{MOST_BYTES}
use Rattle.rsrc_fork.specs.declared.header.Areas.{Areas}

-- both areas lie in a file of this length, which is at most 16 MiB, and the map has its 28 bytes
pub record IsWithin (areas : Areas) (len : ℕ) : Type 0 where
  pub data_order : areas.data_start ≤ areas.data_end
  pub data_fits : areas.data_end ≤ len
  pub map_order : areas.map_start + 28 ≤ areas.map_end
  pub map_fits : areas.map_end ≤ len
  pub small : len ≤ MOST_BYTES
