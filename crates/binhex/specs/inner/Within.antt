-- That the parts of a file lie within its bytes.
use Rattle.std.specs.Prelude.{◌≡◌, ℕ, ◌+◌, ◌≤◌, List, length}
use Rattle.binhex.specs.Parts.{data_length, data_start, header_length, resource_length, resource_start}
use Rattle.binhex.specs.declared.expanded.Place.{Place}

pub record Within (bytes : List ℕ) : Type 0 where
  pub header_fits : header_length bytes ≤ length bytes
  pub data_fits : data_start bytes + data_length bytes ≤ length bytes
  pub resource_fits : resource_start bytes + resource_length bytes ≤ length bytes

-- the places of both forks
pub record AreForks (bytes : List ℕ) (data_place resource_place : Place) : Type 0 where
  pub within : Within bytes
  pub data_starts : data_place.start ≡ data_start bytes
  pub data_long : data_place.length ≡ data_length bytes
  pub resource_starts : resource_place.start ≡ resource_start bytes
  pub resource_long : resource_place.length ≡ resource_length bytes
