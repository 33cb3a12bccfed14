-- A file whose text stands for a header, two forks and their check sums gives the forks back.
use Rattle.std.specs.Prelude.{◌≡◌, ◌≤◌, ℕ, ◌++◌, List, length, Ok}
use Rattle.mix_bits.specs.Fields.{word_at}
use Rattle.crc16.specs.Checksum.{checksum_of}
use Rattle.binhex.specs.Forks.{forks_of}
use Rattle.binhex.specs.Packing.{bytes_of}
use Rattle.binhex.specs.Parts.{data_length, header_length, resource_length}
use Rattle.binhex.specs.Runs.{most}
use Rattle.binhex.specs.Text.{symbols_of, text_of}
use Rattle.binhex.specs.laws.Packed.{Packed}

-- a word that is the check sum of bytes
pub record IsSum (bytes sum : List ℕ) : Type 0 where
  pub long : length sum ≡ 2
  pub right : word_at sum 0 ≡ checksum_of bytes

pub record IsBinHexFile (file text whole header header_sum data_fork data_sum resource_fork resource_sum rest : List ℕ) : Type 0 where
  pub read : text_of file ≡ Ok text
  pub packed : Packed whole (bytes_of (symbols_of text))
  pub few : length whole ≤ most
  pub laid : whole ≡ header ++ (header_sum ++ (data_fork ++ (data_sum ++ (resource_fork ++ (resource_sum ++ rest)))))
  pub header_long : length header ≡ header_length whole
  pub data_named : length data_fork ≡ data_length whole
  pub resource_named : length resource_fork ≡ resource_length whole
  pub header_summed : IsSum header header_sum
  pub data_summed : IsSum data_fork data_sum
  pub resource_summed : IsSum resource_fork resource_sum

abbrev pub GivesForksBack : Type 0
GivesForksBack =
    (file text whole header header_sum data_fork data_sum resource_fork resource_sum rest : List ℕ)
    → IsBinHexFile file text whole header header_sum data_fork data_sum resource_fork resource_sum rest
    → forks_of file ≡ Ok (record {
      data_fork = data_fork;
      resource_fork = resource_fork;
    })
