-- The forks of a BinHex file, or why it has none (RFC 1741, of BinHex 4.0).
use Rattle.std.specs.Prelude.{ℕ, ◌+◌, List, slice_range, Option, Some, None, Result, Ok, Err}
use Rattle.mix_bits.specs.Results.{◌>>=◌}
use Rattle.binhex.specs.Packing.{bytes_of}
use Rattle.binhex.specs.Parts.{data_length, data_start, refusal_of, resource_length, resource_start}
use Rattle.binhex.specs.Runs.{expanded}
use Rattle.binhex.specs.Text.{symbols_of, text_of}
use Rattle.binhex.specs.declared.error.BinHexError.{BinHexError}

pub record ForkBytes : Type 0 where
  pub data_fork : List ℕ
  pub resource_fork : List ℕ

abbrev pub forks_at : List ℕ → ForkBytes
forks_at bytes = record {
  data_fork = slice_range bytes (data_start bytes) (data_start bytes + data_length bytes);
  resource_fork = slice_range bytes (resource_start bytes) (resource_start bytes + resource_length bytes);
}

abbrev pub by_refusal : List ℕ → Option BinHexError → Result ForkBytes BinHexError
by_refusal bytes None = Ok (forks_at bytes)
by_refusal bytes (Some error) = Err error

-- the forks in the bytes for which a file stands
abbrev pub forks_in : List ℕ → Result ForkBytes BinHexError
forks_in bytes = by_refusal bytes (refusal_of bytes)

-- the forks of a file: of the bytes for which the packed bytes in its text stand
abbrev pub forks_of : List ℕ → Result ForkBytes BinHexError
forks_of file = text_of file >>= λ text. expanded (bytes_of (symbols_of text)) >>= forks_in
