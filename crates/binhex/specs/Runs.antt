-- Bytes for which packed ones stand, where runs of equal ones are packed (RFC 1741, of BinHex 4.0).
--
-- A byte stands for itself, but $90 is a mark: behind it stands a length. The byte before the mark is the first of a run
-- of so many equal bytes in all; the length 0 stands for the byte $90.
use Rattle.std.specs.Prelude.{ℕ, zero, suc, ◌+◌, ◌-◌, ◌==◌, ◌++◌, nat_lt, Bool, true, false, if◌then◌else◌, List, [], length, replicate, slice_index, Option, Some, None, Result, Ok, Err}
use Rattle.std.specs.List.{slice_get}
use Rattle.mix_bits.specs.Results.{◌>>=◌}
use Rattle.binhex.specs.declared.error.BinHexError.{BinHexError}
use Rattle.binhex.specs.declared.error.BinHexError.TheVariants.{Run, Long}

-- the bytes so far, and whether a mark stands before the next one
pub record Expanding : Type 0 where
  pub bytes : List ℕ
  pub marked : Bool

-- how many bytes there may be: this program's own limit
abbrev pub most : ℕ
most = 0x2000000

-- bytes with so many equal ones behind them
abbrev pub with_equal : List ℕ → ℕ → ℕ → Result (List ℕ) BinHexError
with_equal bytes byte count =
    if nat_lt most (length bytes + count) then Err Long else Ok (bytes ++ replicate count byte)

abbrev pub run_of : List ℕ → Option ℕ → ℕ → Result (List ℕ) BinHexError
run_of bytes (Some last) count = with_equal bytes last (count - 1)
run_of bytes None count = Err Run

-- bytes with the rest of a run of so many, the first of which is the last so far
abbrev pub with_run : List ℕ → ℕ → Result (List ℕ) BinHexError
with_run bytes count =
    if count == 0 then with_equal bytes 0x90 1 else run_of bytes (slice_get bytes (length bytes - 1)) count

abbrev pub unmarked : List ℕ → Result Expanding BinHexError
unmarked bytes = Ok (record {
  bytes = bytes;
  marked = false;
})

-- one packed byte more
abbrev pub taken : Expanding → ℕ → Result Expanding BinHexError
taken so byte =
    if so.marked then (with_run so.bytes byte >>= unmarked)
    else (if byte == 0x90 then Ok (record so { marked = true }) else (with_equal so.bytes byte 1 >>= unmarked))

-- the first packed bytes, so many
abbrev pub taken_below : List ℕ → ℕ → Result Expanding BinHexError
taken_below packed zero = unmarked []
taken_below packed (suc k) = taken_below packed k >>= λ so. taken so (slice_index packed k)

-- no mark is the last
abbrev pub finished : Expanding → Result (List ℕ) BinHexError
finished so = if so.marked then Err Run else Ok so.bytes

abbrev pub expanded : List ℕ → Result (List ℕ) BinHexError
expanded packed = taken_below packed (length packed) >>= finished
