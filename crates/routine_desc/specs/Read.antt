-- What a descriptor says, or the first rule that it breaks.
use Rattle.std.specs.Prelude.{ℕ, zero, suc, ◌+◌, ◌*◌, ◌/◌, ◌%◌, ◌==◌, Bool, true, ◌&&◌, if◌then◌else◌, List, [], ◌∷◌, ◌++◌, Result, Ok, Err}
use Rattle.std.specs.List.{list_all}
use Rattle.std.specs.Option.{option_map_or}
use Rattle.std.specs.Result.{result_map_both, result_unwrap_or}
use Rattle.mix_bits.specs.Results.{◌>>=◌}
use Rattle.big_memory.specs.Memory.{Memory}
use Rattle.big_memory.specs.Numbers.{number_at}
use Rattle.proc_info.specs.Codes.{conv_at, is_dispatched}
use Rattle.proc_info.specs.Signature.{signature_of}
use Rattle.proc_info.specs.declared.conv.Conv.TheVariants.{Pascal}
use Rattle.routine_desc.specs.declared.record.Rec.{Rec}
use Rattle.routine_desc.specs.declared.record.BadDesc.{BadDesc}
use Rattle.routine_desc.specs.declared.record.BadDesc.TheVariants.{Info, Mixed}
use Rattle.routine_desc.specs.Layout.{bad_header, bad_record, record_at}

-- the record, if its procInfo has a signature, or the first rule that it breaks
unfoldable pub read_record : Memory → ℕ → ℕ → Result Rec BadDesc
read_record m a p =
    option_map_or Err (bad_record m p) (result_map_both (λ sig. record_at m a p) Info (signature_of (number_at p 4 m.bytes)))

-- the first k records, of 20 bytes each
unfoldable pub first_records : Memory → ℕ → ℕ → Result (List Rec) BadDesc
first_records m a zero = Ok []
first_records m a (suc k) = first_records m a k >>= λ rs. read_record m a (a + 12 + 20 * k) >>= λ r. Ok (rs ++ r ∷ [])

-- the records are called alike: in one convention, and with one procInfo, or, where it is dispatched, one selector size
abbrev pub is_alike : ℕ → ℕ → Bool
is_alike info other =
    (info % 16 == other % 16) &&
    (if is_dispatched (result_unwrap_or (conv_at (info % 16)) Pascal) then info / 64 % 4 == other / 64 % 4 else info == other)

abbrev pub all_alike : List Rec → Bool
all_alike [] = true
all_alike (r ∷ rs) = list_all (λ other. is_alike r.info other.info) rs

-- the records of the descriptor at an address
abbrev pub body_of : Memory → ℕ → Result (List Rec) BadDesc
body_of m a = first_records m a (number_at (a + 10) 2 m.bytes + 1) >>= λ rs. if all_alike rs then Ok rs else Err Mixed

abbrev pub desc_of : Memory → ℕ → Result (List Rec) BadDesc
desc_of m a = option_map_or Err (bad_header m a) (body_of m a)
