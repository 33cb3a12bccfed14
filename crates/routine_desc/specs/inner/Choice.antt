-- One scan over the records, and what is taken of it.
use Rattle.std.specs.Prelude.{ℕ, ◌==◌, Bool, true, false, if◌then◌else◌, List, filter, slice_get, Option, Some, None}
use Rattle.mix_bits.specs.declared.isa.Isa.{Isa}
use Rattle.mix_bits.specs.declared.isa.Isa.TheVariants.{Ppc}
use Rattle.mix_bits.specs.Isas.{is_isa}
use Rattle.routine_desc.specs.declared.record.Rec.{Rec}
use Rattle.routine_desc.specs.Layout.{has_flag}

abbrev pub has_selector : ℕ → Rec → Bool
has_selector selector r = r.selector == selector

abbrev pub is_default : Rec → Bool
is_default r = has_flag r.flags 16

abbrev pub head_of : List Rec → Option Rec
head_of rs = slice_get rs 0

-- every record matches where there is no selector
abbrev pub matches_selector : Option ℕ → Rec → Bool
matches_selector None r = true
matches_selector (Some selector) r = has_selector selector r

-- what is taken of one record: it has the selector, or else is a default
abbrev pub choice_of_one : Rec → Option ℕ → Option Rec
choice_of_one r selector = if matches_selector selector r then Some r else (if is_default r then Some r else None)

-- what one scan of a list keeps: its first record, the first of PowerPC code, and the first of the caller's set
pub record Found : Type 0 where
  pub first : Option Rec
  pub native : Option Rec
  pub own : Option Rec

abbrev pub found_of : Isa → List Rec → Found
found_of caller rs =
    record {
      first = head_of rs;
      native = head_of (filter (λ c. is_isa c.isa Ppc) rs);
      own = head_of (filter (λ c. is_isa c.isa caller) rs);
    }

-- the same of the records with an equal selector, or all where none is given, and of the defaults
pub record Scan : Type 0 where
  pub equal : Found
  pub fallback : Found

abbrev pub scan_of : Isa → Option ℕ → List Rec → Scan
scan_of caller selector rs =
    record {
      equal = found_of caller (filter (matches_selector selector) rs);
      fallback = found_of caller (filter is_default rs);
    }

-- a scan with one more record before the others, if it is one of those asked
abbrev pub found_before : Rec → Isa → Bool → Found → Found
found_before r caller false others = others
found_before r caller true others =
    record {
      first = Some r;
      native = if is_isa r.isa Ppc then Some r else others.native;
      own = if is_isa r.isa caller then Some r else others.own;
    }

-- what is taken of a scan
abbrev pub or_else : Option Rec → Option Rec → Option Rec
or_else None other = other
or_else (Some r) other = Some r

abbrev pub chosen_with : Option Rec → Found → Option Rec
chosen_with None found = None
chosen_with (Some r) found = or_else (if has_flag r.flags 4 then found.native else None) (or_else found.own (Some r))

abbrev pub chosen_of : Found → Option Rec
chosen_of found = chosen_with found.first found
