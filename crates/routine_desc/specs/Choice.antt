-- Which record of a descriptor is taken; the choice among several is this project's own.
use Rattle.std.specs.Prelude.{ℕ, ◌==◌, if◌then◌else◌, List, [], ◌∷◌, filter, slice_get, Option, Some, None}
use Rattle.mix_bits.specs.declared.isa.Isa.{Isa}
use Rattle.mix_bits.specs.declared.isa.Isa.TheVariants.{Ppc}
use Rattle.mix_bits.specs.Isas.{is_isa}
use Rattle.routine_desc.specs.declared.record.Rec.{Rec}
use Rattle.routine_desc.specs.Layout.{has_flag}

-- the first list that has a record
abbrev pub first_of : List Rec → List Rec → List Rec
first_of [] others = others
first_of (r ∷ rs) others = r ∷ rs

-- the candidates: all records, or, with a selector, those with an equal one, or else the defaults
abbrev pub candidates : List Rec → Option ℕ → List Rec
candidates records None = records
candidates records (Some selector) =
    first_of (filter (λ r. r.selector == selector) records) (filter (λ r. has_flag r.flags 16) records)

-- the first of the first filter that leaves a record: the PowerPC candidates where the first candidate says so, those
-- of the caller's set, all
abbrev pub chosen_among : Isa → List Rec → Option Rec
chosen_among caller [] = None
chosen_among caller (r ∷ rs) =
    slice_get (first_of (if has_flag r.flags 4 then filter (λ c. is_isa c.isa Ppc) (r ∷ rs) else [])
    (first_of (filter (λ c. is_isa c.isa caller) (r ∷ rs)) (r ∷ rs))) 0

abbrev pub choice : List Rec → Isa → Option ℕ → Option Rec
choice records caller selector = chosen_among caller (candidates records selector)
