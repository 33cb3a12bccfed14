-- The part of an instruction's number that stands in the first of two words.
use Rattle.std.proofs.Common.{◌≡◌, ℕ, ◌/◌, ◌%◌, ◌<◌, ◌==◌, nat_le, ◌&&◌, Bool, true, false, if◌then◌else◌, List, [], ◌∷◌, arith, subst, sym}
use Rattle.pef_reloc.specs.declared.instruction.First.{First}
use Rattle.pef_reloc.specs.declared.instruction.First.TheVariants.{Two, NoRow}
use Rattle.pef_reloc.specs.declared.instruction.Large.{Large}
use Rattle.pef_reloc.specs.declared.instruction.Large.TheVariants.{LgBySection, LgSetSectC, LgSetSectD}
use Rattle.pef_reloc.specs.Rows.{Row, rows, first_by, first_of}

abbrev high_of : First → ℕ
high_of (Two large high) = high
high_of _ = 0

abbrev AreLow : ℕ → List Row → Type 0
AreLow word [] = Unit {0}
AreLow word (r ∷ rs) = (high_of (r.reads word) < 1024) × AreLow word rs

low_if : (has : Bool) (x y : First) → high_of x < 1024 → high_of y < 1024 → high_of (if has then x else y) < 1024
low_if true x y here after = here
low_if false x y here after = after

low_in : (rs : List Row) (word : ℕ) → AreLow word rs → high_of (first_by rs word) < 1024
low_in [] word all = omega arith
low_in (r ∷ rs) word all = low_if (nat_le r.from (word / 512) && nat_le (word / 512) r.to) (r.reads word) (first_by rs word) all.0 (low_in rs word all.1)

low_set : (a b c : Bool) (n : ℕ) → n < 1024 → high_of (if a then Two LgBySection n else (if b then Two LgSetSectC n else (if c then Two LgSetSectD n else NoRow))) < 1024
low_set true b c n low = low
low_set false true c n low = low
low_set false false true n low = low
low_set false false false n low = omega arith

rows_low : (word : ℕ) → AreLow word rows
rows_low word =
    let none : 0 < 1024 = omega arith in
    let low : word % 1024 < 1024 = omega arith in
    let last = low_set (word / 64 % 16 == 0) (word / 64 % 16 == 1) (word / 64 % 16 == 2) (word % 64) (omega arith) in
    (none, (none, (none, (none, (none, (none, (none, (none, (none, (none, (none, (none, (none, (low, (low, (last, tt))))))))))))))))

pub is_low : (word : ℕ) (large : Large) (high : ℕ) → Two large high ≡ first_of word → high < 1024
is_low word large high is = subst (λ f. high_of f < 1024) (sym is) (low_in rows word (rows_low word))
