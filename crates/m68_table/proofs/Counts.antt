-- How many first words have a row, and how many are the supervisor's: computed over their parts.
use Rattle.std.proofs.Common.{ℕ, ◌≡◌, nat_lt, Bool, true, false, List, [], ◌∷◌, length, if◌then◌else◌, refl, ◌∙◌}
use Rattle.m68_isa.specs.declared.instructions.Decoded68.{Decoded68}
use Rattle.m68_isa.specs.declared.instructions.Decoded68.TheVariants.{Op, Short, Illegal}
use Rattle.m68_isa.specs.declared.found.Found.{Found}
use Rattle.m68_isa.specs.declared.found.Found.TheVariants.{Made, Privileged as RowPrivileged, Illegal as RowIllegal}
use Rattle.m68_isa.specs.declared.op.Op68.{Op68}
use Rattle.m68_isa.specs.declared.op.Op68.TheVariants.{LineA, LineF, Privileged}
use Rattle.m68_isa.specs.First.{First, first_of}
use Rattle.m68_isa.specs.Made.{made}
use Rattle.m68_isa.proofs.ByOperation.{by_operation}
use Rattle.m68_table.specs.laws.Laws.{rows_with, how_many, is_privileged}
use Rattle.m68_isa.specs.Decode.{table, decoded, ended}
use Rattle.m68_isa.specs.Operations.{operation, read}
use Rattle.m68_table.proofs.Fields.{of_parts}
use Rattle.m68_table.proofs.Totals.{is_same, counted, count_is}

abbrev has_row : First → Bool
has_row f = nat_lt 0 (rows_with table f)

rows_same : (u r : ℕ) → of_parts (is_same has_row) u r ≡ true
rows_same u r = refl

rows : counted has_row ≡ 45939
rows = refl

pub in_a_row : how_many 16 0 (λ w. nat_lt 0 (rows_with table (first_of w))) ≡ 45939
in_a_row = count_is has_row rows_same ∙ rows

-- the supervisor's operation
abbrev is_refused : Op68 → Bool
is_refused Privileged = true
is_refused op = false

either : (b : Bool) (x y : Decoded68) → is_privileged x ≡ false → is_privileged y ≡ false → is_privileged (if b then x else y) ≡ false
either true x y first second = first
either false x y first second = second

abbrev is_found_refused : Found → Bool
is_found_refused (Made i used good) = false
is_found_refused RowPrivileged = true
is_found_refused RowIllegal = false

in_ended : (found : Found) (count : ℕ) → is_privileged (ended found count) ≡ is_found_refused found
in_ended (Made i used good) count = either (nat_lt count used) Short _ refl (either good (Op i used) Illegal refl refl)
in_ended RowPrivileged count = refl
in_ended RowIllegal count = refl

in_read : (op : Op68) (f : First) (ws : List ℕ) → is_privileged (read op f ws) ≡ is_refused op
in_read LineA f ws = refl
in_read LineF f ws = refl
in_read op f ws = in_ended (made op f ws) (length ws)

refused_same : (u r : ℕ) → of_parts (is_same (λ f. is_refused (operation f))) u r ≡ true
refused_same u r = refl

refused : counted (λ f. is_refused (operation f)) ≡ 75
refused = refl

pub privileged : how_many 16 0 (λ w. is_privileged (decoded (w ∷ []))) ≡ 75
privileged =
    (λ i. how_many 16 0 (λ w. is_privileged (by_operation w [] i)))
    ∙ (λ i. how_many 16 0 (λ w. in_read (operation (first_of w)) (first_of w) (w ∷ []) i))
    ∙ count_is (λ f. is_refused (operation f)) refused_same ∙ refused
