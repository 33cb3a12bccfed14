-- No first word is in two rows: computed over the parts of all of them.
use Rattle.std.proofs.Common.{ℕ, ◌≡◌, ◌^◌, ◌<◌, ◌&&◌, Bool, true, nat_lt, refl}
use Rattle.std.proofs.lemmas.Bool.{ltb-true, and_parts}
use Rattle.m68_isa.specs.First.{First, first_of}
use Rattle.m68_isa.specs.Decode.{table}
use Rattle.m68_table.specs.laws.Laws.{sections_with, rows_with}
use Rattle.m68_table.proofs.Fields.{of_parts, at_word}

abbrev is_once : First → Bool
is_once f = nat_lt (sections_with table f) 2 && nat_lt (rows_with table f) 2

all_once : (u r : ℕ) → of_parts is_once u r ≡ true
all_once u r = refl

both : (w : ℕ) → (nat_lt (sections_with table (first_of w)) 2 ≡ true) × (nat_lt (rows_with table (first_of w)) 2 ≡ true)
both w = and_parts _ _ (at_word is_once w all_once)

pub one_section : (w : ℕ) → w < 2 ^ 16 → sections_with table (first_of w) < 2
one_section w below = ltb-true _ _ (both w).0

pub one_row : (w : ℕ) → w < 2 ^ 16 → rows_with table (first_of w) < 2
one_row w below = ltb-true _ _ (both w).1
