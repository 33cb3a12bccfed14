-- Each operand is in the class of its row, and each size one of its row: computed over the parts of all first
-- words, whatever words follow.
use Rattle.std.proofs.Common.{ℕ, ◌≡◌, ◌^◌, ◌<◌, ◌&&◌, nat_lt, Bool, true, false, if◌then◌else◌, List, ◌∷◌, length, refl, sym, ap, ◌∙◌}
use Rattle.std.proofs.lemmas.Bool.{and_parts}
use Rattle.m68_isa.specs.declared.instructions.Instr68.{Instr68}
use Rattle.m68_isa.specs.declared.instructions.Decoded68.{Decoded68}
use Rattle.m68_isa.specs.declared.instructions.Decoded68.TheVariants.{Op, LineA, LineF, Privileged, Illegal, Short}
use Rattle.m68_isa.specs.declared.found.Found.{Found}
use Rattle.m68_isa.specs.declared.found.Found.TheVariants.{Made, Privileged as RowPrivileged, Illegal as RowIllegal}
use Rattle.m68_isa.specs.declared.op.Op68.{Op68}
use Rattle.m68_isa.specs.declared.op.Op68.TheVariants.{LineA as OpLineA, LineF as OpLineF}
use Rattle.m68_isa.specs.First.{First, first_of}
use Rattle.m68_isa.specs.Made.{made}
use Rattle.m68_isa.specs.Decode.{decoded, ended}
use Rattle.m68_isa.specs.Operations.{operation, read}
use Rattle.m68_isa.specs.laws.Modes.{has_modes}
use Rattle.m68_isa.specs.laws.Widths.{has_size}
use Rattle.m68_isa.proofs.ByOperation.{by_operation}
use Rattle.m68_table.proofs.Fields.{of_parts, at_word}

abbrev is_good : Instr68 → Bool
is_good i = has_size i && has_modes i

abbrev is_found_good : Found → Bool
is_found_good (Made i used good) = is_good i
is_found_good RowPrivileged = true
is_found_good RowIllegal = true

abbrev is_decoded_good : Decoded68 → Bool
is_decoded_good (Op i used) = is_good i
is_decoded_good (LineA w) = true
is_decoded_good LineF = true
is_decoded_good Privileged = true
is_decoded_good Illegal = true
is_decoded_good Short = true

-- what a first word's row makes of any words
abbrev is_first_good : List ℕ → First → Bool
is_first_good ws f = is_found_good (made (operation f) f ws)

all_good : (ws : List ℕ) (u r : ℕ) → of_parts (is_first_good ws) u r ≡ true
all_good ws u r = refl

either : (b : Bool) (x y : Decoded68) → is_decoded_good x ≡ true → is_decoded_good y ≡ true → is_decoded_good (if b then x else y) ≡ true
either true x y first second = first
either false x y first second = second

in_ended : (found : Found) (count : ℕ) → is_found_good found ≡ true → is_decoded_good (ended found count) ≡ true
in_ended (Made i used good) count is = either (nat_lt count used) Short _ refl (either good (Op i used) Illegal is refl)
in_ended RowPrivileged count is = refl
in_ended RowIllegal count is = refl

in_read : (op : Op68) (f : First) (ws : List ℕ) → is_found_good (made op f ws) ≡ true → is_decoded_good (read op f ws) ≡ true
in_read OpLineA f ws is = refl
in_read OpLineF f ws is = refl
in_read op f ws is = in_ended (made op f ws) (length ws) is

in_decoded : (w : ℕ) (ws : List ℕ) → is_decoded_good (decoded (w ∷ ws)) ≡ true
in_decoded w ws =
    let f = first_of w in
    ap is_decoded_good (by_operation w ws) ∙ in_read (operation f) f (w ∷ ws) (at_word (is_first_good (w ∷ ws)) w (all_good (w ∷ ws)))

good : (w : ℕ) (ws : List ℕ) (i : Instr68) (used : ℕ) → w < 2 ^ 16 → decoded (w ∷ ws) ≡ Op i used → is_good i ≡ true
good w ws i used below is = sym (ap is_decoded_good is) ∙ in_decoded w ws

pub modes : (w : ℕ) (ws : List ℕ) (i : Instr68) (used : ℕ) → w < 2 ^ 16 → decoded (w ∷ ws) ≡ Op i used → has_modes i ≡ true
modes w ws i used below is = (and_parts (has_size i) (has_modes i) (good w ws i used below is)).1

pub sizes : (w : ℕ) (ws : List ℕ) (i : Instr68) (used : ℕ) → w < 2 ^ 16 → decoded (w ∷ ws) ≡ Op i used → has_size i ≡ true
sizes w ws i used below is = (and_parts (has_size i) (has_modes i) (good w ws i used below is)).0
