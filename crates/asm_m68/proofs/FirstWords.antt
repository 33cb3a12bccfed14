-- An instruction's name and operands spell its first word: computed over the parts of all first words, whatever
-- words follow, but for the numbers of registers, which the operands have from the first word.
use Rattle.std.proofs.Common.{◌≡◌, ℕ, ◌+◌, ◌*◌, ◌/◌, ◌%◌, ◌<◌, ◌==◌, not, List, [], ◌∷◌, Bool, true, false, Option, Some, None, if◌then◌else◌, arith, refl, ap, subst}
use Rattle.std.proofs.lemmas.Bool.{eqb-true}
use Rattle.mix_bits.specs.laws.Names.{no_space}
use Rattle.mix_bits.specs.Digits.{digit_of}
use Rattle.mix_bits.proofs.Conditions.{both}
use Rattle.m68_isa.specs.declared.instructions.Instr68.{Instr68}
use Rattle.m68_isa.specs.declared.instructions.Instr68.TheVariants.{Bcc, BccLong, MulLong, DivLong}
use Rattle.m68_isa.specs.declared.found.Found.{Found}
use Rattle.m68_isa.specs.declared.found.Found.TheVariants.{Made, Privileged as RowPrivileged, Illegal as RowIllegal}
use Rattle.m68_isa.specs.declared.op.Op68.{Op68}
use Rattle.m68_isa.specs.First.{First, first_of}
use Rattle.m68_isa.specs.Made.{made}
use Rattle.m68_isa.specs.Operations.{operation}
use Rattle.m68_text.specs.declared.operand.Operand.{Operand}
use Rattle.m68_text.specs.declared.operand.Operand.TheVariants.{Data, Pair, Address, Indirect, PostIncrement, PreDecrement, Displaced, Indexed, ShortAddress, LongAddress, PcDisplaced, PcIndexed, Byte, Word, Long, Number, ConditionCodes, StatusRegister, Target}
use Rattle.m68_text.specs.Instructions.{name, operands}
use Rattle.asm_m68.specs.declared.form.Form.{Form}
use Rattle.asm_m68.specs.declared.form.Form.TheVariants.{Always, Chosen, Data as DataWord, Far, Near, Registers}
use Rattle.asm_m68.specs.declared.form.Place.{Place}
use Rattle.asm_m68.specs.declared.form.Place.TheVariants.{Both, First as FirstPlace, Nowhere, Second, UpperFirst, UpperSecond}
use Rattle.asm_m68.specs.laws.Table.{form_by, form_of, rows_a, rows_b, rows_c, rows_d, rows_e, rows_j, rows_l, rows_m, rows_n, rows_o, rows_p, rows_r, rows_s, rows_t, rows_u}
use Rattle.asm_m68.specs.laws.Spelling.{Ending, bits_of, ending, first_word, holds, placed}
use Rattle.asm_m68.specs.laws.Spelling.Ending.{Alone, Distance, Extended, Paired}
use Rattle.asm_m68.proofs.Digits.{negated}
use Rattle.asm_m68.proofs.Numbers.{AreFrom, IsFrom, Source, are_from, number, sources, told}
use Rattle.asm_m68.proofs.Numbers.Source.{Lower, Neither, Unknown, Upper}
use Rattle.asm_m68.proofs.Parts.{at_word, of_near, of_parts}

abbrev pub are_few : List Operand → Bool
are_few [] = true
are_few (o ∷ []) = true
are_few (o ∷ p ∷ []) = true
are_few (o ∷ p ∷ q ∷ []) = true
are_few (o ∷ p ∷ q ∷ r ∷ os) = false

-- a branch with its displacement in the first word
abbrev pub is_near : Instr68 → ℕ → Bool
is_near (Bcc condition disp) used = used == 1
is_near _ used = false

-- what follows on the first word of an instruction of so many words
abbrev pub ending_of : Instr68 → ℕ → Ending
ending_of (Bcc condition disp) used = if used == 1 then Alone else Extended
ending_of (BccLong condition disp) used = Distance
ending_of (MulLong signed wide by high low) used = Paired (if signed then 2048 else 0)
ending_of (DivLong signed wide by high low) used = Paired (if signed then 2048 else 0)
ending_of _ used = Extended

abbrev same_ending : Ending → Ending → Bool
same_ending Alone Alone = true
same_ending Distance Distance = true
same_ending (Paired r) (Paired s) = r == s
same_ending Extended Extended = true
same_ending _ _ = false

same_endings : (x y : Ending) → same_ending x y ≡ true → x ≡ y
same_endings Alone Alone h = refl
same_endings Alone Distance h = cc
same_endings Alone (Paired s) h = cc
same_endings Alone Extended h = cc
same_endings Distance Alone h = cc
same_endings Distance Distance h = refl
same_endings Distance (Paired s) h = cc
same_endings Distance Extended h = cc
same_endings (Paired r) Alone h = cc
same_endings (Paired r) Distance h = cc
same_endings (Paired r) (Paired s) h = ap Paired (eqb-true r s h)
same_endings (Paired r) Extended h = cc
same_endings Extended Alone h = cc
same_endings Extended Distance h = cc
same_endings Extended (Paired s) h = cc
same_endings Extended Extended h = refl

abbrev pub is_data_form : Form → Bool
is_data_form DataWord = true
is_data_form _ = false

abbrev pub is_near_form : Form → Bool
is_near_form (Near base) = true
is_near_form _ = false

-- the displacement in a first word
abbrev pub low_part : Form → ℕ → ℕ
low_part (Near base) w = w % 256
low_part _ w = 0

-- the form of an instruction's name, where it spells the first word
pub record Spells (i : Instr68) (used : ℕ) (ws : List ℕ) (at : ℕ) (w : ℕ) : Type 0 where
  pub clear : no_space (name i used) ≡ true
  pub few : are_few (operands i ws at) ≡ true
  pub form : Form
  pub named : form_of (name i used) ≡ Some form
  pub word : first_word form (told i ws at).first (told i ws at).second + low_part form w ≡ w
  pub ended : ending form ≡ ending_of i used
  pub is_instruction : is_data_form form ≡ false
  pub is_branch : is_near_form form ≡ true → is_near i used ≡ true

abbrev near_as : Bool → Bool → Bool
near_as form i = if form then i else true

-- the six bits of an operand but for its register's number
abbrev known : Operand → ℕ
known (Data n) = 0
known (Pair high low) = 0
known (Address n) = 8
known (Indirect n) = 16
known (PostIncrement n) = 24
known (PreDecrement n) = 32
known (Displaced n d) = 40
known (Indexed n i) = 48
known (ShortAddress a) = 56
known (LongAddress a) = 57
known (PcDisplaced d) = 58
known (PcIndexed i) = 59
known (Byte v) = v % 256
known (Word v) = 60
known (Long v) = 60
known (Number n) = n
known ConditionCodes = 60
known StatusRegister = 0
known (Target a) = 0

-- the two are its bits, their low three and the others
record IsSplit (o : Operand) : Type 0 where
  pub whole : bits_of o ≡ known o + number o
  pub low : bits_of o % 8 ≡ known o % 8 + number o % 8
  pub high : bits_of o / 8 ≡ known o / 8 + number o / 8

of_register : (k n : ℕ) (o : Operand) → bits_of o ≡ k * 8 + n → known o ≡ k * 8 → number o ≡ n → IsSplit o
of_register k n o bits is_known is_number = record { whole = omega (arith, bits, is_known, is_number); low = omega (arith, bits, is_known, is_number); high = omega (arith, bits, is_known, is_number) }

of_none : (k : ℕ) (o : Operand) → bits_of o ≡ k → known o ≡ k → number o ≡ 0 → IsSplit o
of_none k o bits is_known is_number = record { whole = omega (arith, bits, is_known, is_number); low = omega (arith, bits, is_known, is_number); high = omega (arith, bits, is_known, is_number) }

split : (o : Operand) → IsSplit o
split (Data n) = of_register 0 n (Data n) (omega arith) refl refl
split (Pair high low) = of_none 0 (Pair high low) refl refl refl
split (Address n) = of_register 1 n (Address n) refl refl refl
split (Indirect n) = of_register 2 n (Indirect n) refl refl refl
split (PostIncrement n) = of_register 3 n (PostIncrement n) refl refl refl
split (PreDecrement n) = of_register 4 n (PreDecrement n) refl refl refl
split (Displaced n d) = of_register 5 n (Displaced n d) refl refl refl
split (Indexed n i) = of_register 6 n (Indexed n i) refl refl refl
split (ShortAddress a) = of_none 56 (ShortAddress a) refl refl refl
split (LongAddress a) = of_none 57 (LongAddress a) refl refl refl
split (PcDisplaced d) = of_none 58 (PcDisplaced d) refl refl refl
split (PcIndexed i) = of_none 59 (PcIndexed i) refl refl refl
split (Byte v) = of_none (v % 256) (Byte v) refl refl refl
split (Word v) = of_none 60 (Word v) refl refl refl
split (Long v) = of_none 60 (Long v) refl refl refl
split (Number n) = of_none n (Number n) refl refl refl
split ConditionCodes = of_none 60 ConditionCodes refl refl refl
split StatusRegister = of_none 0 StatusRegister refl refl refl
split (Target a) = of_none 0 (Target a) refl refl refl

-- what operands at their places come to: what is known, and one of two values of theirs in bits 11 to 9 and in 2 to 0
abbrev place_known : Place → Operand → Operand → ℕ
place_known Nowhere o p = 0
place_known FirstPlace o p = known o
place_known Second o p = known p
place_known UpperFirst o p = known o % 8 * 512 + known p
place_known UpperSecond o p = known o + known p % 8 * 512
place_known Both o p = known o + known p % 8 * 512 + known p / 8 * 64

abbrev in_upper : {A : Type 0} → Place → A → A → A → A
in_upper UpperFirst none o p = o
in_upper UpperSecond none o p = p
in_upper Both none o p = p
in_upper _ none o p = none

abbrev in_lower : {A : Type 0} → Place → A → A → A → A
in_lower Nowhere none o p = none
in_lower FirstPlace none o p = o
in_lower Second none o p = p
in_lower UpperFirst none o p = p
in_lower UpperSecond none o p = o
in_lower Both none o p = o

placed_sum : (place : Place) (o p : Operand) → in_upper place 0 (number o) (number p) < 8 → placed place (bits_of o) (bits_of p) ≡ place_known place o p + in_upper place 0 (number o) (number p) * 512 + in_lower place 0 (number o) (number p)
placed_sum Nowhere o p below = refl
placed_sum FirstPlace o p below = omega (arith, (split o).whole)
placed_sum Second o p below = omega (arith, (split p).whole)
placed_sum UpperFirst o p below = omega (arith, below, (split o).low, (split p).whole)
placed_sum UpperSecond o p below = omega (arith, below, (split o).whole, (split p).low)
placed_sum Both o p below = omega (arith, below, (split o).whole, (split p).low, (split p).high)

-- the place and the word of a form with such operands
abbrev place_of : Form → Operand → Operand → Place
place_of DataWord o p = Nowhere
place_of (Always place base) o p = place
place_of (Near base) o p = Nowhere
place_of (Far base) o p = Nowhere
place_of (Registers base registers) o p = FirstPlace
place_of (Chosen choice place base other word) o p = if holds choice o p then place else other

abbrev base_of : Form → Operand → Operand → ℕ
base_of DataWord o p = 0
base_of (Always place base) o p = base
base_of (Near base) o p = base
base_of (Far base) o p = base
base_of (Registers base registers) o p = base
base_of (Chosen choice place base other word) o p = if holds choice o p then base else word

chosen_word : (b : Bool) (place other : Place) (base word o p : ℕ) → (if b then base + placed place o p else word + placed other o p) ≡ (if b then base else word) + placed (if b then place else other) o p
chosen_word true place other base word o p = refl
chosen_word false place other base word o p = refl

first_word_of : (form : Form) (o p : Operand) → first_word form o p ≡ base_of form o p + placed (place_of form o p) (bits_of o) (bits_of p)
first_word_of DataWord o p = refl
first_word_of (Always place base) o p = refl
first_word_of (Near base) o p = omega arith
first_word_of (Far base) o p = omega arith
first_word_of (Registers base registers) o p = refl
first_word_of (Chosen choice place base other word) o p = chosen_word (holds choice o p) place other base word (bits_of o) (bits_of p)

-- whether a register's number can be told to be in bits 11 to 9, or in bits 2 to 0; and the number where it is not
abbrev is_upper : Source → Bool
is_upper Upper = true
is_upper Lower = false
is_upper Neither = true
is_upper Unknown = false

abbrev is_lower : Source → Bool
is_lower Upper = false
is_lower Lower = true
is_lower Neither = true
is_lower Unknown = false

abbrev but : Source → ℕ → ℕ
but Neither n = n
but _ n = 0

upper_whole : (source : Source) (f : First) (n : ℕ) → is_upper source ≡ true → IsFrom source f n → but source f.upper + n ≡ f.upper
upper_whole Upper f n is same = omega (arith, same)
upper_whole Lower f n is same = cc
upper_whole Neither f n is same = omega (arith, same)
upper_whole Unknown f n is same = cc

lower_whole : (source : Source) (f : First) (n : ℕ) → is_lower source ≡ true → IsFrom source f n → but source f.lower + n ≡ f.lower
lower_whole Upper f n is same = cc
lower_whole Lower f n is same = omega (arith, same)
lower_whole Neither f n is same = omega (arith, same)
lower_whole Unknown f n is same = cc

upper_from : (place : Place) (s : Source × Source) (f : First) (m n : ℕ) → IsFrom s.0 f m → IsFrom s.1 f n → IsFrom (in_upper place Neither s.0 s.1) f (in_upper place 0 m n)
upper_from Nowhere s f m n first second = refl
upper_from FirstPlace s f m n first second = refl
upper_from Second s f m n first second = refl
upper_from UpperFirst s f m n first second = first
upper_from UpperSecond s f m n first second = second
upper_from Both s f m n first second = second

lower_from : (place : Place) (s : Source × Source) (f : First) (m n : ℕ) → IsFrom s.0 f m → IsFrom s.1 f n → IsFrom (in_lower place Neither s.0 s.1) f (in_lower place 0 m n)
lower_from Nowhere s f m n first second = refl
lower_from FirstPlace s f m n first second = first
lower_from Second s f m n first second = second
lower_from UpperFirst s f m n first second = second
lower_from UpperSecond s f m n first second = first
lower_from Both s f m n first second = first

abbrev whole : First → ℕ → ℕ → ℕ
whole f upper lower = f.line * 4096 + upper * 512 + f.bit8 * 256 + f.size * 64 + f.mode * 8 + lower

-- a form and operands at its places come to the first word, where their registers' numbers are those that they are
abbrev is_sum : Form → Operand → Operand → Source × Source → First → Bool
is_sum form o p s f =
    if is_upper (in_upper (place_of form o p) Neither s.0 s.1) then
    (if is_lower (in_lower (place_of form o p) Neither s.0 s.1) then
    base_of form o p + place_known (place_of form o p) o p
    == whole f (but (in_upper (place_of form o p) Neither s.0 s.1) f.upper) (but (in_lower (place_of form o p) Neither s.0 s.1) f.lower)
    else false) else false

-- or, with a displacement in its low byte, to its high byte
abbrev is_whole : Form → Operand → Operand → Source × Source → First → Bool
is_whole (Near base) o p s f = base == f.line * 4096 + f.upper * 512 + f.bit8 * 256
is_whole form o p s f = is_sum form o p s f

whole_word : (w : ℕ) → w < 65536 → whole (first_of w) (digit_of w 9 3) (digit_of w 0 3) ≡ w
whole_word w below = omega (arith, below)

sum_is : (form : Form) (o p : Operand) (s : Source × Source) (w : ℕ) → w < 65536 → IsFrom s.0 (first_of w) (number o) → IsFrom s.1 (first_of w) (number p) → is_sum form o p s (first_of w) ≡ true → first_word form o p + 0 ≡ w
sum_is form o p s w below first second is =
    let f = first_of w in
    let place = place_of form o p in
    let upper = in_upper place Neither s.0 s.1 in
    let lower = in_lower place Neither s.0 s.1 in
    let test : Bool = base_of form o p + place_known place o p == whole f (but upper f.upper) (but lower f.lower) in
    let upper_is = both (is_upper upper) (if is_lower lower then test else false) is in
    let lower_is = both (is_lower lower) test upper_is.1 in
    join (base_of form o p) (place_known place o p) (but upper f.upper) (but lower f.lower) (in_upper place 0 (number o) (number p)) (in_lower place 0 (number o) (number p)) (placed place (bits_of o) (bits_of p)) (first_word form o p)
    (first_word_of form o p) (placed_sum place o p) (eqb-true _ _ lower_is.1)
    (upper_whole upper f _ upper_is.0 (upper_from place s f _ _ first second)) (lower_whole lower f _ lower_is.0 (lower_from place s f _ _ first second))
  where
    join : (base k u r m n q v : ℕ) → v ≡ base + q → (m < 8 → q ≡ k + m * 512 + n) → base + k ≡ whole (first_of w) u r → u + m ≡ digit_of w 9 3 → r + n ≡ digit_of w 0 3 → v + 0 ≡ w
    join base k u r m n q v is_word is_placed is_all is_upper_whole is_lower_whole =
        let sum = is_placed (omega (arith, is_upper_whole)) in
        let all = whole_word w below in
        omega (arith, sum, all, is_word, is_all, is_upper_whole, is_lower_whole)

whole_is : (form : Form) (o p : Operand) (s : Source × Source) (w : ℕ) → w < 65536 → IsFrom s.0 (first_of w) (number o) → IsFrom s.1 (first_of w) (number p) → is_whole form o p s (first_of w) ≡ true → first_word form o p + low_part form w ≡ w
whole_is (Near base) o p s w below first second is = let same = eqb-true _ _ is in omega (arith, below, same)
whole_is DataWord o p s w below first second is = sum_is DataWord o p s w below first second is
whole_is (Always place base) o p s w below first second is = sum_is (Always place base) o p s w below first second is
whole_is (Far base) o p s w below first second is = sum_is (Far base) o p s w below first second is
whole_is (Registers base registers) o p s w below first second is = sum_is (Registers base registers) o p s w below first second is
whole_is (Chosen choice place base other word) o p s w below first second is = sum_is (Chosen choice place base other word) o p s w below first second is

abbrev by_form : Option Form → Instr68 → ℕ → List ℕ → ℕ → Source × Source → First → Bool
by_form None i used ws at s f = false
by_form (Some form) i used ws at s f =
    if is_whole form (told i ws at).first (told i ws at).second s f then
    (if same_ending (ending form) (ending_of i used) then
    (if not (is_data_form form) then near_as (is_near_form form) (is_near i used) else false) else false) else false

abbrev spells : Instr68 → ℕ → List ℕ → ℕ → Source × Source → First → Bool
spells i used ws at s f = if no_space (name i used) then (if are_few (operands i ws at) then by_form (form_of (name i used)) i used ws at s f else false) else false

abbrev each_way : (Bool → Bool → Bool) → Bool
each_way p = if p true true then (if p true false then (if p false true then p false false else false) else false) else false

-- the signs and widths of long products and quotients are in their second words
abbrev spells_each : Instr68 → ℕ → List ℕ → ℕ → Source × Source → First → Bool
spells_each (MulLong signed wide by high low) used ws at s f = each_way (λ g v. spells (MulLong g v by high low) used ws at s f)
spells_each (DivLong signed wide by high low) used ws at s f = each_way (λ g v. spells (DivLong g v by high low) used ws at s f)
spells_each i used ws at s f = spells i used ws at s f

abbrev found_spells : Found → List ℕ → ℕ → Source × Source → First → Bool
found_spells (Made i used good) ws at s f = spells_each i used ws at s f
found_spells RowPrivileged ws at s f = true
found_spells RowIllegal ws at s f = true

first_spells : List ℕ → ℕ → Op68 → First → Bool
first_spells ws at op f = found_spells (made op f ws) ws at (sources op f) f

all_spell : (ws : List ℕ) (at u r : ℕ) → of_parts (λ f. first_spells ws at (operation f) f) u r ≡ true
unfolding first_spells form_of form_by rows_a rows_b rows_c rows_d rows_e rows_j rows_l rows_m rows_n rows_o rows_p rows_r rows_s rows_t rows_u
all_spell ws at u r = refl

near_spell : (ws : List ℕ) (at s m r : ℕ) → of_near (first_spells ws at) s m r ≡ true
unfolding first_spells form_of form_by rows_a rows_b rows_c rows_d rows_e rows_j rows_l rows_m rows_n rows_o rows_p rows_r rows_s rows_t rows_u
near_spell ws at s m r = refl

implied : (form i : Bool) → near_as form i ≡ true → form ≡ true → i ≡ true
implied true i h is = h
implied false i h is = cc

-- what an instruction's operands have of the first word's registers
abbrev HaveNumbers : Instr68 → List ℕ → ℕ → Source × Source → First → Type 0
HaveNumbers i ws at s f = IsFrom s.0 f (number (told i ws at).first) × IsFrom s.1 f (number (told i ws at).second)

spells_by : (o : Option Form) (i : Instr68) (used : ℕ) (ws : List ℕ) (at w : ℕ) (s : Source × Source) → w < 65536 → HaveNumbers i ws at s (first_of w) → no_space (name i used) ≡ true → are_few (operands i ws at) ≡ true → form_of (name i used) ≡ o → by_form o i used ws at s (first_of w) ≡ true → Spells i used ws at w
spells_by None i used ws at w s below have clear few named h = cc
spells_by (Some form) i used ws at w s below have clear few named h =
    let o = (told i ws at).first in
    let p = (told i ws at).second in
    let rest : Bool = near_as (is_near_form form) (is_near i used) in
    let first = both (is_whole form o p s (first_of w)) (if same_ending (ending form) (ending_of i used) then (if not (is_data_form form) then rest else false) else false) h in
    let second = both (same_ending (ending form) (ending_of i used)) (if not (is_data_form form) then rest else false) first.1 in
    let third = both (not (is_data_form form)) rest second.1 in
    record {
      clear = clear;
      few = few;
      form = form;
      named = named;
      word = whole_is form o p s w below have.0 have.1 first.0;
      ended = same_endings (ending form) (ending_of i used) second.0;
      is_instruction = negated (is_data_form form) third.0;
      is_branch = implied (is_near_form form) (is_near i used) third.1;
    }

spelled_if : (i : Instr68) (used : ℕ) (ws : List ℕ) (at w : ℕ) (s : Source × Source) → w < 65536 → HaveNumbers i ws at s (first_of w) → spells i used ws at s (first_of w) ≡ true → Spells i used ws at w
spelled_if i used ws at w s below have h =
    let first = both (no_space (name i used)) (if are_few (operands i ws at) then by_form (form_of (name i used)) i used ws at s (first_of w) else false) h in
    let second = both (are_few (operands i ws at)) (by_form (form_of (name i used)) i used ws at s (first_of w)) first.1 in
    spells_by (form_of (name i used)) i used ws at w s below have first.0 second.0 refl second.1

one_way : (p : Bool → Bool → Bool) (s v : Bool) → each_way p ≡ true → p s v ≡ true
one_way p s v h =
    let first = both (p true true) (if p true false then (if p false true then p false false else false) else false) h in
    let second = both (p true false) (if p false true then p false false else false) first.1 in
    let third = both (p false true) (p false false) second.1 in
    pick s v first.0 second.0 third.0 third.1
  where
    pick : (s v : Bool) → p true true ≡ true → p true false ≡ true → p false true ≡ true → p false false ≡ true → p s v ≡ true
    pick true true a b c d = a
    pick true false a b c d = b
    pick false true a b c d = c
    pick false false a b c d = d

each_spelled : (i : Instr68) (used : ℕ) (ws : List ℕ) (at w : ℕ) (s : Source × Source) → w < 65536 → HaveNumbers i ws at s (first_of w) → spells_each i used ws at s (first_of w) ≡ true → Spells i used ws at w
each_spelled (MulLong signed wide by high low) used ws at w s below have h = spelled_if (MulLong signed wide by high low) used ws at w s below have (one_way (λ g v. spells (MulLong g v by high low) used ws at s (first_of w)) signed wide h)
each_spelled (DivLong signed wide by high low) used ws at w s below have h = spelled_if (DivLong signed wide by high low) used ws at w s below have (one_way (λ g v. spells (DivLong g v by high low) used ws at s (first_of w)) signed wide h)
each_spelled i used ws at w s below have h = spelled_if i used ws at w s below have h

found_spelled : (found : Found) (i : Instr68) (used : ℕ) (good : Bool) (ws : List ℕ) (at w : ℕ) (s : Source × Source) → w < 65536 → found ≡ Made i used good → AreFrom s found (first_of w) ws at → found_spells found ws at s (first_of w) ≡ true → Spells i used ws at w
found_spelled found i used good ws at w s below is have h =
    each_spelled i used ws at w s below (subst (λ made. AreFrom s made (first_of w) ws at) is have) (subst (λ made. found_spells made ws at s (first_of w) ≡ true) is h)

-- an instruction that a first word's row makes has a name and operands that spell the word
pub first_spelled : (w : ℕ) (ws : List ℕ) (at : ℕ) (i : Instr68) (used : ℕ) (good : Bool) → w < 65536 → made (operation (first_of w)) (first_of w) (w ∷ ws) ≡ Made i used good → Spells i used (w ∷ ws) at w
unfolding first_spells
first_spelled w ws at i used good below is =
    let f = first_of w in
    found_spelled (made (operation f) f (w ∷ ws)) i used good (w ∷ ws) at w (sources (operation f) f) below is
    (are_from at (w ∷ ws) f (omega arith) (omega arith) (operation f))
    (at_word (first_spells (w ∷ ws) at) w (all_spell (w ∷ ws) at) (near_spell (w ∷ ws) at))
