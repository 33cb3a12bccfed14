-- What operations make tells the words, by their shapes.
use Rattle.std.proofs.Common.{◌≡◌, ℕ, zero, suc, ◌+◌, ◌-◌, ◌*◌, ◌%◌, ◌<◌, ◌==◌, ◌&&◌, ◌||◌, not, nat_lt, List, [], ◌∷◌, map, slice_index, Bool, true, false, if◌then◌else◌, arith, refl, sym, ap, subst, ◌∙◌}
use Rattle.std.proofs.lemmas.Bool.{and_parts, eqb-true, ltb-true}
use Rattle.mix_bits.specs.Digits.{digit_of}
use Rattle.mix_bits.specs.laws.Ranges.{every}
use Rattle.mix_bits.specs.Sizes.{sign_extended}
use Rattle.mix_bits.specs.declared.size.Size.{Size}
use Rattle.mix_bits.specs.declared.size.Size.TheVariants.{One, Two, Four}
use Rattle.mix_bits.proofs.Conditions.{both}
use Rattle.mix_bits.proofs.Every.{every_at}
use Rattle.m68_isa.specs.Classes.Class.{Data as DataClass, DataAlterable}
use Rattle.m68_isa.specs.declared.ea.Ea.{Ea}
use Rattle.m68_isa.specs.First.{First}
use Rattle.m68_isa.specs.declared.found.Found.TheVariants.{Made}
use Rattle.m68_isa.specs.declared.instructions.Exchange.{Exchange}
use Rattle.m68_isa.specs.declared.instructions.Exchange.TheVariants.{Data as ExchangeData, Address as ExchangeAddress, DataAddress as ExchangeBoth}
use Rattle.m68_isa.specs.declared.instructions.ShiftCount.TheVariants.{Number as CountNumber, Register as CountRegister}
use Rattle.m68_isa.specs.declared.instructions.Instr68.{Instr68}
use Rattle.m68_isa.specs.declared.instructions.Instr68.TheVariants.{Movep, Move, MovemToMemory, MovemFromMemory, MulLong, DivLong}
use Rattle.m68_isa.specs.declared.operand.Operand.{Operand as Read}
use Rattle.m68_isa.specs.Classes.{in_class, up_to}
use Rattle.m68_isa.specs.First.{one_to_eight}
use Rattle.m68_isa.specs.Moves.{move_mode}
use Rattle.m68_isa.specs.Operands.{extended_word, immediate_words, long_at, operand_at}
use Rattle.m68_isa.specs.Products.{by_registers, high_of, is_register_word, is_signed, is_wide, low_of}
use Rattle.m68_isa.specs.Targets.{branch_target}
use Rattle.m68_isa.specs.laws.Widths.{is_any}
use Rattle.m68_text.specs.declared.operand.Operand.{Operand}
use Rattle.m68_text.specs.declared.operand.Operand.TheVariants.{Data, Word}
use Rattle.m68_text.specs.Instructions.{operands}
use Rattle.m68_text.specs.Operands.{counted, exchanged, immediate, paired, place, with_registers}
use Rattle.asm_m68.specs.laws.Spelling.{long_words}
use Rattle.asm_m68.specs.laws.Spelling.{content, contents, following, way}
use Rattle.asm_m68.specs.laws.Spelling.Ending.{Extended, Paired}
use Rattle.asm_m68.proofs.Texts.{IsTold, cut}
use Rattle.asm_m68.proofs.Places.{IsShown, Shows, bit_value, immediate_shown, long_back, plain_word, shown, word_back, word_signed, words_from}
use Rattle.asm_m68.proofs.Numbers.{padded}
use Rattle.asm_m68.proofs.FirstWords.{ending_of, is_near}
use Rattle.asm_m68.proofs.Shapes.{AreTold, Given, IsNone, IsTelling, Tells, and_mask, and_place, no_alterable}

-- Small operands.

chosen_number : (b : Bool) (m n : ℕ) → m < 16 → n < 16 → (if b then m else n) < 16
chosen_number true m n first second = first
chosen_number false m n first second = second

pub quick_told : (n : ℕ) → n < 8 → one_to_eight n < 16
quick_told n below = chosen_number (n == 0) 8 n (omega arith) (omega (arith, below))

pub last : (b c : Bool) → (b && c) ≡ true → c ≡ true
last b c h = (and_parts b c h).1

pub front : (b c : Bool) → (b && c) ≡ true → b ≡ true
front b c h = (and_parts b c h).0

pub either_none : (b c : Bool) (mode lower : ℕ) → (b ≡ true → IsNone mode lower) → (c ≡ true → IsNone mode lower) → (b || c) ≡ true → IsNone mode lower
either_none true c mode lower first second h = first refl
either_none false c mode lower first second h = second h

pub mode_none : (mode lower m : ℕ) → m < 7 → (mode == m) ≡ true → IsNone mode lower
mode_none mode lower m small is seven four = let e : mode ≡ m = eqb-true mode m is in absurd (omega (arith, e, seven, small))

-- One word.

pub paired_told : (b : Bool) (x y : ℕ) → x < 8 → y < 8 → AreTold (paired b x y)
paired_told true x y first second = (first, (second, tt))
paired_told false x y first second = (first, (second, tt))

pub paired_alone : (at : ℕ) (b : Bool) (x y : ℕ) → contents at (padded (map cut (paired b x y))).first (padded (map cut (paired b x y))).second ≡ []
paired_alone at true x y = refl
paired_alone at false x y = refl

pub exchanged_told : (kind : Exchange) (x y : ℕ) → x < 8 → y < 8 → AreTold (exchanged kind x y)
exchanged_told ExchangeData x y first second = (first, (second, tt))
exchanged_told ExchangeAddress x y first second = (first, (second, tt))
exchanged_told ExchangeBoth x y first second = (first, (second, tt))

pub exchanged_alone : (at : ℕ) (kind : Exchange) (x y : ℕ) → contents at (padded (map cut (exchanged kind x y))).first (padded (map cut (exchanged kind x y))).second ≡ []
exchanged_alone at ExchangeData x y = refl
exchanged_alone at ExchangeAddress x y = refl
exchanged_alone at ExchangeBoth x y = refl

pub counted_told : (b : Bool) (n : ℕ) → n < 8 → IsTold (counted (if b then CountNumber (one_to_eight n) else CountRegister n))
counted_told true n below = quick_told n below
counted_told false n below = below

pub counted_alone : (at : ℕ) (b : Bool) (q n m : ℕ) → contents at (cut (counted (if b then CountNumber q else CountRegister n))) (Data m) ≡ []
counted_alone at true q n m = refl
counted_alone at false q n m = refl

-- Displacements.

pub extended_shown : (at : ℕ) (ws : List ℕ) (f : First) (g : Given at ws f) → (extended_word ws 1 % 65536 % 65536 ∷ []) ≡ words_from ws 1 1
extended_shown at ws f g = ap (λ x. x ∷ []) (word_back (slice_index ws 1) (g.words.below 1))

extended_fits : (at : ℕ) (ws : List ℕ) (f : First) (g : Given at ws f) → extended_word ws 1 < 4294967296
extended_fits at ws f g = subst (λ v. v < 4294967296) (sym (word_signed (slice_index ws 1) (g.words.below 1))) (fits (nat_lt (slice_index ws 1) 32768) (slice_index ws 1) (g.words.below 1))
  where
    fits : (b : Bool) (w : ℕ) → w < 65536 → (if b then w else w + 4294901760) < 4294967296
    fits true w below = omega (arith, below)
    fits false w below = omega (arith, below)

way_back : (at d : ℕ) → at < 4294967296 → d < 4294967296 → way at (branch_target at d % 4294967296) ≡ d
way_back at d fits small = omega (arith, fits, small)

pub target_shown : (at : ℕ) (ws : List ℕ) (f : First) (g : Given at ws f) → (way at (branch_target at (extended_word ws 1) % 4294967296) % 65536 ∷ []) ≡ words_from ws 1 1
target_shown at ws f g =
    let w : ℕ = slice_index ws 1 in
    let e : sign_extended w Two % 65536 ≡ w = sym (mod_twice (sign_extended w Two)) ∙ word_back w (g.words.below 1) in
    ap (λ x. x % 65536 ∷ []) (way_back at (extended_word ws 1) g.fits (extended_fits at ws f g)) ∙ ap (λ x. x ∷ []) e
  where
    mod_twice : (v : ℕ) → v % 65536 % 65536 ≡ v % 65536
    mod_twice v = omega arith

long_fits : (a b : ℕ) → a < 65536 → b < 65536 → a * 65536 + b < 4294967296
long_fits a b high low = omega (arith, high, low)

pub long_shown : (at : ℕ) (ws : List ℕ) (f : First) (g : Given at ws f) → long_words (long_at ws 1 % 4294967296) ≡ words_from ws 1 2
long_shown at ws f g = long_back (slice_index ws 1) (slice_index ws 2) (g.words.below 1) (g.words.below 2)

pub distance_shown : (at : ℕ) (ws : List ℕ) (f : First) (g : Given at ws f) → long_words (way at (branch_target at (long_at ws 1) % 4294967296)) ≡ words_from ws 1 2
distance_shown at ws f g =
    let fits : long_at ws 1 < 4294967296 = long_fits (slice_index ws 1) (slice_index ws 2) (g.words.below 1) (g.words.below 2) in
    let e : long_at ws 1 ≡ long_at ws 1 % 4294967296 = omega (arith, fits) in
    ap long_words (way_back at (long_at ws 1) g.fits fits ∙ e) ∙ long_shown at ws f g

-- the displacement in a first word
low_signed : every 8 0 (λ b. if nat_lt (sign_extended b One) 4294967296 then sign_extended b One % 256 == b else false) ≡ true
low_signed = refl

pub near_back : (at b : ℕ) → at < 4294967296 → b < 256 → way at (branch_target at (sign_extended b One) % 4294967296) % 256 ≡ b
near_back at b fits below =
    let parts = both (nat_lt (sign_extended b One) 4294967296) (sign_extended b One % 256 == b) (every_at 8 (λ v. if nat_lt (sign_extended v One) 4294967296 then sign_extended v One % 256 == v else false) b low_signed below) in
    ap (λ x. x % 256) (way_back at (sign_extended b One) fits (ltb-true _ _ parts.0)) ∙ eqb-true _ _ parts.1

-- Rows.

pub immediate_row : (at : ℕ) (ws : List ℕ) (f : First) (g : Given at ws f) → in_class DataAlterable f.mode f.lower ≡ true → (s : Size) → is_any s ≡ true → (make : Ea → Instr68) → ((e : Ea) → operands (make e) ws at ≡ immediate s ws 1 ∷ place s ws 1 e ∷ []) → ((e : Ea) (n : ℕ) → (ending_of (make e) n ≡ Extended) × (is_near (make e) n ≡ false)) → IsTelling at ws (Made (make (operand_at ws (1 + immediate_words s) s f.mode f.lower).ea) (operand_at ws (1 + immediate_words s) s f.mode f.lower).next (operand_at ws (1 + immediate_words s) s f.mode f.lower).good)
immediate_row at ws f g alterable s some make is plain good =
    let e : Read = operand_at ws (1 + immediate_words s) s f.mode f.lower in
    and_place at ws g.words (make e.ea) (immediate s ws 1) (1 + immediate_words s) s f.mode f.lower g.mode g.lower some (no_alterable f.mode f.lower alterable) (immediate_shown at ws g.words 1 s some) (is e.ea) (plain e.ea) good

pub first_word_shown : (at : ℕ) (ws : List ℕ) (f : First) (g : Given at ws f) → Shows at ws 1 2 (Word (slice_index ws 1))
first_word_shown at ws f g = record { told = tt; count = 1; upto = refl; words = plain_word (slice_index ws 1) (g.words.below 1) }

up_to_none : (mode lower : ℕ) → up_to 5 mode lower ≡ true → not ((mode == 7) && (lower == 4)) ≡ true → IsNone mode lower
up_to_none mode lower high plain seven four =
    let e : nat_lt lower 5 ≡ true = subst (λ m. up_to 5 m lower ≡ true) seven high in
    let n : not (lower == 4) ≡ true = subst (λ m. not ((m == 7) && (lower == 4)) ≡ true) seven plain in
    let is : lower ≡ 4 = omega (arith, ltb-true lower 5 e, four) in
    let m : not (4 == 4) ≡ true = subst (λ v. not (v == 4) ≡ true) is n in
    cc

pub bits_none : (b : Bool) (mode lower : ℕ) → in_class (if b then DataClass else DataAlterable) mode lower ≡ true → not ((mode == 7) && (lower == 4)) ≡ true → IsNone mode lower
bits_none true mode lower is plain = up_to_none mode lower (last (not (mode == 1)) (up_to 5 mode lower) is) plain
bits_none false mode lower is plain = no_alterable mode lower is

pub movep_row : (at : ℕ) (ws : List ℕ) (f : First) (g : Given at ws f) → (s : Size) (b : Bool) → IsTelling at ws (Made (Movep s b f.upper f.lower (extended_word ws 1)) 2 true)
movep_row at ws f g s true good = record { are_told = (g.upper, (g.lower, tt)); words = extended_shown at ws f g; low = λ h. cc }
movep_row at ws f g s false good = record { are_told = (g.lower, (g.upper, tt)); words = extended_shown at ws f g; low = λ h. cc }

pub move_row : (at : ℕ) (ws : List ℕ) (f : First) (g : Given at ws f) → in_class DataAlterable (move_mode f) f.upper ≡ true → (s : Size) → is_any s ≡ true → (from to : Read) → from ≡ operand_at ws 1 s f.mode f.lower → to ≡ operand_at ws from.next s (move_mode f) f.upper → IsTelling at ws (Made (Move s from.ea to.ea) to.next (from.good && to.good))
move_row at ws f g alterable s some from to from_is to_is good =
    let parts : (from.good ≡ true) × (to.good ≡ true) = and_parts from.good to.good good in
    let shows : IsShown at ws 1 1 s from = subst (IsShown at ws 1 1 s) (sym from_is) (shown at ws g.words 1 1 s f.mode f.lower g.mode g.lower some (λ seven four. refl)) in
    let second : (operand_at ws from.next s (move_mode f) f.upper).good ≡ true = sym (ap (λ r. r.good) to_is) ∙ parts.1 in
    subst (λ r. Tells (Move s from.ea r.ea) r.next ws at) (sym to_is)
    (and_place at ws g.words (Move s from.ea (operand_at ws from.next s (move_mode f) f.upper).ea) (place s ws 1 from.ea) from.next s (move_mode f) f.upper (omega (arith, g.bit8, g.size)) g.upper some (no_alterable (move_mode f) f.upper alterable) (shows parts.0) refl (λ n. (refl, refl)) second)

pub to_memory_row : (at : ℕ) (ws : List ℕ) (f : First) (g : Given at ws f) → IsNone f.mode f.lower → (s : Size) → is_any s ≡ true → IsTelling at ws (Made (MovemToMemory s (slice_index ws 1) (operand_at ws 2 s f.mode f.lower).ea) (operand_at ws 2 s f.mode f.lower).next (operand_at ws 2 s f.mode f.lower).good)
to_memory_row at ws f g none s some good =
    and_place at ws g.words (MovemToMemory s (slice_index ws 1) (operand_at ws 2 s f.mode f.lower).ea) (Word (slice_index ws 1)) 2 s f.mode f.lower g.mode g.lower some none (first_word_shown at ws f g) refl (λ n. (refl, refl)) good

pub from_memory_row : (at : ℕ) (ws : List ℕ) (f : First) (g : Given at ws f) → IsNone f.mode f.lower → (s : Size) → is_any s ≡ true → IsTelling at ws (Made (MovemFromMemory s (slice_index ws 1) (operand_at ws 2 s f.mode f.lower).ea) (operand_at ws 2 s f.mode f.lower).next (operand_at ws 2 s f.mode f.lower).good)
from_memory_row at ws f g none s some good =
    and_mask at ws g.words (MovemFromMemory s (slice_index ws 1) (operand_at ws 2 s f.mode f.lower).ea) (Word (slice_index ws 1)) 2 s f.mode f.lower g.mode g.lower some none (first_word_shown at ws f g) refl refl (λ n. (refl, refl)) good

-- Long products and quotients: the word of the registers comes back from the sign in the name and the registers.

abbrev register_word : Bool → Bool → ℕ → ℕ → ℕ
register_word signed wide high low = ((if signed then 2048 else 0) + (if wide then 1024 + low * 4096 + high else low * 4096 + high)) % 65536

register_back : (w : ℕ) → w < 65536 → is_register_word w ≡ true → register_word (is_signed w) (is_wide w) (high_of w) (low_of w) ≡ w
register_back w below is =
    let parts = and_parts (digit_of w 15 1 == 0) (digit_of w 3 7 == 0) is in
    sum _ _ (bit_value (digit_of w 11 1) 2048 (omega arith)) (wide_value (digit_of w 10 1) (low_of w * 4096) (high_of w) (omega arith)) (eqb-true _ _ parts.0) (eqb-true _ _ parts.1)
  where
    wide_value : (d low high : ℕ) → d < 2 → (if d == 1 then 1024 + low + high else low + high) ≡ d * 1024 + (low + high)
    wide_value zero low high below = omega arith
    wide_value (suc zero) low high below = omega arith
    wide_value (suc (suc d)) low high below = absurd (omega (arith, below))

    sum : (signed wide : ℕ) → signed ≡ digit_of w 11 1 * 2048 → wide ≡ digit_of w 10 1 * 1024 + (low_of w * 4096 + high_of w) → digit_of w 15 1 ≡ 0 → digit_of w 3 7 ≡ 0 → (signed + wide) % 65536 ≡ w
    sum signed wide is_signed_value is_wide_value high between = omega (arith, below, is_signed_value, is_wide_value, high, between)

registers_told : (wide : Bool) (high low : ℕ) (ws : List ℕ) (by : Ea) → high < 8 → low < 8 → IsTold (place Four ws 2 by) → AreTold (with_registers wide high low ws by)
registers_told true high low ws by first second source = (source, ((first, second), tt))
registers_told false high low ws by first second source = (source, (first, (second, tt)))

abbrev product_words : Bool → ℕ → List Operand → List ℕ
product_words signed at os = following (Paired (if signed then 2048 else 0)) at (padded (map cut os))

registers_shown : (at : ℕ) (signed wide : Bool) (high low : ℕ) (ws : List ℕ) (by : Ea) → product_words signed at (with_registers wide high low ws by) ≡ register_word signed wide high low ∷ content at (cut (place Four ws 2 by))
registers_shown at signed true high low ws by = refl
registers_shown at signed false high low ws by = refl

source_words : (at : ℕ) (ws : List ℕ) (f : First) (g : Given at ws f) → (k : ℕ) (next : ℕ) (o : Operand) → Shows at ws 2 next o → slice_index ws 1 ∷ content at (cut o) ≡ words_from ws 1 (next - 1)
source_words at ws f g k next o s =
    let e : suc s.count ≡ next - 1 = omega (arith, s.upto) in
    ap (λ l. slice_index ws 1 ∷ l) s.words ∙ ap (words_from ws 1) e

record ProductGood (ws : List ℕ) (at : ℕ) (by : Read) : Type 0 where
  told_of : AreTold (with_registers (is_wide (slice_index ws 1)) (high_of (slice_index ws 1)) (low_of (slice_index ws 1)) ws by.ea)
  words_of : product_words (is_signed (slice_index ws 1)) at (with_registers (is_wide (slice_index ws 1)) (high_of (slice_index ws 1)) (low_of (slice_index ws 1)) ws by.ea) ≡ words_from ws 1 (by.next - 1)

product_good : (at : ℕ) (ws : List ℕ) (f : First) (g : Given at ws f) → (is_register_word (slice_index ws 1) && (operand_at ws 2 Four f.mode f.lower).good) ≡ true → ProductGood ws at (operand_at ws 2 Four f.mode f.lower)
product_good at ws f g good =
    let w : ℕ = slice_index ws 1 in
    let by : Read = operand_at ws 2 Four f.mode f.lower in
    let parts : (is_register_word w ≡ true) × (by.good ≡ true) = and_parts (is_register_word w) by.good good in
    let source : Shows at ws 2 by.next (place Four ws 2 by.ea) = shown at ws g.words 2 2 Four f.mode f.lower g.mode g.lower refl (λ seven four. refl) parts.1 in
    record {
      told_of = registers_told (is_wide w) (high_of w) (low_of w) ws by.ea (omega arith) (omega arith) source.told;
      words_of =
          registers_shown at (is_signed w) (is_wide w) (high_of w) (low_of w) ws by.ea
          ∙ ap (λ v. v ∷ content at (cut (place Four ws 2 by.ea))) (register_back w (g.words.below 1) parts.0)
          ∙ source_words at ws f g 2 by.next (place Four ws 2 by.ea) source;
    }

pub product_row : (at : ℕ) (ws : List ℕ) (f : First) (g : Given at ws f) → IsTelling at ws (by_registers MulLong f ws)
product_row at ws f g good = let h : ProductGood ws at (operand_at ws 2 Four f.mode f.lower) = product_good at ws f g good in record { are_told = h.told_of; words = h.words_of; low = λ n. cc }

pub quotient_row : (at : ℕ) (ws : List ℕ) (f : First) (g : Given at ws f) → IsTelling at ws (by_registers DivLong f ws)
quotient_row at ws f g good = let h : ProductGood ws at (operand_at ws 2 Four f.mode f.lower) = product_good at ws f g good in record { are_told = h.told_of; words = h.words_of; low = λ n. cc }

pub trap_told : (mode lower : ℕ) → lower < 8 → nat_lt mode 2 ≡ true → mode * 8 + lower < 16
trap_told mode lower below h = omega (arith, ltb-true mode 2 h, below)
