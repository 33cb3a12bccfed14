-- The words of instructions of one shape are what their texts tell.
use Rattle.std.proofs.Common.{◌≡◌, ℕ, zero, suc, ◌+◌, ◌-◌, ◌%◌, ◌<◌, ◌≤◌, ◌==◌, nat_lt, List, [], ◌∷◌, ◌++◌, map, slice_index, Bool, true, false, if◌then◌else◌, arith, refl, sym, ap, subst, ◌∙◌}
use Rattle.std.proofs.lemmas.Bool.{ltb-true}
use Rattle.std.proofs.lemmas.List.{append-nil}
use Rattle.mix_bits.specs.declared.size.Size.{Size}
use Rattle.mix_bits.specs.declared.size.Size.TheVariants.{One, Two, Four}
use Rattle.m68_isa.specs.Classes.Class.{DataAlterable, Control, ControlAlterable}
use Rattle.m68_isa.specs.declared.ea.Ea.{Ea}
use Rattle.m68_isa.specs.First.{First}
use Rattle.m68_isa.specs.declared.found.Found.{Found}
use Rattle.m68_isa.specs.declared.found.Found.TheVariants.{Made, Privileged as RowPrivileged, Illegal as RowIllegal}
use Rattle.m68_isa.specs.declared.instructions.Instr68.{Instr68}
use Rattle.m68_isa.specs.declared.operand.Operand.{Operand as Read}
use Rattle.m68_isa.specs.Classes.{in_class}
use Rattle.m68_isa.specs.First.{long_or_word, low_byte, size_of}
use Rattle.m68_isa.specs.Operands.{operand_at, special_at}
use Rattle.m68_isa.specs.Rows.{one}
use Rattle.m68_isa.specs.laws.Widths.{is_any}
use Rattle.m68_text.specs.declared.operand.Operand.{Operand}
use Rattle.m68_text.specs.Instructions.{operands}
use Rattle.m68_text.specs.Operands.{place}
use Rattle.asm_m68.specs.Reading.{nothing}
use Rattle.asm_m68.specs.laws.Spelling.{content, contents, following, is_word, way_of}
use Rattle.asm_m68.specs.laws.Spelling.Ending.{Extended}
use Rattle.asm_m68.proofs.Texts.{IsTold, cut}
use Rattle.asm_m68.proofs.Places.{IsShown, Shows, Words, shown, words_from}
use Rattle.asm_m68.proofs.Numbers.{padded, told}
use Rattle.asm_m68.proofs.FirstWords.{ending_of, is_near}

abbrev pub AreTold : List Operand → Type 0
AreTold [] = Unit {0}
AreTold (o ∷ os) = IsTold o × AreTold os

-- an instruction of so many words whose text tells those behind the first one
pub record Tells (i : Instr68) (used : ℕ) (ws : List ℕ) (at : ℕ) : Type 0 where
  pub are_told : AreTold (operands i ws at)
  pub words : following (ending_of i used) at (told i ws at) ≡ words_from ws 1 (used - 1)
  pub low : is_near i used ≡ true → way_of at (told i ws at).first % 256 ≡ slice_index ws 0 % 256

abbrev pub IsTelling : ℕ → List ℕ → Found → Type 0
IsTelling at ws (Made i used good) = good ≡ true → Tells i used ws at
IsTelling at ws RowPrivileged = Unit {0}
IsTelling at ws RowIllegal = Unit {0}

-- what is known of a first word and the words
pub record Given (at : ℕ) (ws : List ℕ) (f : First) : Type 0 where
  pub fits : at < 4294967296
  pub words : Words ws
  pub upper : f.upper < 8
  pub bit8 : f.bit8 < 2
  pub size : f.size < 4
  pub mode : f.mode < 8
  pub lower : f.lower < 8
  -- the low byte as it stands in the first word
  pub low : low_byte f ≡ slice_index ws 0 % 256

-- Operands without words of their own.

contents_right : (at : ℕ) (x p : Operand) → content at x ≡ [] → contents at x p ≡ content at p
contents_right at x p none = by (is_word p)
  where
    by : (b : Bool) → (if b then content at p ++ content at x else content at x ++ content at p) ≡ content at p
    by true = ap (λ l. content at p ++ l) none ∙ append-nil (content at p)
    by false = ap (λ l. l ++ content at p) none

contents_left : (at : ℕ) (p x : Operand) → content at x ≡ [] → is_word x ≡ false → contents at p x ≡ content at p
contents_left at p x none plain =
    ap (λ b. if b then content at x ++ content at p else content at p ++ content at x) plain
    ∙ ap (λ l. content at p ++ l) none ∙ append-nil (content at p)

upto_here : (at : ℕ) (ws : List ℕ) (next : ℕ) (o : Operand) → Shows at ws 1 next o → content at (cut o) ≡ words_from ws 1 (next - 1)
upto_here at ws next o s = let e : s.count ≡ next - 1 = omega (arith, s.upto) in s.words ∙ ap (words_from ws 1) e

-- from a list of operands
abbrev contents_of : ℕ → List Operand → List ℕ
contents_of at os = contents at (padded (map cut os)).first (padded (map cut os)).second

pub from_list : (i : Instr68) (used : ℕ) (ws : List ℕ) (at : ℕ) (os : List Operand) → operands i ws at ≡ os → ending_of i used ≡ Extended → is_near i used ≡ false → AreTold os → contents_of at os ≡ words_from ws 1 (used - 1) → Tells i used ws at
from_list i used ws at os is ends near are words = record {
  are_told = subst AreTold (sym is) are;
  words = ap (λ x. following x at (told i ws at)) ends ∙ ap (λ l. contents_of at l) is ∙ words;
  low = λ h. cc;
}

-- what a combinator asks of instructions with an operand
abbrev IsPlain : (Ea → Instr68) → Type 0
IsPlain make = (e : Ea) (n : ℕ) → (ending_of (make e) n ≡ Extended) × (is_near (make e) n ≡ false)

here : (at : ℕ) (ws : List ℕ) (f : First) (g : Given at ws f) (s : Size) → is_any s ≡ true → IsShown at ws 1 1 s (operand_at ws 1 s f.mode f.lower)
here at ws f g s some = shown at ws g.words 1 1 s f.mode f.lower g.mode g.lower some (λ seven four. refl)

pub single : (at : ℕ) (ws : List ℕ) (f : First) (g : Given at ws f) (s : Size) → is_any s ≡ true → (make : Ea → Instr68) → ((e : Ea) → operands (make e) ws at ≡ place s ws 1 e ∷ []) → IsPlain make → IsTelling at ws (one make s f ws)
single at ws f g s some make is plain good =
    let e : Read = operand_at ws 1 s f.mode f.lower in
    let o : Operand = place s ws 1 e.ea in
    let h : Shows at ws 1 e.next o = here at ws f g s some good in
    from_list (make e.ea) e.next ws at (o ∷ []) (is e.ea) (plain e.ea e.next).0 (plain e.ea e.next).1 (h.told, tt)
    (contents_left at (cut o) nothing refl refl ∙ upto_here at ws e.next o h)

pub after : (at : ℕ) (ws : List ℕ) (f : First) (g : Given at ws f) (s : Size) → is_any s ≡ true → (make : Ea → Instr68) (x : Operand) → IsTold x → content at (cut x) ≡ [] → is_word (cut x) ≡ false → ((e : Ea) → operands (make e) ws at ≡ place s ws 1 e ∷ x ∷ []) → IsPlain make → IsTelling at ws (one make s f ws)
after at ws f g s some make x xt none word is plain good =
    let e : Read = operand_at ws 1 s f.mode f.lower in
    let o : Operand = place s ws 1 e.ea in
    let h : Shows at ws 1 e.next o = here at ws f g s some good in
    from_list (make e.ea) e.next ws at (o ∷ x ∷ []) (is e.ea) (plain e.ea e.next).0 (plain e.ea e.next).1 (h.told, (xt, tt))
    (contents_left at (cut o) (cut x) none word ∙ upto_here at ws e.next o h)

pub before : (at : ℕ) (ws : List ℕ) (f : First) (g : Given at ws f) (s : Size) → is_any s ≡ true → (make : Ea → Instr68) (x : Operand) → IsTold x → content at (cut x) ≡ [] → ((e : Ea) → operands (make e) ws at ≡ x ∷ place s ws 1 e ∷ []) → IsPlain make → IsTelling at ws (one make s f ws)
before at ws f g s some make x xt none is plain good =
    let e : Read = operand_at ws 1 s f.mode f.lower in
    let o : Operand = place s ws 1 e.ea in
    let h : Shows at ws 1 e.next o = here at ws f g s some good in
    from_list (make e.ea) e.next ws at (x ∷ o ∷ []) (is e.ea) (plain e.ea e.next).0 (plain e.ea e.next).1 (xt, (h.told, tt))
    (contents_right at (cut x) (cut o) none ∙ upto_here at ws e.next o h)

-- Two operands with words.

more : (n m : ℕ) → suc n + m ≡ suc (n + m)
more n m = omega arith

words_from-append : (ws : List ℕ) (k a b : ℕ) → words_from ws k (a + b) ≡ words_from ws k a ++ words_from ws (k + a) b
words_from-append ws k zero b =
    let e : 0 + b ≡ b = omega arith in
    let h : k ≡ k + 0 = omega arith in
    ap (words_from ws k) e ∙ ap (λ v. words_from ws v b) h
words_from-append ws k (suc a) b =
    let h : k + 1 + a ≡ k + suc a = omega arith in
    ap (words_from ws k) (more a b)
    ∙ ap (λ l. slice_index ws k ∷ l) (words_from-append ws (k + 1) a b)
    ∙ ap (λ v. slice_index ws k ∷ (words_from ws (k + 1) a ++ words_from ws v b)) h

two_words : (at : ℕ) (ws : List ℕ) (middle next : ℕ) (o p : Operand) → Shows at ws 1 middle o → Shows at ws middle next p → is_word (cut p) ≡ false → contents at (cut o) (cut p) ≡ words_from ws 1 (next - 1)
two_words at ws middle next o p first second plain =
    let seam : middle ≡ 1 + first.count = first.upto in
    let all : first.count + second.count ≡ next - 1 = omega (arith, first.upto, second.upto) in
    ap (λ b. if b then content at (cut p) ++ content at (cut o) else content at (cut o) ++ content at (cut p)) plain
    ∙ ap (λ l. l ++ content at (cut p)) first.words
    ∙ ap (λ l. words_from ws 1 first.count ++ l) second.words
    ∙ ap (λ v. words_from ws 1 first.count ++ words_from ws v second.count) seam
    ∙ sym (words_from-append ws 1 first.count second.count)
    ∙ ap (words_from ws 1) all

mask_first : (at : ℕ) (ws : List ℕ) (middle next : ℕ) (o p : Operand) → Shows at ws 1 middle o → Shows at ws middle next p → is_word (cut o) ≡ true → contents at (cut p) (cut o) ≡ words_from ws 1 (next - 1)
mask_first at ws middle next o p first second mask =
    let seam : middle ≡ 1 + first.count = first.upto in
    let all : first.count + second.count ≡ next - 1 = omega (arith, first.upto, second.upto) in
    ap (λ b. if b then content at (cut o) ++ content at (cut p) else content at (cut p) ++ content at (cut o)) mask
    ∙ ap (λ l. l ++ content at (cut p)) first.words
    ∙ ap (λ l. words_from ws 1 first.count ++ l) second.words
    ∙ ap (λ v. words_from ws 1 first.count ++ words_from ws v second.count) seam
    ∙ sym (words_from-append ws 1 first.count second.count)
    ∙ ap (words_from ws 1) all

-- an operand that is no immediate
abbrev pub IsNone : ℕ → ℕ → Type 0
IsNone mode lower = mode ≡ 7 → 4 ≤ lower → ⊥

not_special : (ws : List ℕ) (word k : ℕ) (s : Size) (lower : ℕ) → (4 ≤ lower → ⊥) → is_word (cut (place s ws word (special_at ws k s lower).ea)) ≡ false
not_special ws word k s zero none = refl
not_special ws word k s (suc zero) none = refl
not_special ws word k s (suc (suc zero)) none = refl
not_special ws word k s (suc (suc (suc zero))) none = refl
not_special ws word k s (suc (suc (suc (suc lower)))) none = absurd (none (omega arith))

pub not_word : (ws : List ℕ) (word k : ℕ) (s : Size) (mode lower : ℕ) → mode < 8 → IsNone mode lower → is_word (cut (place s ws word (operand_at ws k s mode lower).ea)) ≡ false
not_word ws word k s zero lower m none = refl
not_word ws word k s (suc zero) lower m none = refl
not_word ws word k s (suc (suc zero)) lower m none = refl
not_word ws word k s (suc (suc (suc zero))) lower m none = refl
not_word ws word k s (suc (suc (suc (suc zero)))) lower m none = refl
not_word ws word k s (suc (suc (suc (suc (suc zero))))) lower m none = refl
not_word ws word k s (suc (suc (suc (suc (suc (suc zero)))))) lower m none = refl
not_word ws word k s (suc (suc (suc (suc (suc (suc (suc zero))))))) lower m none = not_special ws word k s lower (none refl)
not_word ws word k s (suc (suc (suc (suc (suc (suc (suc (suc mode)))))))) lower m none = absurd (omega (arith, m))

-- an operand with words, then one at an address that is no immediate
pub and_place : (at : ℕ) (ws : List ℕ) (w : Words ws) (i : Instr68) (x : Operand) (k : ℕ) (s : Size) (mode lower : ℕ) → mode < 8 → lower < 8 → is_any s ≡ true → IsNone mode lower → Shows at ws 1 k x → operands i ws at ≡ x ∷ place s ws 1 (operand_at ws k s mode lower).ea ∷ [] → ((n : ℕ) → (ending_of i n ≡ Extended) × (is_near i n ≡ false)) → (operand_at ws k s mode lower).good ≡ true → Tells i (operand_at ws k s mode lower).next ws at
and_place at ws w i x k s mode lower m l some none first is plain good =
    let e : Read = operand_at ws k s mode lower in
    let h : Shows at ws k e.next (place s ws 1 e.ea) = shown at ws w 1 k s mode lower m l some (λ seven four. absurd (none seven four)) good in
    from_list i e.next ws at (x ∷ place s ws 1 e.ea ∷ []) is (plain e.next).0 (plain e.next).1 (first.told, (h.told, tt))
    (two_words at ws k e.next x (place s ws 1 e.ea) first h (not_word ws 1 k s mode lower m none))

pub and_mask : (at : ℕ) (ws : List ℕ) (w : Words ws) (i : Instr68) (x : Operand) (k : ℕ) (s : Size) (mode lower : ℕ) → mode < 8 → lower < 8 → is_any s ≡ true → IsNone mode lower → Shows at ws 1 k x → is_word (cut x) ≡ true → operands i ws at ≡ place s ws 1 (operand_at ws k s mode lower).ea ∷ x ∷ [] → ((n : ℕ) → (ending_of i n ≡ Extended) × (is_near i n ≡ false)) → (operand_at ws k s mode lower).good ≡ true → Tells i (operand_at ws k s mode lower).next ws at
and_mask at ws w i x k s mode lower m l some none first mask is plain good =
    let e : Read = operand_at ws k s mode lower in
    let h : Shows at ws k e.next (place s ws 1 e.ea) = shown at ws w 1 k s mode lower m l some (λ seven four. absurd (none seven four)) good in
    from_list i e.next ws at (place s ws 1 e.ea ∷ x ∷ []) is (plain e.next).0 (plain e.next).1 (h.told, (first.told, tt))
    (mask_first at ws k e.next x (place s ws 1 e.ea) first h mask)

-- Classes without immediates, and sizes.

pub no_alterable : (mode lower : ℕ) → in_class DataAlterable mode lower ≡ true → IsNone mode lower
no_alterable mode lower h seven four =
    let e : nat_lt lower 2 ≡ true = subst (λ m. in_class DataAlterable m lower ≡ true) seven h in
    absurd (omega (arith, ltb-true lower 2 e, four))

pub no_control : (mode lower : ℕ) → in_class Control mode lower ≡ true → IsNone mode lower
no_control mode lower h seven four =
    let e : nat_lt lower 4 ≡ true = subst (λ m. in_class Control m lower ≡ true) seven h in
    absurd (omega (arith, ltb-true lower 4 e, four))

pub no_control_alterable : (mode lower : ℕ) → in_class ControlAlterable mode lower ≡ true → IsNone mode lower
no_control_alterable mode lower h seven four =
    let e : nat_lt lower 2 ≡ true = subst (λ m. in_class ControlAlterable m lower ≡ true) seven h in
    absurd (omega (arith, ltb-true lower 2 e, four))

some_if : (b : Bool) (s t : Size) → is_any s ≡ true → is_any t ≡ true → is_any (if b then s else t) ≡ true
some_if true s t first second = first
some_if false s t first second = second

-- the sizes that the bits of a first word name are a byte, a word or a long: two bits and one bit
pub some_size : (bits : ℕ) → is_any (size_of bits) ≡ true
some_size bits = some_if (bits == 0) One _ refl (some_if (bits == 1) Two Four refl refl)

pub some_long : (bit : ℕ) → is_any (long_or_word bit) ≡ true
some_long bit = some_if (bit == 0) Two Four refl refl
