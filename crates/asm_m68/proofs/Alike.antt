-- What is read of words, and printed of it, is the same of other words that agree on those it has.
use Rattle.std.proofs.Common.{◌≡◌, ℕ, zero, suc, ◌+◌, ◌*◌, ◌%◌, ◌<◌, ◌≤◌, ◌&&◌, List, [], ◌∷◌, slice_index, Bool, true, if◌then◌else◌, arith, refl, sym, ap, subst, ◌∙◌}
use Rattle.mix_bits.specs.Sizes.{sign_extended}
use Rattle.mix_bits.specs.declared.size.Size.{Size}
use Rattle.mix_bits.specs.declared.size.Size.TheVariants.{Zero, One, Two, Four}
use Rattle.m68_isa.specs.declared.ea.Ea.{Ea}
use Rattle.m68_isa.specs.declared.ea.Ea.TheVariants.{Disp, Indexed as EaIndexed, AbsWord, AbsLong, PcDisp, PcIndexed as EaPcIndexed, Imm}
use Rattle.m68_isa.specs.First.{First}
use Rattle.m68_isa.specs.declared.found.Found.{Found}
use Rattle.m68_isa.specs.declared.found.Found.TheVariants.{Made, Privileged as RowPrivileged, Illegal as RowIllegal}
use Rattle.m68_isa.specs.declared.instructions.Instr68.{Instr68}
use Rattle.m68_isa.specs.declared.instructions.Instr68.TheVariants.{ImmediateToCcr, Move, MovemToMemory, MovemFromMemory}
use Rattle.m68_isa.specs.declared.operand.Operand.{Operand as Read}
use Rattle.m68_isa.specs.inner.First.{IsFirst}
use Rattle.m68_isa.specs.Immediates.{logic_op}
use Rattle.m68_isa.specs.Moves.{move_mode}
use Rattle.m68_isa.specs.Operands.{immediate_at, immediate_words, index_of, is_index, long_at, operand_at, plain, special_at}
use Rattle.m68_isa.specs.Rows.{one, taken}
use Rattle.m68_isa.specs.Products.{by_registers, high_of, is_register_word, is_signed, is_wide, low_of}
use Rattle.m68_isa.specs.laws.Widths.{is_any}
use Rattle.m68_text.specs.declared.operand.Operand.{Operand}
use Rattle.m68_text.specs.declared.operand.Operand.TheVariants.{Data, Word, Long, ConditionCodes, Pair}
use Rattle.m68_text.specs.Instructions.{operands}
use Rattle.m68_text.specs.Operands.{immediate, place, with_registers}
use Rattle.asm_m68.proofs.Places.{special_immediate}

-- two lists agree on so many words
pub record Agree (ws vs : List ℕ) (n : ℕ) : Type 0 where
  pub same : (k : ℕ) → k < n → slice_index ws k ≡ slice_index vs k

-- Operands.

next_special : (ws : List ℕ) (k : ℕ) (s : Size) (lower : ℕ) → k ≤ (special_at ws k s lower).next
next_special ws k s zero = omega arith
next_special ws k s (suc zero) = omega arith
next_special ws k s (suc (suc zero)) = omega arith
next_special ws k s (suc (suc (suc zero))) = omega arith
next_special ws k s (suc (suc (suc (suc lower)))) =
    let e : (special_at ws k s (suc (suc (suc (suc lower))))).next ≡ k + immediate_words s = ap (λ r. r.next) (special_immediate ws k s (suc (suc (suc (suc lower)))) (omega arith)) in
    subst (λ n. k ≤ n) (sym e) (omega arith)

next_from : (ws : List ℕ) (k : ℕ) (s : Size) (mode lower : ℕ) → mode < 8 → k ≤ (operand_at ws k s mode lower).next
next_from ws k s zero lower m = omega arith
next_from ws k s (suc zero) lower m = omega arith
next_from ws k s (suc (suc zero)) lower m = omega arith
next_from ws k s (suc (suc (suc zero))) lower m = omega arith
next_from ws k s (suc (suc (suc (suc zero)))) lower m = omega arith
next_from ws k s (suc (suc (suc (suc (suc zero))))) lower m = omega arith
next_from ws k s (suc (suc (suc (suc (suc (suc zero)))))) lower m = omega arith
next_from ws k s (suc (suc (suc (suc (suc (suc (suc zero))))))) lower m = next_special ws k s lower
next_from ws k s (suc (suc (suc (suc (suc (suc (suc (suc mode)))))))) lower m = absurd (omega (arith, m))

long_same : (ws vs : List ℕ) (k : ℕ) → slice_index ws k ≡ slice_index vs k → slice_index ws (k + 1) ≡ slice_index vs (k + 1) → long_at ws k ≡ long_at vs k
long_same ws vs k e h = ap (λ x. x * 65536 + slice_index ws (k + 1)) e ∙ ap (λ y. slice_index vs k * 65536 + y) h

value_same : (ws vs : List ℕ) (k : ℕ) (s : Size) (n : ℕ) → k + immediate_words s ≤ n → Agree ws vs n → immediate_at ws k s ≡ immediate_at vs k s
value_same ws vs k Zero n upto a = refl
value_same ws vs k One n upto a = ap (λ w. w % 256) (a.same k (omega (arith, upto)))
value_same ws vs k Two n upto a = a.same k (omega (arith, upto))
value_same ws vs k Four n upto a = long_same ws vs k (a.same k (omega (arith, upto))) (a.same (k + 1) (omega (arith, upto)))

immediate_same : (ws vs : List ℕ) (k : ℕ) (s : Size) (n : ℕ) → is_any s ≡ true → k + immediate_words s ≤ n → Agree ws vs n → immediate s ws k ≡ immediate s vs k
immediate_same ws vs k Zero n some upto a = cc
immediate_same ws vs k One n some upto a = ap Word (a.same k (omega (arith, upto)))
immediate_same ws vs k Two n some upto a = ap Word (a.same k (omega (arith, upto)))
immediate_same ws vs k Four n some upto a = ap Long (long_same ws vs k (a.same k (omega (arith, upto))) (a.same (k + 1) (omega (arith, upto))))

-- an operand that is read alike, and printed alike where its immediate begins with a word not behind its own
record Alike (ws vs : List ℕ) (word : ℕ) (s : Size) (r q : Read) : Type 0 where
  read : r ≡ q
  printed : place s ws word r.ea ≡ place s vs word r.ea

special_alike : (ws vs : List ℕ) (word k : ℕ) (s : Size) (lower : ℕ) → is_any s ≡ true → word ≤ k → (n : ℕ) → (special_at ws k s lower).next ≤ n → Agree ws vs n → Alike ws vs word s (special_at ws k s lower) (special_at vs k s lower)
special_alike ws vs word k s zero some front n upto a = record { read = ap (λ w. plain (AbsWord (sign_extended w Two)) (k + 1)) (a.same k (omega (arith, upto))); printed = refl }
special_alike ws vs word k s (suc zero) some front n upto a = record { read = ap (λ v. plain (AbsLong v) (k + 2)) (long_same ws vs k (a.same k (omega (arith, upto))) (a.same (k + 1) (omega (arith, upto)))); printed = refl }
special_alike ws vs word k s (suc (suc zero)) some front n upto a = record { read = ap (λ w. plain (PcDisp (2 * k) (sign_extended w Two)) (k + 1)) (a.same k (omega (arith, upto))); printed = refl }
special_alike ws vs word k s (suc (suc (suc zero))) some front n upto a = record { read = ap (λ w. record { ea = EaPcIndexed (2 * k) (index_of w); next = k + 1; good = is_index w }) (a.same k (omega (arith, upto))); printed = refl }
special_alike ws vs word k s (suc (suc (suc (suc lower)))) some front n upto a =
    let l : ℕ = suc (suc (suc (suc lower))) in
    let first : special_at ws k s l ≡ plain (Imm (immediate_at ws k s)) (k + immediate_words s) = special_immediate ws k s l (omega arith) in
    let second : special_at vs k s l ≡ plain (Imm (immediate_at vs k s)) (k + immediate_words s) = special_immediate vs k s l (omega arith) in
    let upto_here : k + immediate_words s ≤ n = subst (λ m. m ≤ n) (ap (λ r. r.next) first) upto in
    let values : immediate_at ws k s ≡ immediate_at vs k s = value_same ws vs k s n upto_here a in
    let texts : immediate s ws word ≡ immediate s vs word = immediate_same ws vs word s n some (omega (arith, upto_here, front)) a in
    record {
      read = first ∙ ap (λ v. plain (Imm v) (k + immediate_words s)) values ∙ sym second;
      printed = ap (λ r. place s ws word r.ea) first ∙ texts ∙ sym (ap (λ r. place s vs word r.ea) first);
    }

alike : (ws vs : List ℕ) (word k : ℕ) (s : Size) (mode lower : ℕ) → mode < 8 → is_any s ≡ true → word ≤ k → (n : ℕ) → (operand_at ws k s mode lower).next ≤ n → Agree ws vs n → Alike ws vs word s (operand_at ws k s mode lower) (operand_at vs k s mode lower)
alike ws vs word k s zero lower m some front n upto a = record { read = refl; printed = refl }
alike ws vs word k s (suc zero) lower m some front n upto a = record { read = refl; printed = refl }
alike ws vs word k s (suc (suc zero)) lower m some front n upto a = record { read = refl; printed = refl }
alike ws vs word k s (suc (suc (suc zero))) lower m some front n upto a = record { read = refl; printed = refl }
alike ws vs word k s (suc (suc (suc (suc zero)))) lower m some front n upto a = record { read = refl; printed = refl }
alike ws vs word k s (suc (suc (suc (suc (suc zero))))) lower m some front n upto a = record { read = ap (λ w. plain (Disp lower (sign_extended w Two)) (k + 1)) (a.same k (omega (arith, upto))); printed = refl }
alike ws vs word k s (suc (suc (suc (suc (suc (suc zero)))))) lower m some front n upto a = record { read = ap (λ w. record { ea = EaIndexed lower (index_of w); next = k + 1; good = is_index w }) (a.same k (omega (arith, upto))); printed = refl }
alike ws vs word k s (suc (suc (suc (suc (suc (suc (suc zero))))))) lower m some front n upto a = special_alike ws vs word k s lower some front n upto a
alike ws vs word k s (suc (suc (suc (suc (suc (suc (suc (suc mode)))))))) lower m some front n upto a = absurd (omega (arith, m))

-- Rows.

-- a row makes the same of other words that agree on those of its instruction
pub record MakesSame (at : ℕ) (ws vs : List ℕ) (i : Instr68) (used : ℕ) (good : Bool) (other : Found) : Type 0 where
  pub some : 0 < used
  pub made : other ≡ Made i used good
  pub told : operands i ws at ≡ operands i vs at

abbrev pub IsSame : ℕ → List ℕ → List ℕ → Found → Found → Type 0
IsSame at ws vs (Made i used good) other = Agree ws vs used → MakesSame at ws vs i used good other
IsSame at ws vs RowPrivileged other = other ≡ RowPrivileged
IsSame at ws vs RowIllegal other = other ≡ RowIllegal

mode_of : (f : First) → IsFirst f → f.mode < 8
mode_of f g = g.4

pub same_one : (at : ℕ) (ws vs : List ℕ) (f : First) (g : IsFirst f) → (s : Size) → is_any s ≡ true → (make : Ea → Instr68) (build : Operand → List Operand) → ((us : List ℕ) (e : Ea) → operands (make e) us at ≡ build (place s us 1 e)) → IsSame at ws vs (one make s f ws) (one make s f vs)
same_one at ws vs f g s some make build is a =
    let e : Read = operand_at ws 1 s f.mode f.lower in
    let h : Alike ws vs 1 s e (operand_at vs 1 s f.mode f.lower) = alike ws vs 1 1 s f.mode f.lower (mode_of f g) some (omega arith) e.next (omega arith) a in
    record {
      some = omega (arith, next_from ws 1 s f.mode f.lower (mode_of f g));
      made = ap (λ r. taken (make r.ea) r) (sym h.read);
      told = is ws e.ea ∙ ap build h.printed ∙ sym (is vs e.ea);
    }

-- with a word in front of the operand's
pub same_second : (at : ℕ) (ws vs : List ℕ) (f : First) (g : IsFirst f) → (s : Size) → is_any s ≡ true → (make : ℕ → Ea → Instr68) (build : Operand → Operand → List Operand) (text : List ℕ → Operand) → ((us : List ℕ) (w : ℕ) (e : Ea) → operands (make w e) us at ≡ build (text us) (place s us 1 e)) → (slice_index ws 1 ≡ slice_index vs 1 → text ws ≡ text vs) → IsSame at ws vs (taken (make (slice_index ws 1) (operand_at ws 2 s f.mode f.lower).ea) (operand_at ws 2 s f.mode f.lower)) (taken (make (slice_index vs 1) (operand_at vs 2 s f.mode f.lower).ea) (operand_at vs 2 s f.mode f.lower))
same_second at ws vs f g s some make build text is texts a =
    let e : Read = operand_at ws 2 s f.mode f.lower in
    let h : Alike ws vs 1 s e (operand_at vs 2 s f.mode f.lower) = alike ws vs 1 2 s f.mode f.lower (mode_of f g) some (omega arith) e.next (omega arith) a in
    let from : 2 ≤ e.next = next_from ws 2 s f.mode f.lower (mode_of f g) in
    let first : slice_index ws 1 ≡ slice_index vs 1 = a.same 1 (omega (arith, from)) in
    record {
      some = omega (arith, from);
      made = ap (λ r. taken (make (slice_index vs 1) r.ea) r) (sym h.read) ∙ ap (λ w. taken (make w e.ea) e) (sym first);
      told = is ws (slice_index ws 1) e.ea ∙ ap (λ t. build t (place s ws 1 e.ea)) (texts first) ∙ ap (build (text vs)) h.printed ∙ sym (is vs (slice_index ws 1) e.ea);
    }

pub immediate_row : (at : ℕ) (ws vs : List ℕ) (f : First) (g : IsFirst f) → (s : Size) → is_any s ≡ true → (make : ℕ → Ea → Instr68) → ((us : List ℕ) (v : ℕ) (e : Ea) → operands (make v e) us at ≡ immediate s us 1 ∷ place s us 1 e ∷ []) → IsSame at ws vs (taken (make (immediate_at ws 1 s) (operand_at ws (1 + immediate_words s) s f.mode f.lower).ea) (operand_at ws (1 + immediate_words s) s f.mode f.lower)) (taken (make (immediate_at vs 1 s) (operand_at vs (1 + immediate_words s) s f.mode f.lower).ea) (operand_at vs (1 + immediate_words s) s f.mode f.lower))
immediate_row at ws vs f g s some make is a =
    let k : ℕ = 1 + immediate_words s in
    let e : Read = operand_at ws k s f.mode f.lower in
    let from : k ≤ e.next = next_from ws k s f.mode f.lower (mode_of f g) in
    let h : Alike ws vs 1 s e (operand_at vs k s f.mode f.lower) = alike ws vs 1 k s f.mode f.lower (mode_of f g) some (omega arith) e.next (omega arith) a in
    let values : immediate_at ws 1 s ≡ immediate_at vs 1 s = value_same ws vs 1 s e.next (omega (arith, from)) a in
    record {
      some = omega (arith, from);
      made = ap (λ r. taken (make (immediate_at vs 1 s) r.ea) r) (sym h.read) ∙ ap (λ v. taken (make v e.ea) e) (sym values);
      told = is ws (immediate_at ws 1 s) e.ea ∙ ap (λ t. t ∷ place s ws 1 e.ea ∷ []) (immediate_same ws vs 1 s e.next some (omega (arith, from)) a) ∙ ap (λ o. immediate s vs 1 ∷ o ∷ []) h.printed ∙ sym (is vs (immediate_at ws 1 s) e.ea);
    }

pub move_row : (at : ℕ) (ws vs : List ℕ) (f : First) (g : IsFirst f) → (s : Size) → is_any s ≡ true → (from other to also : Read) → from ≡ operand_at ws 1 s f.mode f.lower → other ≡ operand_at vs 1 s f.mode f.lower → to ≡ operand_at ws from.next s (move_mode f) f.upper → also ≡ operand_at vs other.next s (move_mode f) f.upper → IsSame at ws vs (Made (Move s from.ea to.ea) to.next (from.good && to.good)) (Made (Move s other.ea also.ea) also.next (other.good && also.good))
move_row at ws vs f g s some from other to also from_is other_is to_is also_is a =
    let m : move_mode f < 8 = omega (arith, g.2, g.3) in
    let first_next : 1 ≤ from.next = subst (λ r. 1 ≤ r.next) (sym from_is) (next_from ws 1 s f.mode f.lower (mode_of f g)) in
    let next : from.next ≤ to.next = subst (λ r. from.next ≤ r.next) (sym to_is) (next_from ws from.next s (move_mode f) f.upper m) in
    let first : Alike ws vs 1 s (operand_at ws 1 s f.mode f.lower) (operand_at vs 1 s f.mode f.lower) = alike ws vs 1 1 s f.mode f.lower (mode_of f g) some (omega arith) to.next (subst (λ r. r.next ≤ to.next) from_is next) a in
    let second : Alike ws vs 1 s (operand_at ws from.next s (move_mode f) f.upper) (operand_at vs from.next s (move_mode f) f.upper) = alike ws vs 1 from.next s (move_mode f) f.upper m some first_next to.next (subst (λ r. r.next ≤ to.next) to_is (omega arith)) a in
    let read : other ≡ from = other_is ∙ sym first.read ∙ sym from_is in
    let read_to : also ≡ to = also_is ∙ ap (λ r. operand_at vs r.next s (move_mode f) f.upper) read ∙ sym second.read ∙ sym to_is in
    record {
      some = omega (arith, first_next, next);
      made = ap (λ r. Made (Move s r.ea also.ea) also.next (r.good && also.good)) read ∙ ap (λ r. Made (Move s from.ea r.ea) r.next (from.good && r.good)) read_to;
      told = ap (λ o. o ∷ place s ws 1 to.ea ∷ []) (subst (λ r. place s ws 1 r.ea ≡ place s vs 1 r.ea) (sym from_is) first.printed) ∙ ap (λ o. place s vs 1 from.ea ∷ o ∷ []) (subst (λ r. place s ws 1 r.ea ≡ place s vs 1 r.ea) (sym to_is) second.printed);
    }

pub product_row : (at : ℕ) (ws vs : List ℕ) (f : First) (g : IsFirst f) → (make : Bool → Bool → Ea → ℕ → ℕ → Instr68) → ((us : List ℕ) (s v : Bool) (e : Ea) (h l : ℕ) → operands (make s v e h l) us at ≡ with_registers v h l us e) → IsSame at ws vs (by_registers make f ws) (by_registers make f vs)
product_row at ws vs f g make is a =
    let by : Read = operand_at ws 2 Four f.mode f.lower in
    let w : ℕ = slice_index ws 1 in
    let from : 2 ≤ by.next = next_from ws 2 Four f.mode f.lower (mode_of f g) in
    let h : Alike ws vs 2 Four by (operand_at vs 2 Four f.mode f.lower) = alike ws vs 2 2 Four f.mode f.lower (mode_of f g) refl (omega arith) by.next (omega arith) a in
    let first : w ≡ slice_index vs 1 = a.same 1 (omega (arith, from)) in
    let all : ℕ → Read → Found = λ x r. Made (make (is_signed x) (is_wide x) r.ea (high_of x) (low_of x)) r.next (is_register_word x && r.good) in
    record {
      some = omega (arith, from);
      made = ap (λ r. all (slice_index vs 1) r) (sym h.read) ∙ ap (λ x. all x by) (sym first);
      told = is ws (is_signed w) (is_wide w) by.ea (high_of w) (low_of w) ∙ ap (λ o. if is_wide w then o ∷ Pair (high_of w) (low_of w) ∷ [] else o ∷ Data (high_of w) ∷ Data (low_of w) ∷ []) h.printed ∙ sym (is vs (is_signed w) (is_wide w) by.ea (high_of w) (low_of w));
    }

-- an instruction whose operands are not in the words
pub same_word : (at : ℕ) (ws vs : List ℕ) (f : First) (g : IsFirst f) → (make : ℕ → Instr68) → ((w : ℕ) → operands (make w) ws at ≡ operands (make w) vs at) → IsSame at ws vs (Made (make (slice_index ws 1)) 2 true) (Made (make (slice_index vs 1)) 2 true)
same_word at ws vs f g make is a = record { some = omega arith; made = ap (λ w. Made (make w) 2 true) (sym (a.same 1 (omega arith))); told = is (slice_index ws 1) }

pub same_long : (at : ℕ) (ws vs : List ℕ) (f : First) (g : IsFirst f) → (make : ℕ → Instr68) → ((w : ℕ) → operands (make w) ws at ≡ operands (make w) vs at) → IsSame at ws vs (Made (make (long_at ws 1)) 3 true) (Made (make (long_at vs 1)) 3 true)
same_long at ws vs f g make is a = record { some = omega arith; made = ap (λ w. Made (make w) 3 true) (sym (long_same ws vs 1 (a.same 1 (omega arith)) (a.same 2 (omega arith)))); told = is (long_at ws 1) }

pub codes_row : (at : ℕ) (ws vs : List ℕ) (f : First) (g : IsFirst f) → IsSame at ws vs (Made (ImmediateToCcr (logic_op f.upper) (immediate_at ws 1 One)) 2 true) (Made (ImmediateToCcr (logic_op f.upper) (immediate_at vs 1 One)) 2 true)
codes_row at ws vs f g a =
    let e : slice_index ws 1 ≡ slice_index vs 1 = a.same 1 (omega arith) in
    record { some = omega arith; made = ap (λ w. Made (ImmediateToCcr (logic_op f.upper) (w % 256)) 2 true) (sym e); told = ap (λ w. Word w ∷ ConditionCodes ∷ []) e }

-- a mask of registers is in the instruction itself
masked : (at : ℕ) (ws vs : List ℕ) (f : First) (g : IsFirst f) → (s : Size) → is_any s ≡ true → (make : ℕ → Ea → Instr68) (build : ℕ → Operand → List Operand) → ((us : List ℕ) (w : ℕ) (e : Ea) → operands (make w e) us at ≡ build w (place s us 1 e)) → IsSame at ws vs (taken (make (slice_index ws 1) (operand_at ws 2 s f.mode f.lower).ea) (operand_at ws 2 s f.mode f.lower)) (taken (make (slice_index vs 1) (operand_at vs 2 s f.mode f.lower).ea) (operand_at vs 2 s f.mode f.lower))
masked at ws vs f g s some make build is a =
    let e : Read = operand_at ws 2 s f.mode f.lower in
    let h : Alike ws vs 1 s e (operand_at vs 2 s f.mode f.lower) = alike ws vs 1 2 s f.mode f.lower (mode_of f g) some (omega arith) e.next (omega arith) a in
    let from : 2 ≤ e.next = next_from ws 2 s f.mode f.lower (mode_of f g) in
    let first : slice_index ws 1 ≡ slice_index vs 1 = a.same 1 (omega (arith, from)) in
    record {
      some = omega (arith, from);
      made = ap (λ r. taken (make (slice_index vs 1) r.ea) r) (sym h.read) ∙ ap (λ w. taken (make w e.ea) e) (sym first);
      told = is ws (slice_index ws 1) e.ea ∙ ap (build (slice_index ws 1)) h.printed ∙ sym (is vs (slice_index ws 1) e.ea);
    }

pub masked_to : (at : ℕ) (ws vs : List ℕ) (f : First) (g : IsFirst f) → (s : Size) → is_any s ≡ true → IsSame at ws vs (taken (MovemToMemory s (slice_index ws 1) (operand_at ws 2 s f.mode f.lower).ea) (operand_at ws 2 s f.mode f.lower)) (taken (MovemToMemory s (slice_index vs 1) (operand_at vs 2 s f.mode f.lower).ea) (operand_at vs 2 s f.mode f.lower))
masked_to at ws vs f g s some = masked at ws vs f g s some (λ w e. MovemToMemory s w e) (λ w o. Word w ∷ o ∷ []) (λ us w e. refl)

pub masked_from : (at : ℕ) (ws vs : List ℕ) (f : First) (g : IsFirst f) → (s : Size) → is_any s ≡ true → IsSame at ws vs (taken (MovemFromMemory s (slice_index ws 1) (operand_at ws 2 s f.mode f.lower).ea) (operand_at ws 2 s f.mode f.lower)) (taken (MovemFromMemory s (slice_index vs 1) (operand_at vs 2 s f.mode f.lower).ea) (operand_at vs 2 s f.mode f.lower))
masked_from at ws vs f g s some = masked at ws vs f g s some (λ w e. MovemFromMemory s w e) (λ w o. o ∷ Word w ∷ []) (λ us w e. refl)
