-- What is read of a word's fields is an instruction that the word stands for.
use Rattle.std.proofs.Common.{◌≡◌, ◌↔◌, ℕ, ◌+◌, ◌*◌, ◌/◌, ◌^◌, ◌<◌, List, [], ◌∷◌, ◌++◌, Bool, true, false, ◌==◌, Option, Some, None, IfSome, if◌then◌else◌, arith, refl, sym, ◌∙◌, ap, subst}
use Rattle.std.proofs.lemmas.Bool.Decides.{nat_tests}
use Rattle.std.specs.Int.{from_bool}
use Rattle.mix_bits.specs.Digits.{digit_of}
use Rattle.ppc_isa.specs.declared.instruction.InstrPpc.{InstrPpc}
use Rattle.ppc_isa.specs.declared.instruction.InstrPpc.TheVariants.{MoveCondition}
use Rattle.ppc_isa.specs.declared.instruction.ConditionMove.TheVariants.{MoveToConditionFields}
use Rattle.ppc_isa.specs.declared.fields.Fields.{Fields}
use Rattle.ppc_isa.specs.declared.op.OpPpc.{OpPpc}
use Rattle.ppc_isa.specs.declared.op.OpPpc.TheVariants.{Mtcrf}
use Rattle.ppc_isa.specs.inner.FieldRanges.{IsFields, word_with}
use Rattle.ppc_isa.specs.Fields.{fields_of}
use Rattle.ppc_isa.specs.Valid.{InRange, Stands}
use Rattle.ppc_isa.specs.laws.Laws.{DecodedStands}
use Rattle.ppc_isa.specs.Made.{made}
use Rattle.ppc_isa.specs.Rows.{Row, decoded, found, instruction_in, is_allowed, is_in, rows_19, rows_31, rows_to_18, rows_to_29, rows_to_47, table}
use Rattle.ppc_isa.proofs.Forms.{read, whole}
use Rattle.ppc_isa.proofs.ReadBack.{decoded_word}

-- what is read, if anything, stands for the word
abbrev Reads : ℕ → Option InstrPpc → Type 0
Reads w read = IfSome read (λ i. Stands i w)

-- a row whose instruction each of its words stands for
abbrev IsGood : Row → Type 0
IsGood r = (f : Fields) → IsFields f → is_in r f ≡ true → is_allowed r f ≡ true → Reads (word_with f) (Some (instruction_in r f))

abbrev AreGood : List Row → Type 0
AreGood [] = Unit {0}
AreGood (r ∷ rows) = IsGood r × AreGood rows

rows_to_18-good : AreGood rows_to_18
rows_to_18-good = (λ f h p e. grind (arith, nat_tests), (λ f h p e. grind (arith, nat_tests), (λ f h p e. grind (arith, nat_tests), (λ f h p e. grind (arith, nat_tests), (λ f h p e. grind (arith, nat_tests), (λ f h p e. grind (arith, nat_tests), (λ f h p e. grind (arith, nat_tests), (λ f h p e. grind (arith, nat_tests), (λ f h p e. grind (arith, nat_tests), (λ f h p e. grind (arith, nat_tests), (λ f h p e. grind (arith, nat_tests), tt)))))))))))

rows_19-good : AreGood rows_19
rows_19-good = (λ f h p e. grind (arith, nat_tests), (λ f h p e. grind (arith, nat_tests), (λ f h p e. grind (arith, nat_tests), (λ f h p e. grind (arith, nat_tests), (λ f h p e. grind (arith, nat_tests), (λ f h p e. grind (arith, nat_tests), (λ f h p e. grind (arith, nat_tests), (λ f h p e. grind (arith, nat_tests), (λ f h p e. grind (arith, nat_tests), (λ f h p e. grind (arith, nat_tests), (λ f h p e. grind (arith, nat_tests), (λ f h p e. grind (arith, nat_tests), tt))))))))))))

rows_to_29-good : AreGood rows_to_29
rows_to_29-good = (λ f h p e. grind (arith, nat_tests), (λ f h p e. grind (arith, nat_tests), (λ f h p e. grind (arith, nat_tests), (λ f h p e. grind (arith, nat_tests), (λ f h p e. grind (arith, nat_tests), (λ f h p e. grind (arith, nat_tests), (λ f h p e. grind (arith, nat_tests), (λ f h p e. grind (arith, nat_tests), (λ f h p e. grind (arith, nat_tests), tt)))))))))

rows_31-good : AreGood rows_31
rows_31-good = (λ f h p e. grind (arith, nat_tests), (λ f h p e. grind (arith, nat_tests), (λ f h p e. grind (arith, nat_tests), (λ f h p e. grind (arith, nat_tests), (λ f h p e. grind (arith, nat_tests), (λ f h p e. grind (arith, nat_tests), (λ f h p e. grind (arith, nat_tests), (λ f h p e. grind (arith, nat_tests), (λ f h p e. grind (arith, nat_tests), (λ f h p e. grind (arith, nat_tests), (λ f h p e. grind (arith, nat_tests), (λ f h p e. grind (arith, nat_tests), (λ f h p e. grind (arith, nat_tests), (λ f h p e. grind (arith, nat_tests), (λ f h p e. grind (arith, nat_tests), (λ f h p e. grind (arith, nat_tests), (λ f h p e. grind (arith, nat_tests), (λ f h p e. grind (arith, nat_tests), (λ f h p e. grind (arith, nat_tests), (λ f h p e. grind (arith, nat_tests), (λ f h p e. grind (arith, nat_tests), (λ f h p e. grind (arith, nat_tests), (λ f h p e. grind (arith, nat_tests), (λ f h p e. grind (arith, nat_tests), (λ f h p e. grind (arith, nat_tests), (λ f h p e. grind (arith, nat_tests), (λ f h p e. grind (arith, nat_tests), (λ f h p e. grind (arith, nat_tests), (λ f h p e. grind (arith, nat_tests), (λ f h p e. grind (arith, nat_tests), (λ f h p e. grind (arith, nat_tests), (λ f h p e. grind (arith, nat_tests), (λ f h p e. grind (arith, nat_tests), (λ f h p e. grind (arith, nat_tests), (λ f h p e. grind (arith, nat_tests), (λ f h p e. grind (arith, nat_tests), (λ f h p e. grind (arith, nat_tests), (λ f h p e. grind (arith, nat_tests), (λ f h p e. grind (arith, nat_tests), (λ f h p e. grind (arith, nat_tests), (λ f h p e. grind (arith, nat_tests), (λ f h p e. grind (arith, nat_tests), (λ f h p e. grind (arith, nat_tests), (λ f h p e. grind (arith, nat_tests), (λ f h p e. grind (arith, nat_tests), (λ f h p e. grind (arith, nat_tests), (λ f h p e. grind (arith, nat_tests), (λ f h p e. grind (arith, nat_tests), (λ f h p e. grind (arith, nat_tests), (λ f h p e. grind (arith, nat_tests), (λ f h p e. grind (arith, nat_tests), (λ f h p e. grind (arith, nat_tests), (λ f h p e. grind (arith, nat_tests), (λ f h p e. grind (arith, nat_tests), (λ f h p e. grind (arith, nat_tests), (λ f h p e. grind (arith, nat_tests), (λ f h p e. grind (arith, nat_tests), (λ f h p e. grind (arith, nat_tests), (λ f h p e. grind (arith, nat_tests), (λ f h p e. grind (arith, nat_tests), (λ f h p e. grind (arith, nat_tests), (λ f h p e. grind (arith, nat_tests), (λ f h p e. grind (arith, nat_tests), (λ f h p e. grind (arith, nat_tests), (λ f h p e. grind (arith, nat_tests), (λ f h p e. grind (arith, nat_tests), tt))))))))))))))))))))))))))))))))))))))))))))))))))))))))))))))))))

rows_to_47-good : AreGood rows_to_47
rows_to_47-good = (λ f h p e. grind (arith, nat_tests), (λ f h p e. grind (arith, nat_tests), (λ f h p e. grind (arith, nat_tests), (λ f h p e. grind (arith, nat_tests), (λ f h p e. grind (arith, nat_tests), (λ f h p e. grind (arith, nat_tests), (λ f h p e. grind (arith, nat_tests), (λ f h p e. grind (arith, nat_tests), (λ f h p e. grind (arith, nat_tests), (λ f h p e. grind (arith, nat_tests), (λ f h p e. grind (arith, nat_tests), (λ f h p e. grind (arith, nat_tests), (λ f h p e. grind (arith, nat_tests), (λ f h p e. grind (arith, nat_tests), (λ f h p e. grind (arith, nat_tests), (λ f h p e. grind (arith, nat_tests), tt))))))))))))))))

all-good : (xs ys : List Row) → AreGood xs → AreGood ys → AreGood (xs ++ ys)
all-good [] ys good more = more
all-good (x ∷ xs) ys good more = (good.0, all-good xs ys good.1 more)

table-good : AreGood table
table-good =
    all-good rows_to_18 (rows_19 ++ rows_to_29 ++ rows_31 ++ rows_to_47) rows_to_18-good
    (all-good rows_19 (rows_to_29 ++ rows_31 ++ rows_to_47) rows_19-good
    (all-good rows_to_29 (rows_31 ++ rows_to_47) rows_to_29-good
    (all-good rows_31 rows_to_47 rows_31-good rows_to_47-good)))

chosen-reads : (w : ℕ) (within allowed : Bool) (i : InstrPpc) (rest : Option InstrPpc) → (within ≡ true → allowed ≡ true → Reads w (Some i)) → Reads w rest
    → Reads w (if within then (if allowed then Some i else None) else rest)
chosen-reads w true true i rest good more = good refl refl
chosen-reads w true false i rest good more = tt
chosen-reads w false allowed i rest good more = more

found-reads : (rows : List Row) (f : Fields) → IsFields f → AreGood rows → Reads (word_with f) (found rows f)
found-reads [] f h good = tt
found-reads (r ∷ rows) f h good =
    chosen-reads (word_with f) (is_in r f) (is_allowed r f) (instruction_in r f) (found rows f) (good.0 f h) (found-reads rows f h good.1)

last_bit : (n : ℕ) → n < 2 → from_bool (n == 1) ≡ n
last_bit n h = grind (arith, nat_tests)

are_fields : (w : ℕ) → w < 2 ^ 32 → IsFields (fields_of w)
are_fields w h =
    let last : from_bool (digit_of w 0 1 == 1) ≡ digit_of w 0 1 = last_bit (digit_of w 0 1) (omega arith) in record {
      op = omega (arith, h);
      d = omega arith;
      a = omega arith;
      b = omega arith;
      xo = omega arith;
      low = omega (arith, last);
    }

-- what is read stands for the word
word-reads : (w : ℕ) → w < 2 ^ 32 → Reads w (read (fields_of w))
word-reads w h = subst (λ (n : ℕ). Reads n (read (fields_of w))) (whole w h) (found-reads table (fields_of w) (are_fields w h) table-good)

pub decoded_stands : DecodedStands
unfolding decoded
decoded_stands w fits i =
    (λ h. subst (λ (o : Option InstrPpc). Reads w o) h (word-reads w fits), λ s. decoded_word i w s)

-- an answer that is the word's instruction
pub answer_stands : (w : ℕ) (answer : Option InstrPpc) → w < 2 ^ 32 → answer ≡ decoded w → (i : InstrPpc) → (answer ≡ Some i) ↔ Stands i w
answer_stands w answer fits is i = subst (λ (o : Option InstrPpc). (o ≡ Some i) ↔ Stands i w) (sym is) (decoded_stands w fits i)

pub answer_in_range : (w : ℕ) (answer : Option InstrPpc) → w < 2 ^ 32 → answer ≡ decoded w → IfSome answer InRange
answer_in_range w None fits is = tt
answer_in_range w (Some i) fits is = ((decoded_stands w fits i).0 (sym is)).0.0

-- the mask of fields that is read has eight bits
pub mask_fits : (w : ℕ) (op : OpPpc) → w < 2 ^ 32 → decoded w ≡ made op (fields_of w) → op ≡ Mtcrf → (fields_of w).a * 16 + (fields_of w).b / 2 < 256
mask_fits w op fits is mtcrf =
    let f : Fields = fields_of w in
    ((decoded_stands w fits (MoveCondition (MoveToConditionFields (f.a * 16 + f.b / 2) f.d))).0 (is ∙ ap (λ o. made o f) mtcrf)).0.0.0
