-- Numbers that are none of a table's keys, and rows that share no word.
use Rattle.std.proofs.Common.{◌≡◌, ◌≢◌, ℕ, ◌+◌, ◌*◌, ◌%◌, ◌<◌, ◌≤◌, ◌==◌, ◌&&◌, ◌||◌, not, Bool, true, false, List, [], ◌∷◌, if◌then◌else◌, cond, arith, refl, ap}
use Rattle.std.proofs.lemmas.Bool.Decides.{nat_tests}
use Rattle.std.proofs.lemmas.List.Sums.{sum_by-cons}
use Rattle.std.specs.List.{count_by}
use Rattle.mix_bits.proofs.Conditions.{both}
use Rattle.ppc_isa.specs.declared.fields.Fields.{Fields}
use Rattle.ppc_isa.specs.Fields.{fields_of}
use Rattle.ppc_isa.specs.laws.Laws.{RowsAreApart}
use Rattle.ppc_isa.specs.Rows.{Extended, Key, Marks, Row, Special, Whole, has_key, has_oe, is_in, row, table}

pub apart : (n k : ℕ) → n ≢ k → (n == k) ≡ false
apart n k other = grind (arith, nat_tests, other)

-- an extended opcode of nine bits, with OE before it
pub apart_both : (n k : ℕ) → n < 1024 → k < 512 → n ≢ k → n ≢ k + 512 → ((n % 512) == k) ≡ false
apart_both n k below low other more = apart (n % 512) k (λ is. absurd (omega arith))

-- extended opcodes of which one may have nine bits
abbrev are_apart : Bool → ℕ → ℕ → Bool
are_apart true n k = not ((n % 512) == (k % 512))
are_apart false n k = not (n == k)

abbrev keys_apart : Key → Marks → Key → Marks → Bool
keys_apart (Extended n) m (Extended k) l = are_apart (has_oe m || has_oe l) n k
keys_apart (Extended n) m (Special k p) l = are_apart (has_oe m || false) n k
keys_apart (Special n p) m (Extended k) l = are_apart (has_oe l) n k
keys_apart (Special n p) m (Special k q) l = if n == k then not (p == q) else true
keys_apart _ m _ l = false

abbrev rows_apart : Row → Row → Bool
rows_apart (row p n m _ _) (row q k l _ _) = if p == q then keys_apart n m k l else true

abbrev all_apart : Row → List Row → Bool
all_apart r [] = true
all_apart r (s ∷ rows) = if rows_apart r s then all_apart r rows else false

abbrev distinct : List Row → Bool
distinct [] = true
distinct (r ∷ rows) = if all_apart r rows then distinct rows else false

table_distinct : distinct table ≡ true
table_distinct = refl

numbers_clash : (nine ten : Bool) (x n k : ℕ) → are_apart (nine || ten) n k ≡ true
    → ((if nine then x % 512 else x) == n) ≡ true → ((if ten then x % 512 else x) == k) ≡ false
numbers_clash true true x n k other is = grind (arith, nat_tests)
numbers_clash true false x n k other is = grind (arith, nat_tests)
numbers_clash false true x n k other is = grind (arith, nat_tests)
numbers_clash false false x n k other is = grind (arith, nat_tests)

left : (b c : Bool) → (b && c) ≡ true → b ≡ true
left true c h = refl
left false c h = h

specials_clash : (x y n k p q : ℕ) → (if n == k then not (p == q) else true) ≡ true → ((x == n) && (y == p)) ≡ true → ((x == k) && (y == q)) ≡ false
specials_clash x y n k p q other is = grind (arith, nat_tests)

keys_clash : (n : Key) (m : Marks) (k : Key) (l : Marks) (f : Fields) → keys_apart n m k l ≡ true → has_key n m f ≡ true → has_key k l f ≡ false
keys_clash (Extended n) m (Extended k) l f other is = numbers_clash (has_oe m) (has_oe l) f.xo n k other is
keys_clash (Extended n) m (Special k p) l f other is = ap (λ b. b && ((f.b * 32 + f.a) == p)) (numbers_clash (has_oe m) false f.xo n k other is)
keys_clash (Special n p) m (Extended k) l f other is = numbers_clash false (has_oe l) f.xo n k other (left (f.xo == n) ((f.b * 32 + f.a) == p) is)
keys_clash (Special n p) m (Special k q) l f other is = specials_clash f.xo (f.b * 32 + f.a) n k p q other is
keys_clash (Extended n) m Whole l f other is = cc
keys_clash (Special n p) m Whole l f other is = cc
keys_clash Whole m Whole l f other is = cc
keys_clash Whole m (Extended k) l f other is = cc
keys_clash Whole m (Special k q) l f other is = cc

opcodes_clash : (x p q : ℕ) (apart_keys has other_has : Bool) → (if p == q then apart_keys else true) ≡ true → ((x == p) && has) ≡ true
    → (apart_keys ≡ true → has ≡ true → other_has ≡ false) → ((x == q) && other_has) ≡ false
opcodes_clash x p q apart_keys has other_has other is clash = grind (arith, nat_tests, clash)

rows_clash : (r s : Row) (f : Fields) → rows_apart r s ≡ true → is_in r f ≡ true → is_in s f ≡ false
rows_clash (row p n m _ _) (row q k l _ _) f other is = opcodes_clash f.op p q (keys_apart n m k l) (has_key n m f) (has_key k l f) other is (keys_clash n m k l f)

none_counted : (r : Row) (rows : List Row) (f : Fields) → all_apart r rows ≡ true → is_in r f ≡ true → count_by (λ s. is_in s f) rows ≡ 0
none_counted r [] f other is = refl
none_counted r (s ∷ rows) f other is =
    let parts : (rows_apart r s ≡ true) × (all_apart r rows ≡ true) = both (rows_apart r s) (all_apart r rows) other in
    omega (arith, sum_by-cons (λ t. cond (is_in t f) 1 0) s rows, ap {B = ℕ} (λ b. cond b 1 0) (rows_clash r s f parts.0 is), none_counted r rows f parts.1 is)

counted : (rows : List Row) (f : Fields) → distinct rows ≡ true → count_by (λ s. is_in s f) rows ≤ 1
counted [] f h = omega arith
counted (r ∷ rows) f h =
    let parts : (all_apart r rows ≡ true) × (distinct rows ≡ true) = both (all_apart r rows) (distinct rows) h in
    by (none_counted r rows f parts.0) (counted rows f parts.1) (is_in r f) refl
  where
    by : (is_in r f ≡ true → count_by (λ s. is_in s f) rows ≡ 0) → count_by (λ s. is_in s f) rows ≤ 1
        → (b : Bool) → is_in r f ≡ b → count_by (λ s. is_in s f) (r ∷ rows) ≤ 1
    by none most true is = omega (arith, sum_by-cons (λ t. cond (is_in t f) 1 0) r rows, ap {B = ℕ} (λ b. cond b 1 0) is, none is)
    by none most false is = omega (arith, sum_by-cons (λ t. cond (is_in t f) 1 0) r rows, ap {B = ℕ} (λ b. cond b 1 0) is, most)

pub rows_are_apart : RowsAreApart
rows_are_apart w = counted table (fields_of w) table_distinct
