-- The table of relocations, row by row.
use Rattle.std.proofs.Common.{◌≡◌, ℕ, zero, suc, ◌+◌, ◌-◌, ◌*◌, ◌/◌, ◌%◌, ◌<◌, ◌≤◌, ◌==◌, nat_le, nat_lt, ◌&&◌, Bool, true, false, if◌then◌else◌, List, [], ◌∷◌, arith, refl, ap, ◌∙◌}
use Rattle.std.proofs.lemmas.Bool.Decides.{nat_tests}
use borrow.Author.Tests.{eqb-true, ltb-true}
use Rattle.mix_bits.specs.laws.Ranges.{every}
use Rattle.mix_bits.proofs.Every.{every_at}
use Rattle.pef_reloc.specs.declared.instruction.First.{First}
use Rattle.pef_reloc.specs.declared.instruction.First.TheVariants.{Two, NoRow}
use Rattle.pef_reloc.specs.declared.instruction.Large.TheVariants.{LgBySection, LgSetSectC, LgSetSectD}
use Rattle.pef_reloc.specs.Rows.{Row, rows, first_by, first_of}
use Rattle.pef_reloc.specs.laws.Laws.{HasAllRows, HasOneRow, IsSpelled, has_row, is_spelled, passing, rows_with}

at_most_one : every 7 0 (λ top. nat_lt (rows_with rows top) 2) ≡ true
at_most_one = refl

pub has_one_row : HasOneRow
has_one_row top below = ltb-true _ _ (every_at 7 (λ t. nat_lt (rows_with rows t) 2) top at_most_one below)

-- each row gives its words back
abbrev RowSpelled : Row → Type 0
RowSpelled r = (word : ℕ) → word < 65536 → r.from ≤ word / 512 → word / 512 ≤ r.to → is_spelled word (r.reads word) ≡ true

abbrev RowsSpelled : List Row → Type 0
RowsSpelled [] = Unit {0}
RowsSpelled (r ∷ rs) = RowSpelled r × RowsSpelled rs

same_test : (m n : ℕ) → m ≡ n → (m == n) ≡ true
same_test m n same = grind (arith, nat_tests)

from_test : (from to top : ℕ) → (nat_le from top && nat_le top to) ≡ true → (from ≤ top) × (top ≤ to)
from_test from to top is = grind (arith, nat_tests)

spelled_if : (has : Bool) (r : Row) (word : ℕ) (rest : First) → (nat_le r.from (word / 512) && nat_le (word / 512) r.to) ≡ has → word < 65536 → RowSpelled r → is_spelled word rest ≡ true → is_spelled word (if has then r.reads word else rest) ≡ true
spelled_if true r word rest is below here after = let within = from_test r.from r.to (word / 512) is in here word below within.0 within.1
spelled_if false r word rest is below here after = after

spelled_in : (rs : List Row) (word : ℕ) → word < 65536 → RowsSpelled rs → is_spelled word (first_by rs word) ≡ true
spelled_in [] word below all = refl
spelled_in (r ∷ rs) word below all = spelled_if (nat_le r.from (word / 512) && nat_le (word / 512) r.to) r word (first_by rs word) refl below all.0 (spelled_in rs word below all.1)

-- rows of one value of the top seven bits, with a count or a number in the others
counted : (code word : ℕ) → code ≤ word / 512 → word / 512 ≤ code → (code * 512 + (word % 512 + 1 - 1) == word) ≡ true
counted code word from to = same_test (code * 512 + (word % 512 + 1 - 1)) word (omega (arith, from, to))

numbered : (code word : ℕ) → code ≤ word / 512 → word / 512 ≤ code → (code * 512 + word % 512 == word) ≡ true
numbered code word from to = same_test (code * 512 + word % 512) word (omega (arith, from, to))

-- rows of two values
high : (code word : ℕ) → 2 * code ≤ word / 512 → word / 512 ≤ 2 * code + 1 → (code * 1024 + word % 1024 == word) ≡ true
high code word from to = same_test (code * 1024 + word % 1024) word (omega (arith, from, to))

skipped : (word : ℕ) → word / 512 ≤ 0x1F → (word / 64 % 256 * 64 + word % 64 == word) ≡ true
skipped word to = same_test (word / 64 % 256 * 64 + word % 64) word (omega (arith, to))

incremented : (word : ℕ) → 0x40 ≤ word / 512 → word / 512 ≤ 0x47 → (0x8000 + (word % 4096 + 1 - 1) == word) ≡ true
incremented word from to = same_test (0x8000 + (word % 4096 + 1 - 1)) word (omega (arith, from, to))

repeated : (word : ℕ) → 0x48 ≤ word / 512 → word / 512 ≤ 0x4F → (0x9000 + (word / 256 % 16 + 1 - 1) * 256 + (word % 256 + 1 - 1) == word) ≡ true
repeated word from to = same_test (0x9000 + (word / 256 % 16 + 1 - 1) * 256 + (word % 256 + 1 - 1)) word (omega (arith, from, to))

-- by the four bits that say what it does
abbrev set_or_by : Bool → Bool → Bool → ℕ → First
set_or_by a b c low = if a then Two LgBySection low else (if b then Two LgSetSectC low else (if c then Two LgSetSectD low else NoRow))

set_by : (a b c : Bool) (word : ℕ) → (word / 64 % 16 == 0) ≡ a → (word / 64 % 16 == 1) ≡ b → (word / 64 % 16 == 2) ≡ c → 0x5A ≤ word / 512 → word / 512 ≤ 0x5B → is_spelled word (set_or_by a b c (word % 64)) ≡ true
set_by true b c word first second third from to = same_test (0xB400 + word % 64) word (omega (arith, eqb-true _ _ first, from, to))
set_by false true c word first second third from to = same_test (0xB440 + word % 64) word (omega (arith, eqb-true _ _ second, from, to))
set_by false false true word first second third from to = same_test (0xB480 + word % 64) word (omega (arith, eqb-true _ _ third, from, to))
set_by false false false word first second third from to = refl

rows_spelled : RowsSpelled rows
rows_spelled =
    ((λ word below from to. skipped word to), ((λ word below from to. counted 0x20 word from to), ((λ word below from to. counted 0x21 word from to), ((λ word below from to. counted 0x22 word from to), ((λ word below from to. counted 0x23 word from to), ((λ word below from to. counted 0x24 word from to), ((λ word below from to. counted 0x25 word from to), ((λ word below from to. numbered 0x30 word from to), ((λ word below from to. numbered 0x31 word from to), ((λ word below from to. numbered 0x32 word from to), ((λ word below from to. numbered 0x33 word from to), ((λ word below from to. incremented word from to), ((λ word below from to. repeated word from to), ((λ word below from to. high 0x28 word from to), ((λ word below from to. high 0x29 word from to), ((λ word below from to. set_by (word / 64 % 16 == 0) (word / 64 % 16 == 1) (word / 64 % 16 == 2) word refl refl refl from to), tt))))))))))))))))

pub is_spelled_back : IsSpelled
is_spelled_back word below = spelled_in rows word below rows_spelled

-- whether a word has a row is said by its bits from the sixth on
abbrev SameRows : ℕ → ℕ → List Row → Type 0
SameRows m n [] = Unit {0}
SameRows m n (r ∷ rs) = (has_row (r.reads m) ≡ has_row (r.reads n)) × SameRows m n rs

same_if : (has : Bool) (x y u v : First) → has_row x ≡ has_row y → has_row u ≡ has_row v → has_row (if has then x else u) ≡ has_row (if has then y else v)
same_if true x y u v here after = here
same_if false x y u v here after = after

same_in : (rs : List Row) (m n : ℕ) → m / 512 ≡ n / 512 → SameRows m n rs → has_row (first_by rs m) ≡ has_row (first_by rs n)
same_in [] m n top all = refl
same_in (r ∷ rs) m n top all =
    same_if (nat_le r.from (m / 512) && nat_le (m / 512) r.to) (r.reads m) (r.reads n) (first_by rs m) (first_by rs n) all.0 (same_in rs m n top all.1)
    ∙ ap (λ t. has_row (if nat_le r.from t && nat_le t r.to then r.reads n else first_by rs n)) top

same_set : (a b c : Bool) (x y : ℕ) → has_row (set_or_by a b c x) ≡ has_row (set_or_by a b c y)
same_set true b c x y = refl
same_set false true c x y = refl
same_set false false true x y = refl
same_set false false false x y = refl

same_rows : (m n : ℕ) → m / 64 % 16 ≡ n / 64 % 16 → SameRows m n rows
same_rows m n bits =
    let last = same_set (m / 64 % 16 == 0) (m / 64 % 16 == 1) (m / 64 % 16 == 2) (m % 64) (n % 64) ∙ ap (λ b. has_row (set_or_by (b == 0) (b == 1) (b == 2) (n % 64))) bits in
    (refl, (refl, (refl, (refl, (refl, (refl, (refl, (refl, (refl, (refl, (refl, (refl, (refl, (refl, (refl, (last, tt))))))))))))))))

abbrev block : ℕ → Bool
block b = has_row (first_of (b * 64))

by_block : (word : ℕ) → has_row (first_of word) ≡ block (word / 64)
by_block word = same_in rows word (word / 64 * 64) (omega arith) (same_rows word (word / 64 * 64) (omega arith))

-- how many pass, where two numbers pass or fail together
halved : (k base : ℕ) (test half : ℕ → Bool) → ((n : ℕ) → test n ≡ half (n / 2)) → passing (suc k) base test ≡ 2 * passing k base half
halved zero base test half same =
    let low : test (base * 2) ≡ half base = same (base * 2) ∙ ap half (let n : base * 2 / 2 ≡ base = omega arith in n) in
    let high : test (base * 2 + 1) ≡ half base = same (base * 2 + 1) ∙ ap half (let n : (base * 2 + 1) / 2 ≡ base = omega arith in n) in
    rw (low, high) (omega arith)
halved (suc k) base test half same = let low = halved k (base * 2) test half same in let high = halved k (base * 2 + 1) test half same in omega (arith, low, high)

in_blocks : (k base : ℕ) (test : ℕ → Bool) → ((n : ℕ) → test n ≡ block (n / 64)) → passing (suc (suc (suc (suc (suc (suc k)))))) base test ≡ 64 * passing k base block
in_blocks k base test same =
    let a = halved (suc (suc (suc (suc (suc k))))) base test (λ n. block (n / 32)) (λ n. same n ∙ ap block (let e : n / 64 ≡ n / 2 / 32 = omega arith in e)) in
    let b = halved (suc (suc (suc (suc k)))) base (λ n. block (n / 32)) (λ n. block (n / 16)) (λ n. ap block (let e : n / 32 ≡ n / 2 / 16 = omega arith in e)) in
    let c = halved (suc (suc (suc k))) base (λ n. block (n / 16)) (λ n. block (n / 8)) (λ n. ap block (let e : n / 16 ≡ n / 2 / 8 = omega arith in e)) in
    let d = halved (suc (suc k)) base (λ n. block (n / 8)) (λ n. block (n / 4)) (λ n. ap block (let e : n / 8 ≡ n / 2 / 4 = omega arith in e)) in
    let e = halved (suc k) base (λ n. block (n / 4)) (λ n. block (n / 2)) (λ n. ap block (let e : n / 4 ≡ n / 2 / 2 = omega arith in e)) in
    let f = halved k base (λ n. block (n / 2)) block (λ n. refl) in
    omega (arith, a, b, c, d, e, f)

blocks : passing 10 0 block ≡ 499
blocks = refl

pub has_all_rows : HasAllRows
has_all_rows = in_blocks 10 0 (λ word. has_row (first_of word)) by_block ∙ ap (λ n. 64 * n) blocks
