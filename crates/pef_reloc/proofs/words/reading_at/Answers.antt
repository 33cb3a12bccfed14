use Rattle.std.proofs.Common.{◌≡◌, ℕ, ◌+◌, ◌*◌, ◌<◌, ◌≤◌, nat_lt, true, false, length, if◌then◌else◌, Result, Ok, Err, arith, ap, sym, ◌∙◌}
use Rattle.std.proofs.lemmas.Bool.Decides.{nat_tests}
use Rattle.pef_reloc.specs.declared.error.RelocError.{RelocError}
use Rattle.pef_reloc.specs.declared.error.RelocError.TheVariants.{Short, Unsupported}
use Rattle.pef_reloc.specs.declared.instruction.First.TheVariants.{Two}
use Rattle.pef_reloc.specs.declared.instruction.Reading.{Reading}
use Rattle.pef_reloc.specs.declared.instruction.Reading.TheVariants.{Whole}
use Rattle.pef_reloc.specs.Program.{reading_by}
use Rattle.mix_bits.specs.Fields.{word_at}
use Rattle.pef_reloc.specs.Rows.{first_of, whole_of}
use Rattle.pef_reloc.proofs.Highs.{is_low}
use Rattle.pef_reloc.proofs.words.reading_at.Goals as goal

-- what stands at the end of the words, and before it
short : (m n : ℕ) (x y : Result Reading RelocError) → m < n → x ≡ (if nat_lt m n then x else y)
short m n x y is = ap (λ b. if b then x else y) (let test : true ≡ nat_lt m n = grind (arith, nat_tests) in test)

long : (m n : ℕ) (x y : Result Reading RelocError) → n ≤ m → y ≡ (if nat_lt m n then x else y)
long m n x y is = ap (λ b. if b then x else y) (let test : false ≡ nat_lt m n = grind (arith, nat_tests) in test)

pub returns-then-words-place : goal.returns-then-words-place
returns-then-words-place c =
    let words = c.args.words.now in
    let place = c.args.place in
    let is : Two c.in-Two.large c.in-Two.high ≡ first_of (word_at words place) = sym c.in-Two.is ∙ c.requires.first in
    short (length words) (place + 4) (Err (Short place)) (Ok (Whole (whole_of c.in-Two.large (c.in-Two.high * 65536 + word_at words (place + 2))))) c.if-words-place.true ∙ ap (reading_by words place) is

pub overflow_mul-high : goal.overflow_mul-high
overflow_mul-high c =
    let low = is_low (word_at c.args.words.now c.args.place) c.in-Two.large c.in-Two.high (sym c.in-Two.is ∙ c.requires.first) in
    omega (arith, low)

pub overflow_add-high : goal.overflow_add-high
overflow_add-high c =
    let low = is_low (word_at c.args.words.now c.args.place) c.in-Two.large c.in-Two.high (sym c.in-Two.is ∙ c.requires.first) in
    omega (arith, low, c.from-low.ensures, c.word_at.type_inv)

pub returns-in-One : goal.returns-in-One
returns-in-One c =
    let words = c.args.words.now in
    ap (reading_by words c.args.place) (sym c.in-One.is ∙ c.requires.first)

pub returns-else-words-place : goal.returns-else-words-place
returns-else-words-place c =
    let words = c.args.words.now in
    let place = c.args.place in
    let is : Two c.in-Two.large c.in-Two.high ≡ first_of (word_at words place) = sym c.in-Two.is ∙ c.requires.first in
    ap (λ i. Ok (Whole i)) (c.whole_of.ensures ∙ ap (λ n. whole_of c.in-Two.large (c.in-Two.high * 65536 + n)) (c.from-low.ensures ∙ c.word_at.ensures))
    ∙ long (length words) (place + 4) (Err (Short place)) (Ok (Whole (whole_of c.in-Two.large (c.in-Two.high * 65536 + word_at words (place + 2))))) c.if-words-place.false
    ∙ ap (reading_by words place) is

pub returns-in-Repeat : goal.returns-in-Repeat
returns-in-Repeat c =
    let words = c.args.words.now in
    ap (reading_by words c.args.place) (sym c.in-Repeat.is ∙ c.requires.first)

pub returns-in-NoRow : goal.returns-in-NoRow
returns-in-NoRow c =
    let words = c.args.words.now in
    ap (λ w. Err (Unsupported w)) (c.from.ensures ∙ c.word_at-in-NoRow.ensures)
    ∙ ap (reading_by words c.args.place) (sym c.in-NoRow.is ∙ c.requires.first)
