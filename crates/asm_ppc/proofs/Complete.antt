-- A line gives what is assembled, and nothing else.
use Rattle.std.proofs.Common.{◌≡◌, ◌↔◌, ℕ, ◌+◌, ◌%◌, ◌^◌, ◌<◌, ◌||◌, inl, inr, List, [], ◌∷◌, ◌++◌, codes, map, Bool, true, false, Option, Some, None, Result, Ok, Err, if◌then◌else◌, arith, refl, sym, ap, subst, ◌∙◌}
use Rattle.std.proofs.lemmas.Slice.Eq.{bytes_eq-Decides}
use Rattle.std.specs.List.{list_any}
use Rattle.std.specs.Str.{bytes_eq}
use Rattle.mix_bits.specs.Names.{name_of}
use Rattle.mix_bits.specs.laws.Names.{rest_of}
use Rattle.ppc_isa.specs.declared.instruction.InstrPpc.{InstrPpc}
use Rattle.ppc_isa.specs.Rows.{decoded}
use Rattle.ppc_isa.specs.Valid.{Stands}
use Rattle.ppc_isa.proofs.Found.{decoded_stands}
use Rattle.ppc_text.specs.declared.operand.Operand.TheVariants.{Target}
use Rattle.ppc_text.specs.Listed.{is_name, names, shapes}
use Rattle.ppc_text.specs.Instructions.{name, operands}
use Rattle.ppc_text.specs.Operands.{operands_text}
use Rattle.ppc_text.specs.Text.{long_text, text_of, word_text}
use Rattle.asm_ppc.specs.declared.assembler.AsmError.{AsmError}
use Rattle.asm_ppc.specs.declared.assembler.AsmError.TheVariants.{Name, Operands}
use Rattle.asm_ppc.specs.declared.layout.Layout.{Layout}
use Rattle.asm_ppc.specs.declared.layout.Layout.TheVariants.{Long}
use Rattle.asm_ppc.specs.declared.layout.Spelling.{Spelling}
use Rattle.asm_ppc.specs.declared.numbers.Numbers.{Numbers}
use Rattle.asm_ppc.specs.Reading.{none, read}
use Rattle.asm_ppc.specs.inner.Spelling.{is_long, placed, spelled}
use Rattle.asm_ppc.specs.inner.Table.{Row, looked_up, lookup, table}
use Rattle.asm_ppc.specs.Assembly.{Gives}
use Rattle.asm_ppc.specs.KnownLines.{GivesSome}
use Rattle.asm_ppc.specs.inner.Answering.{assembled, checked, text_as, with_entry}
use Rattle.asm_ppc.specs.laws.AssemblyLaws.{GivenAreNamed, GivesOne}
use Rattle.asm_ppc.proofs.Texts.{all_taken, name-back, numbers-back}
use Rattle.asm_ppc.proofs.Rows.{Found, fit, found}

-- What is assembled is given.

text_gives : (layout : Layout) (w at : ℕ) (line : List ℕ) → w < 2 ^ 32 → text_as layout w at ≡ line → Gives line at w
text_gives layout w at line fits e = by (is_long layout) (sym e)
  where
    by : (b : Bool) → line ≡ (if b then long_text w else word_text w at) → Gives line at w
    by true h = (fits, inl h)
    by false h = (fits, inr h)

checked_gives : (layout : Layout) (w at : ℕ) (line : List ℕ) (v : ℕ) → w < 2 ^ 32 → checked layout w at line ≡ Ok v → Gives line at v
checked_gives layout w at line v fits = by (bytes_eq (text_as layout w at) line) refl
  where
    by : (b : Bool) → bytes_eq (text_as layout w at) line ≡ b → (if b then Ok w else Err Operands) ≡ Ok v → Gives line at v
    by true e h = let same : w ≡ v = cc in subst (Gives line at) same (text_gives layout w at line fits ((bytes_eq-Decides (text_as layout w at) line).0 e))
    by false e h = cc

entry_gives : (o : Option Spelling) (line : List ℕ) (at v : ℕ) → with_entry o line at ≡ Ok v → Gives line at v
entry_gives None line at v h = cc
entry_gives (Some s) line at v h = checked_gives s.layout (spelled s (read (rest_of line)) at) at line v (omega arith) h

-- What is given is assembled.

checked_text : (layout : Layout) (w at : ℕ) (line : List ℕ) → text_as layout w at ≡ line → checked layout w at line ≡ Ok w
checked_text layout w at line e = ap (λ b. if b then Ok w else Err Operands) ((bytes_eq-Decides (text_as layout w at) line).1 e)

-- by the entry of the line's name, its numbers and their sum
by_entry : (line : List ℕ) (at w : ℕ) (s : Spelling) (n : Numbers) → looked_up (name_of line) ≡ Some s → read (rest_of line) ≡ n → (s.word + placed s.layout n at) % 2 ^ 32 ≡ w → text_as s.layout w at ≡ line → assembled line at ≡ Ok w
by_entry line at w s n row numbers sum text =
    ap (λ o. with_entry o line at) row
    ∙ ap (λ m. checked s.layout (spelled s m at) at line) numbers
    ∙ ap (λ v. checked s.layout v at line) sum
    ∙ checked_text s.layout w at line text

instruction_assembled : (i : InstrPpc) (line : List ℕ) (at w : ℕ) → at < 2 ^ 32 → Stands i w → decoded w ≡ Some i → line ≡ name i ++ operands_text (operands i at) → assembled line at ≡ Ok w
instruction_assembled i line at w fits stands read_as is =
    let f : Found i at = found i at fits stands.0.0 in
    let named : name_of line ≡ name i = ap name_of is ∙ name-back (name i) (operands i at) f.clear in
    by_entry line at w (record { word = f.word; layout = f.layout }) (all_taken (operands i at) none)
    (ap looked_up named ∙ f.row)
    (ap (λ l. read (rest_of l)) is ∙ numbers-back (name i) (operands i at) f.clear (fit i at stands.0.0))
    (f.sum ∙ stands.0.1)
    (ap (λ b. if b then long_text w else word_text w at) f.is_instruction ∙ ap (λ o. text_of o w at) read_as ∙ sym is)

-- `.long` and a word in hexadecimal is a name and an operand
long_row : looked_up (codes ".long") ≡ Some (record { word = 0; layout = Long })
unfolding looked_up table
long_row = refl

long_assembled : (line : List ℕ) (at w : ℕ) → w < 2 ^ 32 → line ≡ long_text w → assembled line at ≡ Ok w
long_assembled line at w fits is =
    let named : name_of line ≡ codes ".long" = ap name_of is ∙ name-back (codes ".long") (Target w ∷ []) refl in
    by_entry line at w (record { word = 0; layout = Long }) (all_taken (Target w ∷ []) none)
    (ap looked_up named ∙ long_row)
    (ap (λ l. read (rest_of l)) is ∙ numbers-back (codes ".long") (Target w ∷ []) refl (fits, tt))
    (omega (arith, fits))
    (sym is)

word_assembled : (o : Option InstrPpc) (line : List ℕ) (at w : ℕ) → at < 2 ^ 32 → w < 2 ^ 32 → decoded w ≡ o → line ≡ text_of o w at → assembled line at ≡ Ok w
word_assembled None line at w fits small read_as is = long_assembled line at w small is
word_assembled (Some i) line at w fits small read_as is = instruction_assembled i line at w fits ((decoded_stands w small i).0 read_as) read_as is

pub complete : (line : List ℕ) (at w : ℕ) → at < 2 ^ 32 → Gives line at w → assembled line at ≡ Ok w
complete line at w fits g =
    elim g.1 [ inl long ↦ long_assembled line at w g.0 long | inr text ↦ word_assembled (decoded w) line at w fits g.0 refl text ]

same_word : (v w : ℕ) (line : List ℕ) (at : ℕ) → assembled line at ≡ Ok v → assembled line at ≡ Ok w → v ≡ w
same_word v w line at ev ew = cc

pub gives_one : GivesOne
gives_one line at v w fits first second = same_word v w line at (complete line at v fits first) (complete line at w fits second)

-- A line that gives a word gives the one that it spells.

checked_spells : (layout : Layout) (v at : ℕ) (line : List ℕ) (w : ℕ) → checked layout v at line ≡ Ok w → v ≡ w
checked_spells layout v at line w = by (bytes_eq (text_as layout v at) line)
  where
    by : (b : Bool) → (if b then Ok v else Err Operands) ≡ Ok w → v ≡ w
    by true h = cc
    by false h = cc

pub known_word : (line : List ℕ) (at : ℕ) (s : Spelling) (v : ℕ) → at < 2 ^ 32 → GivesSome line at → looked_up (name_of line) ≡ Some s → v ≡ spelled s (read (rest_of line)) at → Gives line at v
known_word line at s v fits (w, g) found is =
    let all : checked s.layout (spelled s (read (rest_of line)) at) at line ≡ Ok w = sym (ap (λ o. with_entry o line at) found) ∙ complete line at w fits g in
    subst (Gives line at) (sym (is ∙ checked_spells s.layout (spelled s (read (rest_of line)) at) at line w all)) g

pub known_entry : {P : Type 0} (line : List ℕ) (at : ℕ) → at < 2 ^ 32 → GivesSome line at → looked_up (name_of line) ≡ None → P
known_entry {P} line at fits (w, g) none = absurd (let all : with_entry None line at ≡ Ok w = sym (ap (λ o. with_entry o line at) none) ∙ complete line at w fits g in cc)

-- Names.

abbrev is_found : Option Spelling → Bool
is_found (Some s) = true
is_found None = false

found_step : (b : Bool) (s : Spelling) (rest : Option Spelling) (more : Bool) → is_found rest ≡ more → is_found (if b then Some s else rest) ≡ (b || more)
found_step true s rest more h = refl
found_step false s rest more h = h

lookup_finds : (n : List ℕ) (rs : List Row) → is_found (lookup n rs) ≡ list_any (λ m. bytes_eq m n) (map (λ r. r.0) rs)
lookup_finds n [] = refl
lookup_finds n (r ∷ rs) = found_step (bytes_eq r.0 n) (record { word = r.1; layout = r.2 }) (lookup n rs) (list_any (λ m. bytes_eq m n) (map (λ r. r.0) rs)) (lookup_finds n rs)

table_names : map (λ r. r.0) table ≡ names
unfolding table names shapes
table_names = refl

found_is_name : (n : List ℕ) → is_found (looked_up n) ≡ is_name n
unfolding looked_up
found_is_name n = lookup_finds n table ∙ ap (list_any (λ m. bytes_eq m n)) table_names

checked_is_named : (layout : Layout) (w at : ℕ) (line : List ℕ) → checked layout w at line ≡ Err Name → ⊥
checked_is_named layout w at line = by (bytes_eq (text_as layout w at) line)
  where
    by : (b : Bool) → (if b then Ok w else Err Operands) ≡ Err Name → ⊥
    by true h = cc
    by false h = cc

unnamed : (o : Option Spelling) (line : List ℕ) (at : ℕ) → with_entry o line at ≡ Err Name → is_found o ≡ false
unnamed None line at h = refl
unnamed (Some s) line at h = absurd (checked_is_named s.layout (spelled s (read (rest_of line)) at) at line h)

not_found : (o : Option Spelling) (line : List ℕ) (at : ℕ) → is_found o ≡ false → with_entry o line at ≡ Err Name
not_found None line at h = refl
not_found (Some s) line at h = cc

named : (o : Option Spelling) (line : List ℕ) (at w : ℕ) → with_entry o line at ≡ Ok w → is_found o ≡ true
named None line at w h = cc
named (Some s) line at w h = refl

pub given_named : GivenAreNamed
given_named line at w fits g = sym (found_is_name (name_of line)) ∙ named (looked_up (name_of line)) line at w (complete line at w fits g)

-- The three answers.

pub word_exactly : (line : List ℕ) (at : ℕ) (r : Result ℕ AsmError) → at < 2 ^ 32 → r ≡ assembled line at → (w : ℕ) → (r ≡ Ok w) ↔ Gives line at w
word_exactly line at r fits is w = (λ h. entry_gives (looked_up (name_of line)) line at w (sym is ∙ h), λ g. is ∙ complete line at w fits g)

pub name_exactly : (line : List ℕ) (at : ℕ) (r : Result ℕ AsmError) → r ≡ assembled line at → (r ≡ Err Name) ↔ (is_name (name_of line) ≡ false)
name_exactly line at r is = (
  λ h. sym (found_is_name (name_of line)) ∙ unnamed (looked_up (name_of line)) line at (sym is ∙ h),
  λ h. is ∙ not_found (looked_up (name_of line)) line at (found_is_name (name_of line) ∙ h),
)

abbrev IsRefused : List ℕ → ℕ → Type 0
IsRefused line at = (is_name (name_of line) ≡ true) × ((w : ℕ) → Gives line at w → ⊥)

true_not_false : (b : Bool) → b ≡ true → b ≡ false → ⊥
true_not_false b e h = cc

some_name : (b : Bool) → (b ≡ false → ⊥) → b ≡ true
some_name true h = refl
some_name false h = absurd (h refl)

operands_not_name : (r : Result ℕ AsmError) → r ≡ Err Operands → r ≡ Err Name → ⊥
operands_not_name r e h = cc

operands_not_word : (r : Result ℕ AsmError) (w : ℕ) → r ≡ Err Operands → r ≡ Ok w → ⊥
operands_not_word r w e h = cc

refused_operands : (line : List ℕ) (at : ℕ) (r : Result ℕ AsmError) → ((w : ℕ) → r ≡ Ok w → ⊥) → (r ≡ Err Name → ⊥) → r ≡ Err Operands
refused_operands line at (Ok w) word named = absurd (word w refl)
refused_operands line at (Err Name) word named = absurd (named refl)
refused_operands line at (Err Operands) word named = refl

pub operands_exactly : (line : List ℕ) (at : ℕ) (r : Result ℕ AsmError) → at < 2 ^ 32 → r ≡ assembled line at → (r ≡ Err Operands) ↔ IsRefused line at
operands_exactly line at r fits is = (
  λ h. (
    some_name (is_name (name_of line)) (λ unknown. operands_not_name r h ((name_exactly line at r is).1 unknown)),
    λ w g. operands_not_word r w h ((word_exactly line at r fits is w).1 g),
  ),
  λ refused. refused_operands line at r
      (λ w e. refused.1 w ((word_exactly line at r fits is w).0 e))
      (λ e. true_not_false (is_name (name_of line)) refused.0 ((name_exactly line at r is).0 e)),
)
