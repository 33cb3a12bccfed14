-- A line gives what is assembled, and nothing else.
use Rattle.std.proofs.Common.{◌≡◌, ◌↔◌, ℕ, ◌%◌, ◌^◌, ◌<◌, ◌==◌, inl, inr, List, [], ◌∷◌, ◌++◌, codes, length, Bool, true, false, Option, Some, None, Result, Ok, Err, if◌then◌else◌, arith, refl, sym, ap, subst, ◌∙◌}
use Rattle.std.proofs.lemmas.Bool.{eqb-true, eq-eqb}
use Rattle.std.proofs.lemmas.Slice.Eq.{bytes_eq-Decides}
use Rattle.std.specs.Option.{is_some}
use Rattle.std.specs.Str.{bytes_eq}
use Rattle.m68_isa.specs.declared.instructions.Decoded68.{Decoded68}
use Rattle.m68_isa.specs.declared.instructions.Decoded68.TheVariants.{Op, LineA, LineF, Privileged, Illegal, Short}
use Rattle.m68_isa.specs.declared.instructions.Instr68.{Instr68}
use Rattle.m68_isa.specs.Decode.{decoded}
use Rattle.m68_text.specs.declared.operand.Operand.{Operand}
use Rattle.m68_text.specs.declared.operand.Operand.TheVariants.{Data, Pair, Address, Indirect, PostIncrement, PreDecrement, Displaced, Indexed, ShortAddress, LongAddress, PcDisplaced, PcIndexed, Byte, Word, Long, Number, ConditionCodes, StatusRegister, Target}
use Rattle.m68_text.specs.Listed.{is_name}
use Rattle.m68_text.specs.Operands.{hex}
use Rattle.m68_text.specs.Text.{text_of}
use Rattle.asm_m68.specs.declared.form.Form.{Form}
use Rattle.asm_m68.specs.declared.form.Form.TheVariants.{Always, Chosen, Data as DataWord, Far, Near, Registers}
use Rattle.asm_m68.specs.laws.Table.{form_by, form_of, rows_d}
use Rattle.asm_m68.proofs.FormNames.{is_listed}
use Rattle.asm_m68.specs.declared.code.Code68.{Code68}
use Rattle.asm_m68.specs.declared.operands.Parsed.{Parsed}
use Rattle.asm_m68.specs.Assembly.{AreWords}
use Rattle.asm_m68.specs.laws.SpellingLaws.{spelled_by}
use Rattle.mix_bits.specs.Names.{name_of}
use Rattle.mix_bits.specs.laws.Names.{rest_of}
use Rattle.asm_m68.specs.laws.Operands.{read_all}
use Rattle.asm_m68.specs.laws.Spelling.{Ending, content, contents, ending, following, is_word, leading, spelled}
use Rattle.asm_m68.specs.laws.Spelling.Ending.{Alone, Distance, Extended, Paired}
use Rattle.asm_m68.proofs.Spelled.{texts_spell, words_spell}
use Rattle.asm_m68.specs.declared.assembler.AsmError.{AsmError}
use Rattle.asm_m68.specs.declared.assembler.AsmError.TheVariants.{Name, Operands}
use Rattle.asm_m68.specs.Assembly.{Gives, IsData, IsText, data_text}
use Rattle.asm_m68.specs.KnownLines.{GivesSome}
use Rattle.asm_m68.specs.AssemblyClauses.{answer}
use Rattle.asm_m68.specs.inner.Answering.{assembled, checked, has_text, prints, tells, with_form}
use Rattle.asm_m68.specs.laws.AssemblyLaws.{GivenAreNamed, GivesOne}

-- What is spelled are words.

joined_words : (xs ys : List ℕ) → AreWords xs → AreWords ys → AreWords (xs ++ ys)
joined_words [] ys first second = second
joined_words (x ∷ xs) ys first second = (first.0, joined_words xs ys first.1 second)

content_words : (at : ℕ) (o : Operand) → AreWords (content at o)
content_words at (Displaced n d) = (omega arith, tt)
content_words at (Indexed n i) = (omega arith, tt)
content_words at (ShortAddress a) = (omega arith, tt)
content_words at (LongAddress a) = (omega arith, (omega arith, tt))
content_words at (PcDisplaced d) = (omega arith, tt)
content_words at (PcIndexed i) = (omega arith, tt)
content_words at (Word v) = (omega arith, tt)
content_words at (Long v) = (omega arith, (omega arith, tt))
content_words at (Target a) = (omega arith, tt)
content_words at (Data n) = tt
content_words at (Pair high low) = tt
content_words at (Address n) = tt
content_words at (Indirect n) = tt
content_words at (PostIncrement n) = tt
content_words at (PreDecrement n) = tt
content_words at (Byte v) = tt
content_words at (Number n) = tt
content_words at ConditionCodes = tt
content_words at StatusRegister = tt

contents_words : (at : ℕ) (o p : Operand) → AreWords (contents at o p)
contents_words at o p = by (is_word p)
  where
    by : (b : Bool) → AreWords (if b then content at p ++ content at o else content at o ++ content at p)
    by true = joined_words (content at p) (content at o) (content_words at p) (content_words at o)
    by false = joined_words (content at o) (content at p) (content_words at o) (content_words at p)

following_words : (e : Ending) (at : ℕ) (p : Parsed) → AreWords (following e at p)
following_words Alone at p = tt
following_words Distance at p = (omega arith, (omega arith, tt))
following_words (Paired registers) at p = (omega arith, content_words at p.first)
following_words Extended at p = contents_words at p.first p.second

spelled_words : (form : Form) (at : ℕ) (p : Parsed) → AreWords (spelled form at p)
spelled_words form at p = (omega arith, following_words (ending form) at p)

-- What is assembled is given.

same_text : (xs ys : List ℕ) → bytes_eq xs ys ≡ true → xs ≡ ys
same_text xs ys h = (bytes_eq-Decides xs ys).0 h

text_gives : (d : Decoded68) (ws : List ℕ) (at : ℕ) (line : List ℕ) → AreWords ws → decoded ws ≡ d → tells d ws at line ≡ true → IsText line at ws
text_gives (Op i used) ws at line are is h = by (used == length ws) refl h
  where
    by : (b : Bool) → (used == length ws) ≡ b → (if b then bytes_eq (text_of (Op i used) ws at) line else false) ≡ true → IsText line at ws
    by true e same = record {
      words = are;
      instruction = i;
      decodes = is ∙ ap (Op i) (eqb-true used (length ws) e);
      text = sym (ap (λ x. text_of x ws at) is ∙ same_text (text_of (Op i used) ws at) line same);
    }
    by false e same = cc
text_gives (LineA w) ws at line are is h = cc
text_gives LineF ws at line are is h = cc
text_gives Privileged ws at line are is h = cc
text_gives Illegal ws at line are is h = cc
text_gives Short ws at line are is h = cc

has_text_gives : (ws : List ℕ) (at : ℕ) (line : List ℕ) → AreWords ws → has_text ws at line ≡ true → Gives line at ws
has_text_gives ws at line are h = inr (text_gives (decoded ws) ws at line are refl h)

prints_gives : (form : Form) (at : ℕ) (p : Parsed) (line : List ℕ) → prints form (spelled form at p) at line ≡ true → Gives line at (spelled form at p)
prints_gives DataWord at p line h =
    let w : ℕ = leading DataWord at p % 65536 in
    inl (record { word = w; below = omega arith; alone = refl; text = sym (same_text (data_text w) line h) })
prints_gives (Always place base) at p line h = has_text_gives (spelled (Always place base) at p) at line (spelled_words (Always place base) at p) h
prints_gives (Near base) at p line h = has_text_gives (spelled (Near base) at p) at line (spelled_words (Near base) at p) h
prints_gives (Far base) at p line h = has_text_gives (spelled (Far base) at p) at line (spelled_words (Far base) at p) h
prints_gives (Registers base registers) at p line h = has_text_gives (spelled (Registers base registers) at p) at line (spelled_words (Registers base registers) at p) h
prints_gives (Chosen choice place base other word) at p line h = has_text_gives (spelled (Chosen choice place base other word) at p) at line (spelled_words (Chosen choice place base other word) at p) h

checked_gives : (form : Form) (ws : List ℕ) (at : ℕ) (line vs : List ℕ) → (prints form ws at line ≡ true → Gives line at ws) → checked form ws at line ≡ Ok vs → Gives line at vs
checked_gives form ws at line vs gives h = by (prints form ws at line) refl h
  where
    by : (b : Bool) → prints form ws at line ≡ b → (if b then Ok ws else Err Operands) ≡ Ok vs → Gives line at vs
    by true e is = let same : ws ≡ vs = cc in subst (Gives line at) same (gives e)
    by false e is = cc

form_gives : (o : Option Form) (line : List ℕ) (at : ℕ) (vs : List ℕ) → with_form o line at ≡ Ok vs → Gives line at vs
form_gives None line at vs h = cc
form_gives (Some form) line at vs h = checked_gives form (spelled form at (read_all (rest_of line))) at line vs (prints_gives form at (read_all (rest_of line)) line) h

-- What is given is assembled.

checked_text : (form : Form) (ws : List ℕ) (at : ℕ) (line : List ℕ) → prints form ws at line ≡ true → checked form ws at line ≡ Ok ws
checked_text form ws at line e = ap (λ b. if b then Ok ws else Err Operands) e

text_told : (d : Decoded68) (ws : List ℕ) (at : ℕ) (line : List ℕ) (i : Instr68) → d ≡ Op i (length ws) → line ≡ text_of d ws at → tells d ws at line ≡ true
text_told d ws at line i is text =
    let e : (length ws == length ws) ≡ true = eq-eqb (length ws) (length ws) refl in
    let same : bytes_eq (text_of (Op i (length ws)) ws at) line ≡ true = (bytes_eq-Decides (text_of (Op i (length ws)) ws at) line).1 (sym (text ∙ ap (λ x. text_of x ws at) is)) in
    ap (λ x. tells x ws at line) is ∙ ap (λ b. if b then bytes_eq (text_of (Op i (length ws)) ws at) line else false) e ∙ same

nothing_decoded : (ws : List ℕ) (i : Instr68) → [] ≡ ws → decoded ws ≡ Op i (length ws) → ⊥
nothing_decoded ws i e is = let h : decoded [] ≡ Op i (length ws) = ap decoded e ∙ is in cc

by_spelled : (form : Form) (ws vs : List ℕ) (at : ℕ) (line : List ℕ) → vs ≡ ws → prints form ws at line ≡ true → checked form vs at line ≡ Ok ws
by_spelled form ws vs at line e h = ap (λ x. checked form x at line) e ∙ checked_text form ws at line h

form_assembled : (o : Option Form) (line : List ℕ) (at : ℕ) (ws : List ℕ) (i : Instr68) → spelled_by o at (rest_of line) ≡ ws → decoded ws ≡ Op i (length ws) → has_text ws at line ≡ true → with_form o line at ≡ Ok ws
form_assembled None line at ws i e is h = absurd (nothing_decoded ws i e is)
form_assembled (Some DataWord) line at ws i e is h = absurd (nothing_decoded ws i e is)
form_assembled (Some (Always place base)) line at ws i e is h = by_spelled (Always place base) ws _ at line e h
form_assembled (Some (Near base)) line at ws i e is h = by_spelled (Near base) ws _ at line e h
form_assembled (Some (Far base)) line at ws i e is h = by_spelled (Far base) ws _ at line e h
form_assembled (Some (Registers base registers)) line at ws i e is h = by_spelled (Registers base registers) ws _ at line e h
form_assembled (Some (Chosen choice place base other word)) line at ws i e is h = by_spelled (Chosen choice place base other word) ws _ at line e h

text_assembled : (line : List ℕ) (at : ℕ) (ws : List ℕ) → at < 2 ^ 32 → IsText line at ws → assembled line at ≡ Ok ws
text_assembled line at ws fits t =
    let text : line ≡ text_of (Op t.instruction (length ws)) ws at = t.text ∙ ap (λ d. text_of d ws at) t.decodes in
    let spells : spelled_by (form_of (name_of line)) at (rest_of line) ≡ ws = ap (λ l. spelled_by (form_of (name_of l)) at (rest_of l)) text ∙ texts_spell at ws t.instruction fits t.words t.decodes in
    form_assembled (form_of (name_of line)) line at ws t.instruction spells t.decodes (text_told (decoded ws) ws at line t.instruction t.decodes t.text)

data_form : form_of (codes "dc.w") ≡ Some DataWord
unfolding form_of form_by rows_d
data_form = refl

data_assembled : (line : List ℕ) (at : ℕ) (ws : List ℕ) → IsData line ws → assembled line at ≡ Ok ws
data_assembled line at ws d =
    let named : name_of line ≡ codes "dc.w" = ap name_of d.text in
    let rest : rest_of line ≡ hex 4 d.word = ap rest_of d.text in
    let same : bytes_eq (data_text d.word) line ≡ true = (bytes_eq-Decides (data_text d.word) line).1 (sym d.text) in
    let spells : spelled DataWord at (read_all (rest_of line)) ≡ d.word ∷ [] = ap (λ t. spelled DataWord at (read_all t)) rest ∙ words_spell at d.word d.below in
    ap (λ o. with_form o line at) (ap form_of named ∙ data_form)
    ∙ by_spelled DataWord (d.word ∷ []) (spelled DataWord at (read_all (rest_of line))) at line spells same
    ∙ ap Ok (sym d.alone)

pub complete : (line : List ℕ) (at : ℕ) (ws : List ℕ) → at < 2 ^ 32 → Gives line at ws → assembled line at ≡ Ok ws
complete line at ws fits g = elim g [ inl word ↦ data_assembled line at ws word | inr text ↦ text_assembled line at ws fits text ]

same_words : (vs ws line : List ℕ) (at : ℕ) → assembled line at ≡ Ok vs → assembled line at ≡ Ok ws → vs ≡ ws
same_words vs ws line at ev ew = cc

pub gives_one : GivesOne
gives_one line at vs ws fits first second = same_words vs ws line at (complete line at vs fits first) (complete line at ws fits second)

-- A line that gives words gives those that it spells.

checked_spells : (form : Form) (vs : List ℕ) (at : ℕ) (line ws : List ℕ) → checked form vs at line ≡ Ok ws → vs ≡ ws
checked_spells form vs at line ws = by (prints form vs at line)
  where
    by : (b : Bool) → (if b then Ok vs else Err Operands) ≡ Ok ws → vs ≡ ws
    by true h = cc
    by false h = cc

pub known_words : (line : List ℕ) (at : ℕ) (form : Form) (vs : List ℕ) → at < 2 ^ 32 → GivesSome line at → form_of (name_of line) ≡ Some form → vs ≡ spelled form at (read_all (rest_of line)) → Gives line at vs
known_words line at form vs fits (ws, g) named is =
    let all : checked form (spelled form at (read_all (rest_of line))) at line ≡ Ok ws = sym (ap (λ o. with_form o line at) named) ∙ complete line at ws fits g in
    subst (Gives line at) (sym (is ∙ checked_spells form (spelled form at (read_all (rest_of line))) at line ws all)) g

pub known_form : {P : Type 0} (line : List ℕ) (at : ℕ) → at < 2 ^ 32 → GivesSome line at → form_of (name_of line) ≡ None → P
known_form {P} line at fits (ws, g) none = absurd (let all : with_form None line at ≡ Ok ws = sym (ap (λ o. with_form o line at) none) ∙ complete line at ws fits g in cc)

-- Names.

checked_is_named : (form : Form) (ws : List ℕ) (at : ℕ) (line : List ℕ) → checked form ws at line ≡ Err Name → ⊥
checked_is_named form ws at line = by (prints form ws at line)
  where
    by : (b : Bool) → (if b then Ok ws else Err Operands) ≡ Err Name → ⊥
    by true h = cc
    by false h = cc

unnamed : (o : Option Form) (line : List ℕ) (at : ℕ) → with_form o line at ≡ Err Name → is_some o ≡ false
unnamed None line at h = refl
unnamed (Some form) line at h = absurd (checked_is_named form (spelled form at (read_all (rest_of line))) at line h)

not_found : (o : Option Form) (line : List ℕ) (at : ℕ) → is_some o ≡ false → with_form o line at ≡ Err Name
not_found None line at h = refl
not_found (Some form) line at h = cc

named : (o : Option Form) (line : List ℕ) (at : ℕ) (ws : List ℕ) → with_form o line at ≡ Ok ws → is_some o ≡ true
named None line at ws h = cc
named (Some form) line at ws h = refl

pub given_named : GivenAreNamed
given_named line at ws fits g = sym (is_listed (name_of line)) ∙ named (form_of (name_of line)) line at ws (complete line at ws fits g)

-- The three answers.

answered_ok : (r : Result Code68 AsmError) (e : AsmError) → answer r ≡ Err e → r ≡ Err e
answered_ok (Ok code) e h = cc
answered_ok (Err d) e h = let same : d ≡ e = cc in ap Err same

answered : (r : Result Code68 AsmError) (e : AsmError) → r ≡ Err e → answer r ≡ Err e
answered r e h = ap answer h

pub words_exactly : (line : List ℕ) (at : ℕ) (r : Result Code68 AsmError) → at < 2 ^ 32 → answer r ≡ assembled line at → (ws : List ℕ) → (answer r ≡ Ok ws) ↔ Gives line at ws
words_exactly line at r fits is ws = (λ h. form_gives (form_of (name_of line)) line at ws (sym is ∙ h), λ g. is ∙ complete line at ws fits g)

pub name_exactly : (line : List ℕ) (at : ℕ) (r : Result Code68 AsmError) → answer r ≡ assembled line at → (r ≡ Err Name) ↔ (is_name (name_of line) ≡ false)
name_exactly line at r is = (
  λ h. sym (is_listed (name_of line)) ∙ unnamed (form_of (name_of line)) line at (sym is ∙ answered r Name h),
  λ h. answered_ok r Name (is ∙ not_found (form_of (name_of line)) line at (is_listed (name_of line) ∙ h)),
)

abbrev IsRefused : List ℕ → ℕ → Type 0
IsRefused line at = (is_name (name_of line) ≡ true) × ((ws : List ℕ) → Gives line at ws → ⊥)

true_not_false : (b : Bool) → b ≡ true → b ≡ false → ⊥
true_not_false b e h = cc

some_name : (b : Bool) → (b ≡ false → ⊥) → b ≡ true
some_name true h = refl
some_name false h = absurd (h refl)

operands_not_name : (r : Result Code68 AsmError) → r ≡ Err Operands → r ≡ Err Name → ⊥
operands_not_name r e h = cc

operands_not_words : (r : Result Code68 AsmError) (ws : List ℕ) → r ≡ Err Operands → answer r ≡ Ok ws → ⊥
operands_not_words r ws e h = let f : answer r ≡ Err Operands = ap answer e in cc

refused_operands : (r : Result Code68 AsmError) → ((ws : List ℕ) → answer r ≡ Ok ws → ⊥) → (r ≡ Err Name → ⊥) → r ≡ Err Operands
refused_operands (Ok code) words named = absurd (words _ refl)
refused_operands (Err Name) words named = absurd (named refl)
refused_operands (Err Operands) words named = refl

pub operands_exactly : (line : List ℕ) (at : ℕ) (r : Result Code68 AsmError) → at < 2 ^ 32 → answer r ≡ assembled line at → (r ≡ Err Operands) ↔ IsRefused line at
operands_exactly line at r fits is = (
  λ h. (
    some_name (is_name (name_of line)) (λ unknown. operands_not_name r h ((name_exactly line at r is).1 unknown)),
    λ ws g. operands_not_words r ws h ((words_exactly line at r fits is ws).1 g),
  ),
  λ refused. refused_operands r
      (λ ws e. refused.1 ws ((words_exactly line at r fits is ws).0 e))
      (λ e. true_not_false (is_name (name_of line)) refused.0 ((name_exactly line at r is).0 e)),
)
