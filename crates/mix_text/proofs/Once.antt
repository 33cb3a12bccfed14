-- A text gives one answer at most.
use Rattle.std.proofs.Common.{◌≡◌, ℕ, ◌+◌, ◌^◌, ◌<◌, ◌==◌, Bool, true, false, List, [], ◌∷◌, length, drop, Option, Some, None, Result, Ok, Err, arith, refl, sym, ap, subst, ◌∙◌}
use Rattle.std.specs.Prelude.{MatchBool}
use Rattle.mix_bits.specs.Addresses.{onward}
use Rattle.mix_bits.specs.declared.isa.Isa.{Isa}
use Rattle.mix_bits.specs.declared.isa.Isa.TheVariants.{M68, Ppc}
use Rattle.mix_bits.specs.Names.{name_of}
use Rattle.asm_m68.specs.Assembly.{Gives as GivesM68}
use Rattle.asm_m68.proofs.Complete.{gives_one as one_m68}
use Rattle.asm_ppc.specs.Assembly.{Gives as GivesPpc}
use Rattle.asm_ppc.proofs.Complete.{gives_one as one_ppc}
use Rattle.mix_text.specs.Lines.{address_in, is_silent, lines_of}
use Rattle.mix_text.specs.Assembling.{Assembles, IsAddressed, IsAnswer, IsGiven, IsInstruction, IsKnown, IsWithRest, before, long_bytes, refused_at, word_bytes}
use Rattle.mix_text.specs.laws.Laws.{AnswersOnce}
use Rattle.mix_text.specs.declared.refused.Reason.{Reason}
use Rattle.mix_text.specs.declared.refused.Reason.TheVariants.{Address, Name, Operands}
use Rattle.mix_text.specs.declared.refused.Refused.{Refused}

-- what holds of one answer at most
abbrev pub IsOne : {A : Type 0} → (A → Type 0) → Type 0
IsOne {A = A} Holds = (a b : A) → Holds a → Holds b → a ≡ b

-- a line that gives something has a name
known_by : {X : Type 0} (Gives : List ℕ → ℕ → X → Type 0) (line : List ℕ) (at : ℕ) (code : X) → at < 2 ^ 32 → Gives line at code → IsKnown Gives (name_of line)
known_by {X} Gives line at code fits given = record { line = line; at = at; fits = fits; code = code; gives = given; named = refl }

one_answer : {X : Type 0} (Gives : List ℕ → ℕ → X → Type 0) (bytes_of : X → List ℕ) (line : List ℕ) (at : ℕ) → at < 2 ^ 32 → IsOne (Gives line at) → IsOne (IsAnswer Gives bytes_of line at)
one_answer {X} Gives bytes_of line at fits one (Ok x) (Ok y) a b = ap Ok (a.2 ∙ ap bytes_of (one a.0 b.0 a.1 b.1) ∙ sym b.2)
one_answer {X} Gives bytes_of line at fits one (Ok x) (Err Address) a b = absurd b
one_answer {X} Gives bytes_of line at fits one (Ok x) (Err Name) a b = absurd (b (known_by Gives line at a.0 fits a.1))
one_answer {X} Gives bytes_of line at fits one (Ok x) (Err Operands) a b = absurd (b.1 a.0 a.1)
one_answer {X} Gives bytes_of line at fits one (Err Address) s a b = absurd a
one_answer {X} Gives bytes_of line at fits one (Err Name) (Ok y) a b = absurd (a (known_by Gives line at b.0 fits b.1))
one_answer {X} Gives bytes_of line at fits one (Err Name) (Err Address) a b = absurd b
one_answer {X} Gives bytes_of line at fits one (Err Name) (Err Name) a b = refl
one_answer {X} Gives bytes_of line at fits one (Err Name) (Err Operands) a b = absurd (a b.0)
one_answer {X} Gives bytes_of line at fits one (Err Operands) (Ok y) a b = absurd (a.1 b.0 b.1)
one_answer {X} Gives bytes_of line at fits one (Err Operands) (Err Address) a b = absurd b
one_answer {X} Gives bytes_of line at fits one (Err Operands) (Err Name) a b = absurd (b a.0)
one_answer {X} Gives bytes_of line at fits one (Err Operands) (Err Operands) a b = refl

one_instruction : (set : Isa) (line : List ℕ) (at : ℕ) → at < 2 ^ 32 → IsOne (IsInstruction set line at)
one_instruction M68 line at fits = one_answer GivesM68 word_bytes line at fits (λ vs ws. one_m68 line at vs ws fits)
one_instruction Ppc line at fits = one_answer GivesPpc long_bytes line at fits (λ v w. one_ppc line at v w fits)

-- of two ways, by a test
either_way : {A : Type 0} (b : Bool) (Yes No : A → Type 0) → IsOne Yes → IsOne No → IsOne (λ r. MatchBool b (Yes r) (No r))
either_way {A} true Yes No first second = first
either_way {A} false Yes No first second = second

just : {A : Type 0} (x : A) → IsOne (λ r. r ≡ x)
just {A} x a b p q = p ∙ sym q

one_addressed : (o : Option ℕ) (set : Isa) (line : List ℕ) (at : ℕ) → at < 2 ^ 32 → IsOne (IsAddressed o set line at)
one_addressed None set line at fits = one_instruction set line at fits
one_addressed (Some address) set line at fits = either_way (address == at) (IsInstruction set (drop 10 line) at) (λ r. r ≡ Err Address) (one_instruction set (drop 10 line) at fits) (just (Err Address))

pub one_given : (set : Isa) (line : List ℕ) (at : ℕ) → at < 2 ^ 32 → IsOne (IsGiven set line at)
one_given set line at fits = either_way (is_silent line) (λ r. r ≡ Ok []) (IsAddressed (address_in line) set line at) (just (Ok [])) (one_addressed (address_in line) set line at fits)

one_with_rest : (number : ℕ) (given other : Result (List ℕ) Reason) (Rest : ℕ → Result (List ℕ) Refused → Type 0) → given ≡ other → ((count : ℕ) → IsOne (Rest count)) → (a b : Result (List ℕ) Refused) → IsWithRest number given Rest a → IsWithRest number other Rest b → a ≡ b
one_with_rest number (Ok bytes) (Ok more) Rest same one a b first second =
    let e : bytes ≡ more = cc in
    let here : Rest (length more) first.0 = subst (λ xs. Rest (length xs) first.0) e first.1 in
    first.2 ∙ ap (λ xs. before xs first.0) e ∙ ap (before more) (one (length more) first.0 second.0 here second.1) ∙ sym second.2
one_with_rest number (Ok bytes) (Err reason) Rest same one a b first second = cc
one_with_rest number (Err reason) (Ok bytes) Rest same one a b first second = cc
one_with_rest number (Err reason) (Err other) Rest same one a b first second =
    let e : reason ≡ other = cc in
    first ∙ ap (λ r. Err (refused_at number r)) e ∙ sym second

one_of_lines : (lines : List (List ℕ)) (set : Isa) (number at : ℕ) → at < 2 ^ 32 → IsOne (Assembles set number at lines)
one_of_lines [] set number at fits a b first second = first ∙ sym second
one_of_lines (line ∷ lines) set number at fits a b first second =
    one_with_rest number first.0 second.0 (λ count rest. Assembles set (number + 1) (onward at count) lines rest)
    (one_given set line at fits first.0 second.0 first.1 second.1)
    (λ count. one_of_lines lines set (number + 1) (onward at count) (omega arith))
    a b first.2 second.2

pub answers_once : AnswersOnce
answers_once set at text a b fits first second = one_of_lines (lines_of text) set 1 at fits a b first second
