-- What the assemblers answer is what a line gives.
use Rattle.std.proofs.Common.{◌≡◌, ℕ, ◌-◌, ◌==◌, Bool, true, false, List, [], length, take, drop, arith, Some, Result, Ok, Err, IfOk, IfErr, sym, subst, refl}
use Rattle.std.specs.Prelude.{◌↔◌, MatchBool}
use Rattle.std.proofs.lemmas.List.{length-drop, take_all}
use Rattle.mix_bits.specs.declared.isa.Isa.{Isa}
use Rattle.mix_bits.specs.Names.{name_of}
use Rattle.m68_text.specs.Listed.{is_name as is_name_m68}
use Rattle.asm_m68.specs.declared.code.Code68.{Code68}
use Rattle.asm_m68.specs.Code.{kept}
use Rattle.asm_m68.specs.AssemblyClauses.{answer}
use Rattle.asm_m68.specs.Assembly.{Gives as GivesM68}
use Rattle.asm_m68.specs.declared.assembler.AsmError.{AsmError as ErrorM68}
use Rattle.asm_m68.specs.declared.assembler.AsmError.TheVariants.{Name as NameM68, Operands as OperandsM68}
use Rattle.ppc_text.specs.Listed.{is_name as is_name_ppc}
use Rattle.asm_ppc.specs.Assembly.{Gives as GivesPpc}
use Rattle.asm_ppc.specs.declared.assembler.AsmError.{AsmError as ErrorPpc}
use Rattle.asm_ppc.specs.declared.assembler.AsmError.TheVariants.{Name as NamePpc, Operands as OperandsPpc}
use Rattle.mix_text.specs.Lines.{address_in, is_silent}
use Rattle.mix_text.specs.Assembling.{IsM68, IsAddressed, IsGiven, IsInstruction, IsPpc, long_bytes, word_bytes}
use Rattle.mix_text.proofs.Known.{known_m68, known_ppc, listed_m68, listed_ppc, unknown}
use Rattle.mix_text.specs.inner.Parts.{GivesBytes, SpellsBytes, reason_m68, reason_ppc}
use Rattle.mix_text.specs.declared.refused.Reason.{Reason}
use Rattle.mix_text.specs.declared.refused.Reason.TheVariants.{Address}

-- what the clauses of an assembler say of one line
abbrev pub WordsM68 : List ℕ → ℕ → Result Code68 ErrorM68 → Type 0
WordsM68 line at r = (ws : List ℕ) → (answer r ≡ Ok ws) ↔ GivesM68 line at ws

abbrev pub NameM68Is : List ℕ → Result Code68 ErrorM68 → Type 0
NameM68Is line r = (r ≡ Err NameM68) ↔ (is_name_m68 (name_of line) ≡ false)

abbrev pub OperandsM68Are : List ℕ → ℕ → Result Code68 ErrorM68 → Type 0
OperandsM68Are line at r = (r ≡ Err OperandsM68) ↔ ((is_name_m68 (name_of line) ≡ true) × ((ws : List ℕ) → GivesM68 line at ws → ⊥))

pub words-68k : (line : List ℕ) (at : ℕ) (code : Code68) (bytes : List ℕ) → WordsM68 line at (Ok code) → bytes ≡ word_bytes (kept code) → IsM68 line at (Ok bytes)
words-68k line at code bytes words is = (kept code, (words (kept code)).0 refl, is)

is-refused : (line : List ℕ) (at : ℕ) (e : ErrorM68) → NameM68Is line (Err e) → OperandsM68Are line at (Err e) → IsM68 line at (Err (reason_m68 e))
is-refused line at NameM68 named operands = unknown (is_name_m68 (name_of line)) (listed_m68 (name_of line)) (named.0 refl)
is-refused line at OperandsM68 named operands = let none = operands.0 refl in (known_m68 (name_of line) none.0, none.1)

pub refused-68k : (line : List ℕ) (at : ℕ) (e : ErrorM68) (reason : Reason) → NameM68Is line (Err e) → OperandsM68Are line at (Err e) → reason ≡ reason_m68 e → IsM68 line at (Err reason)
refused-68k line at e reason named operands is = subst (λ x. IsM68 line at (Err x)) (sym is) (is-refused line at e named operands)

-- the same of PowerPC code
abbrev pub WordPpc : List ℕ → ℕ → Result ℕ ErrorPpc → Type 0
WordPpc line at r = (w : ℕ) → (r ≡ Ok w) ↔ GivesPpc line at w

abbrev pub NamePpcIs : List ℕ → Result ℕ ErrorPpc → Type 0
NamePpcIs line r = (r ≡ Err NamePpc) ↔ (is_name_ppc (name_of line) ≡ false)

abbrev pub OperandsPpcAre : List ℕ → ℕ → Result ℕ ErrorPpc → Type 0
OperandsPpcAre line at r = (r ≡ Err OperandsPpc) ↔ ((is_name_ppc (name_of line) ≡ true) × ((w : ℕ) → GivesPpc line at w → ⊥))

pub word-ppc : (line : List ℕ) (at word : ℕ) (bytes : List ℕ) → WordPpc line at (Ok word) → bytes ≡ long_bytes word → IsPpc line at (Ok bytes)
word-ppc line at word bytes words is = (word, (words word).0 refl, is)

ppc-refused : (line : List ℕ) (at : ℕ) (e : ErrorPpc) → NamePpcIs line (Err e) → OperandsPpcAre line at (Err e) → IsPpc line at (Err (reason_ppc e))
ppc-refused line at NamePpc named operands = unknown (is_name_ppc (name_of line)) (listed_ppc (name_of line)) (named.0 refl)
ppc-refused line at OperandsPpc named operands = let none = operands.0 refl in (known_ppc (name_of line) none.0, none.1)

pub refused-ppc : (line : List ℕ) (at : ℕ) (e : ErrorPpc) (reason : Reason) → NamePpcIs line (Err e) → OperandsPpcAre line at (Err e) → reason ≡ reason_ppc e → IsPpc line at (Err reason)
refused-ppc line at e reason named operands is = subst (λ x. IsPpc line at (Err x)) (sym is) (ppc-refused line at e named operands)

-- a whole line
spoken : (set : Isa) (line : List ℕ) (at : ℕ) (given : Result (List ℕ) Reason) → is_silent line ≡ false → IsAddressed (address_in line) set line at given → IsGiven set line at given
spoken set line at given loud own = subst (λ b. MatchBool b (given ≡ Ok []) (IsAddressed (address_in line) set line at given)) (sym loud) own

pub given-addressed : (set : Isa) (line : List ℕ) (at address : ℕ) (given : Result (List ℕ) Reason) → is_silent line ≡ false → address_in line ≡ Some address → (address == at) ≡ true
    → IsInstruction set (drop 10 line) at given → IsGiven set line at given
given-addressed set line at address given loud some same own =
    spoken set line at given loud
    (subst (λ o. IsAddressed o set line at given) (sym some) (subst (λ b. MatchBool b (IsInstruction set (drop 10 line) at given) (given ≡ Err Address)) (sym same) own))

-- what stands behind ten bytes
behind-ten : (line : List ℕ) → take (length line - 10) (drop 10 line) ≡ drop 10 line
behind-ten line = take_all (length line - 10) (drop 10 line) (omega (arith, length-drop 10 line))

-- as a line answers, whatever it does
pub addressed-ok : {A : Type 0} (r : Result A Reason) (bytes : A → List ℕ) (set : Isa) (line : List ℕ) (at address : ℕ) → is_silent line ≡ false → address_in line ≡ Some address
    → (address == at) ≡ true → IfOk r (λ b. IsInstruction set (take (length line - 10) (drop 10 line)) at (Ok (bytes b))) → IfOk r (λ b. IsGiven set line at (Ok (bytes b)))
addressed-ok {A} (Ok b) bytes set line at address loud some same own =
    given-addressed set line at address (Ok (bytes b)) loud some same (subst (λ l. IsInstruction set l at (Ok (bytes b))) (behind-ten line) own)
addressed-ok {A} (Err reason) bytes set line at address loud some same own = tt

pub addressed-err : {A : Type 0} (r : Result A Reason) (set : Isa) (line : List ℕ) (at address : ℕ) → is_silent line ≡ false → address_in line ≡ Some address
    → (address == at) ≡ true → IfErr r (λ reason. IsInstruction set (take (length line - 10) (drop 10 line)) at (Err reason)) → IfErr r (λ reason. IsGiven set line at (Err reason))
addressed-err {A} (Ok b) set line at address loud some same own = tt
addressed-err {A} (Err reason) set line at address loud some same own =
    given-addressed set line at address (Err reason) loud some same (subst (λ l. IsInstruction set l at (Err reason)) (behind-ten line) own)

-- A line that is known to give bytes.

known-spoken : (set : Isa) (line : List ℕ) (at : ℕ) → is_silent line ≡ false → GivesBytes set line at → (bytes : List ℕ) × IsAddressed (address_in line) set line at (Ok bytes)
known-spoken set line at loud (bytes, is) =
    let given : Result (List ℕ) Reason = Ok bytes in
    (bytes, subst (λ b. MatchBool b (given ≡ Ok []) (IsAddressed (address_in line) set line at given)) loud is)

-- its address is the line's
record IsOwn (set : Isa) (line : List ℕ) (at address : ℕ) : Type 0 where
  same : (address == at) ≡ true
  spells : SpellsBytes set (drop 10 line) at

own-by : (b : Bool) (set : Isa) (line : List ℕ) (at address : ℕ) (bytes : List ℕ) → (address == at) ≡ b → MatchBool b (IsInstruction set (drop 10 line) at (Ok bytes)) (Ok bytes ≡ Err Address) → IsOwn set line at address
own-by true set line at address bytes is own = record { same = is; spells = (bytes, own) }
own-by false set line at address bytes is own = cc

is-own : (set : Isa) (line : List ℕ) (at address : ℕ) → is_silent line ≡ false → address_in line ≡ Some address → GivesBytes set line at → IsOwn set line at address
is-own set line at address loud some known =
    let own = known-spoken set line at loud known in
    own-by (address == at) set line at address own.0 refl (subst (λ o. IsAddressed o set line at (Ok own.0)) some own.1)

pub known-behind : (set : Isa) (line : List ℕ) (at address : ℕ) → is_silent line ≡ false → address_in line ≡ Some address → GivesBytes set line at → SpellsBytes set (take (length line - 10) (drop 10 line)) at
known-behind set line at address loud some known = subst (λ l. SpellsBytes set l at) (sym (behind-ten line)) (is-own set line at address loud some known).spells

pub behind-given : (set : Isa) (line : List ℕ) (at address : ℕ) (given : Result (List ℕ) Reason) → is_silent line ≡ false → address_in line ≡ Some address → GivesBytes set line at
    → IsInstruction set (take (length line - 10) (drop 10 line)) at given → IsGiven set line at given
behind-given set line at address given loud some known own =
    given-addressed set line at address given loud some (is-own set line at address loud some known).same (subst (λ l. IsInstruction set l at given) (behind-ten line) own)
