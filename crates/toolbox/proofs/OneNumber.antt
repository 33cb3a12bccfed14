-- A function has its own number, and a trap word has one.
use Rattle.std.proofs.Common.{◌≡◌, ℕ, ◌<◌, ◌≤◌, true, map, get_or, Option, Some, None, refl, sym, ap, ◌∙◌, subst, zero-add}
use Rattle.std.specs.List.{position, range_with_len}
use Rattle.std.proofs.lemmas.Bool.{eqb-true}
use Rattle.std.proofs.lemmas.List.{get_or-map, get_or_past}
use Rattle.std.proofs.lemmas.List.FromFn.{get_or-range_with_len}
use Rattle.std.proofs.lemmas.List.Quantifiers.{position-Some}
use Rattle.toolbox.specs.declared.function.Function.{Function}
use Rattle.toolbox.specs.declared.function.Function.TheVariants.{CallUniversalProc, UnloadSeg}
use Rattle.toolbox.specs.declared.table.Row.{Row}
use Rattle.toolbox.specs.declared.table.TheConstants.{FUNCTIONS, NOWHERE}
use Rattle.toolbox.specs.Table.{number_of, row}
use Rattle.toolbox.specs.inner.Parts.{rows, has_trap}
use Rattle.toolbox.specs.laws.Functions.{NumbersAreOwn}
use Rattle.toolbox.specs.Functions.{function_at, trap_number}
use Rattle.toolbox.specs.FunctionsClauses.{trap_of}
use Rattle.toolbox.specs.NamesClauses.{IsTrapIndex}
use Rattle.toolbox.specs.laws.Names.{TrapsAreNumbered, TrapsHaveOneNumber}

pub numbers-own : NumbersAreOwn
numbers-own UnloadSeg = refl
numbers-own f = refl

-- a number of the table is that of its function
numbers : map (λ (r : Row). number_of r.function) rows ≡ range_with_len 0 FUNCTIONS
numbers = refl

pub own-number : (k : ℕ) → k < FUNCTIONS → number_of (function_at k) ≡ k
own-number k lt =
    sym (get_or-map (λ (r : Row). number_of r.function) rows k NOWHERE 0 lt) ∙ ap (λ ns. get_or ns k 0) numbers ∙ get_or-range_with_len 0 FUNCTIONS k 0 lt ∙ zero-add k

word-is : (trap word : ℕ) → Some trap ≡ Some word → trap ≡ word
word-is trap word is = cc

no-word : (trap : Option ℕ) (word : ℕ) → trap ≡ None → trap ≡ Some word → ⊥
no-word trap word none is = let no = sym none ∙ is in cc

at-word : (f : Function) (word : ℕ) → trap_of f ≡ Some word → trap_number word ≡ Some (number_of f)
unfolding trap_number
at-word CallUniversalProc word is = absurd (no-word (trap_of CallUniversalProc) word refl is)
at-word f word is = subst (λ w. trap_number w ≡ Some (number_of f)) (word-is _ word is) refl

-- the row of a number is that of its function
its-row : (k : ℕ) → k < FUNCTIONS → get_or rows k NOWHERE ≡ row (function_at k)
its-row k lt = ap (λ n. get_or rows n NOWHERE) (sym (own-number k lt))

has-it : (trap : Option ℕ) (word : ℕ) → has_trap trap word ≡ true → trap ≡ Some word
has-it None word is = cc
has-it (Some trap) word is = ap Some (eqb-true trap word is)

trap-at : (word : ℕ) → trap_number word ≡ position (λ (r : Row). has_trap r.trap word) rows
unfolding trap_number
trap-at word = refl

index-by : (word : ℕ) (o : Option ℕ) → trap_number word ≡ o → IsTrapIndex word o
index-by word None is = λ f has. let no = sym is ∙ at-word f word has in cc
index-by word (Some k) is =
    let some = position-Some (λ (r : Row). has_trap r.trap word) rows k NOWHERE (sym (trap-at word) ∙ is) in
    (function_at k, ap (λ (r : Row). r.trap) (sym (its-row k some.0)) ∙ has-it (get_or rows k NOWHERE).trap word some.1, sym (own-number k some.0))

-- each number is that of the function with the word
pub index_from : TrapsAreNumbered
index_from word = index-by word (trap_number word) refl

none-found : (word : ℕ) (o : Option ℕ) → o ≡ trap_number word → IsTrapIndex word o → ((f : Function) → trap_of f ≡ Some word → ⊥) → o ≡ None
none-found word None is found none = refl
none-found word (Some k) is found none = absurd (none found.0 found.1)

pub one_number : TrapsHaveOneNumber
one_number word None none = none-found word (trap_number word) refl (index_from word) none
one_number word (Some k) found = at-word found.0 word found.1 ∙ ap Some (sym found.2)

-- no function has a number past the table
pub past_table : (k : ℕ) → FUNCTIONS ≤ k → function_at k ≡ UnloadSeg
past_table k past = ap (λ (r : Row). r.function) (get_or_past rows k NOWHERE past)
