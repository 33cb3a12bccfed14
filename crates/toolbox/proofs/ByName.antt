-- A host function is found by its library and name.
use Rattle.std.proofs.Common.{◌≡◌, ◌≢◌, refl, sym, ap, ◌∙◌, subst, lit<, ℕ, ◌<◌, Bool, true, false, ◌&&◌, suc, ◌+◌, List, [], ◌∷◌, length, bytes_eq, get_or, cond, zero-add, arith, Option, Some, None, IfSome}
use Rattle.std.proofs.lemmas.Bool.{and_parts}
use Rattle.std.specs.List.{position_from}
use Rattle.std.proofs.lemmas.Slice.Eq.{bytes_eq-Decides}
use Rattle.big_memory.specs.Map.{host_functions}
use Rattle.toolbox.specs.declared.function.Function.{Function}
use Rattle.toolbox.specs.declared.function.Function.TheVariants.{UnloadSeg}
use Rattle.toolbox.specs.declared.table.TheConstants.{FUNCTIONS}
use Rattle.toolbox.specs.Table.{imports, number_of}
use Rattle.toolbox.specs.Functions.{function_at}
use Rattle.toolbox.specs.laws.Names.{ImportsHaveOneNumber, ImportsAreNumbered}
use Rattle.toolbox.specs.NamesClauses.{IsImportIndex, import_of}
use Rattle.toolbox.specs.Names.{import_index}
use Rattle.toolbox.specs.inner.Parts.{is_named}
use Rattle.toolbox.proofs.OneNumber.{own-number}

unnamed : (library name : List ℕ) (o : Option (List ℕ × List ℕ)) → o ≢ Some (library, name) → is_named library name o ≡ false
unnamed library name None other = refl
unnamed library name (Some both) other = by (bytes_eq both.0 library) (bytes_eq both.1 name) (bytes_eq-Decides both.0 library).0 (bytes_eq-Decides both.1 name).0
  where
    by : (a b : Bool) → (a ≡ true → both.0 ≡ library) → (b ≡ true → both.1 ≡ name) → (a && b) ≡ false
    by true true first second = absurd (other (ap (λ l. Some (l, both.1)) (first refl) ∙ ap (λ n. Some (library, n)) (second refl)))
    by true false first second = refl
    by false b first second = refl

is-named : (library name : List ℕ) (o : Option (List ℕ × List ℕ)) → is_named library name o ≡ true → o ≡ Some (library, name)
is-named library name None is = cc
is-named library name (Some both) is =
    let parts = and_parts (bytes_eq both.0 library) (bytes_eq both.1 name) is in
    ap (λ l. Some (l, both.1)) ((bytes_eq-Decides both.0 library).0 parts.0) ∙ ap (λ n. Some (library, n)) ((bytes_eq-Decides both.1 name).0 parts.1)

abbrev index_of : Option (List ℕ × List ℕ) → Option ℕ
index_of None = None
index_of (Some both) = import_index both.0 both.1

-- each function that is imported has its number by its own library and name
numbers : (f : Function) → import_of f ≢ None → (Some (number_of f) ≡ index_of (import_of f)) × (number_of f < host_functions)
unfolding import_index
numbers UnloadSeg is = absurd (is refl)
numbers f is = (refl, lit< tt)

is_some_from : (o : Option (List ℕ × List ℕ)) (both : List ℕ × List ℕ) → o ≡ Some both → o ≢ None
is_some_from o both is none = let never = sym is ∙ none in cc

-- what a number of the table is imported by is what its function is
its-import : (k : ℕ) → k < FUNCTIONS → get_or imports k None ≡ import_of (function_at k)
its-import k lt = ap (λ n. get_or imports n None) (sym (own-number k lt))

-- what is found from a number on
found-from : {X : Type 0} (p : X → Bool) (xs : List X) (i k : ℕ) (d : X) → position_from p i xs ≡ Some k
    → (j : ℕ) × (i + j ≡ k) × (j < length xs) × (p (get_or xs j d) ≡ true)
found-from p [] i k d is = cc
found-from p (x ∷ xs) i k d is = by (p x) refl is (found-from p xs (i + 1) k d)
  where
    by : (b : Bool) → p x ≡ b → cond b (Some i) (position_from p (i + 1) xs) ≡ Some k
        → (position_from p (i + 1) xs ≡ Some k → (j : ℕ) × (i + 1 + j ≡ k) × (j < length xs) × (p (get_or xs j d) ≡ true))
        → (j : ℕ) × (i + j ≡ k) × (j < suc (length xs)) × (p (get_or (x ∷ xs) j d) ≡ true)
    by true has is later = let same : i ≡ k = cc in (0, omega (arith, same), omega arith, has)
    by false has is later = let f = later is in (suc f.0, omega (arith, f.1), omega (arith, f.2), f.3)

import-at : (library name : List ℕ) → import_index library name ≡ position_from (is_named library name) 0 imports
unfolding import_index
import-at library name = refl

index-by : (library name : List ℕ) (o : Option ℕ) → import_index library name ≡ o → IsImportIndex library name o
index-by library name None is = λ f has.
    let found : Some (number_of f) ≡ import_index library name = (numbers f (is_some_from _ _ has)).0 ∙ ap index_of has in
    let no = found ∙ is in
    cc
index-by library name (Some k) is =
    let found = found-from (is_named library name) imports 0 k None (sym (import-at library name) ∙ is) in
    let same : found.0 ≡ k = sym (zero-add found.0) ∙ found.1 in (
      function_at found.0,
      sym (its-import found.0 found.2) ∙ is-named library name (get_or imports found.0 None) found.3,
      sym same ∙ sym (own-number found.0 found.2),
    )

pub index_from : (library name : List ℕ) → IsImportIndex library name (import_index library name)
index_from library name = index-by library name (import_index library name) refl

-- a number that a function has by its name is the one that is found
none-found : (library name : List ℕ) (o : Option ℕ) → IsImportIndex library name o → ((f : Function) → import_of f ≡ Some (library, name) → ⊥) → None ≡ o
none-found library name None found none = refl
none-found library name (Some k) found none = absurd (none found.0 found.1)

index_is : (library name : List ℕ) (r : Option ℕ) → IsImportIndex library name r → r ≡ import_index library name
index_is library name None none = none-found library name (import_index library name) (index_from library name) none
index_is library name (Some k) found =
    ap (λ n. Some n) found.2 ∙ ((numbers found.0 (is_some_from _ _ found.1)).0 ∙ ap index_of found.1)

index_below : (library name : List ℕ) (r : Option ℕ) → IsImportIndex library name r → IfSome r (λ k. k < host_functions)
index_below library name None none = tt
index_below library name (Some k) found = rw found.2 (numbers found.0 (is_some_from _ _ found.1)).1

pub imports-have_one : ImportsHaveOneNumber
imports-have_one library name r =
    (λ is. subst (IsImportIndex library name) (sym is) (index_from library name), index_is library name r)

pub imports_numbered : ImportsAreNumbered
imports_numbered library name = index_below library name (import_index library name) (index_from library name)
