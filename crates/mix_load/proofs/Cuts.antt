-- No name in the host table has 64 bytes, so the first 64 of a name tell whether it is there.
use Rattle.std.proofs.Common.{◌≡◌, refl, sym, ap, ◌∙◌, ℕ, ◌<◌, Bool, true, false, true≢false, ◌&&◌, if◌then◌else◌, List, [], ◌∷◌, bytes_eq, length, take, length-take, ◌+◌, nat_lt, Option, Some, None, arith}
use Rattle.std.specs.List.{list_all, position_from}
use Rattle.std.proofs.lemmas.Bool.{and_parts, ltb-true}
use Rattle.std.proofs.lemmas.List.{take_all}
use Rattle.std.proofs.lemmas.Slice.Eq.{bytes_eq-Decides}
use Rattle.pef_head.specs.Parts.{ImportParts}
use Rattle.pef_head.specs.PartsByNumber.{cut}
use Rattle.toolbox.specs.Table.{imports}
use Rattle.toolbox.specs.Names.{import_index}
use Rattle.toolbox.specs.inner.Parts.{is_named}
use Rattle.mix_load.specs.Sections.{import_address, resolved}

-- whether both names have fewer than 64 bytes
abbrev is_short : Option (List ℕ × List ℕ) → Bool
is_short None = true
is_short (Some both) = nat_lt (length both.0) 64 && nat_lt (length both.1) 64

all-short : list_all is_short imports ≡ true
all-short = refl

-- a list of fewer than 64 is the first 64 of another exactly where it is the other
same_eq : (x a : List ℕ) → length x < 64 → bytes_eq x (take 64 a) ≡ bytes_eq x a
same_eq x a lt = by (bytes_eq x (take 64 a)) (bytes_eq x a) (bytes_eq-Decides x (take 64 a)).0 (bytes_eq-Decides x a).0 refl refl
  where
    all : length a < 64 → take 64 a ≡ a
    all few = take_all 64 a (omega (arith, few))

    by : (b c : Bool) → (b ≡ true → x ≡ take 64 a) → (c ≡ true → x ≡ a) → bytes_eq x (take 64 a) ≡ b → bytes_eq x a ≡ c → b ≡ c
    by true true first second p q = refl
    by false false first second p q = refl
    by true false first second p q =
        let is : x ≡ take 64 a = first refl in
        let few : length a < 64 = omega (arith, ap (λ (l : List ℕ). length l) is, length-take 64 a, lt) in
        absurd (true≢false (sym ((bytes_eq-Decides x a).1 (is ∙ all few)) ∙ q))
    by false true first second p q =
        let is : x ≡ a = second refl in
        let few : length a < 64 = omega (arith, ap (λ (l : List ℕ). length l) is, lt) in
        absurd (true≢false (sym ((bytes_eq-Decides x (take 64 a)).1 (is ∙ sym (all few))) ∙ p))

same_named : (library name : List ℕ) (o : Option (List ℕ × List ℕ)) → is_short o ≡ true → is_named (take 64 library) (take 64 name) o ≡ is_named library name o
same_named library name None is = refl
same_named library name (Some both) is =
    let parts = and_parts (nat_lt (length both.0) 64) (nat_lt (length both.1) 64) is in
    ap (λ (b : Bool). b && bytes_eq both.1 (take 64 name)) (same_eq both.0 library (ltb-true _ _ parts.0)) ∙ ap (λ (b : Bool). bytes_eq both.0 library && b) (same_eq both.1 name (ltb-true _ _ parts.1))

same_place : (os : List (Option (List ℕ × List ℕ))) (k : ℕ) (library name : List ℕ) → list_all is_short os ≡ true
    → position_from (is_named (take 64 library) (take 64 name)) k os ≡ position_from (is_named library name) k os
same_place [] k library name short = refl
same_place (o ∷ os) k library name short =
    let parts = and_parts (is_short o) (list_all is_short os) short in
    ap (λ (b : Bool). if b then Some k else position_from (is_named (take 64 library) (take 64 name)) (k + 1) os) (same_named library name o parts.0)
    ∙ ap (λ (r : Option ℕ). if is_named library name o then Some k else r) (same_place os (k + 1) library name parts.1)

cut_index : (library name : List ℕ) → import_index (take 64 library) (take 64 name) ≡ import_index library name
unfolding import_index
cut_index library name = same_place imports 0 library name all-short

pub cut_address : (i : ImportParts) → import_address (cut 64 i) ≡ import_address i
cut_address i = ap (resolved i.weak) (cut_index i.library i.name)
