-- A form stands in the table exactly for the names of the list: computed over both.
use Rattle.std.proofs.Common.{ℕ, ◌≡◌, ◌==◌, inl, inr, List, [], ◌∷◌, Bool, true, false, Option, Some, None, slice_index, if◌then◌else◌, refl, sym, subst}
use Rattle.std.proofs.lemmas.Bool.{or_cases}
use Rattle.std.proofs.lemmas.Slice.Eq.{bytes_eq-Decides}
use Rattle.std.specs.List.{list_any}
use Rattle.std.specs.Option.{is_some}
use Rattle.std.specs.Str.{bytes_eq}
use Rattle.mix_bits.proofs.Conditions.{both}
use Rattle.m68_text.specs.Listed.{stems, wide_stems, plain_names, tested, conditions, names, is_name}
use Rattle.asm_m68.specs.declared.form.Form.{Form}
use Rattle.asm_m68.specs.laws.FormLaws.{FormsAreListed}
use Rattle.asm_m68.specs.laws.Table.{Row, form_by, form_of, found_in, rows_a, rows_b, rows_c, rows_d, rows_e, rows_j, rows_l, rows_m, rows_n, rows_o, rows_p, rows_r, rows_s, rows_t, rows_u}

same : (b c : Bool) → (b ≡ true → c ≡ true) → (c ≡ true → b ≡ true) → b ≡ c
same true c to from = sym (to refl)
same false true to from = from refl
same false false to from = refl

same_bytes : (m n : List ℕ) → bytes_eq m n ≡ true → m ≡ n
same_bytes m n h = (bytes_eq-Decides m n).0 h

-- Each row's name is in the list.

abbrev all_listed : List Row → Bool
all_listed [] = true
all_listed (r ∷ rs) = if is_name r.0 then all_listed rs else false

found_listed : (rs : List Row) (n : List ℕ) → all_listed rs ≡ true → is_some (found_in rs n) ≡ true → is_name n ≡ true
found_listed [] n listed found = cc
found_listed (r ∷ rs) n listed found =
    let parts : (is_name r.0 ≡ true) × (all_listed rs ≡ true) = both (is_name r.0) (all_listed rs) listed in
    let rest : is_some (found_in rs n) ≡ true → is_name n ≡ true = found_listed rs n parts.1 in
    by (bytes_eq r.0 n) refl found parts.0 rest
  where
    by : (b : Bool) → bytes_eq r.0 n ≡ b → is_some (if b then Some r.1 else found_in rs n) ≡ true → is_name r.0 ≡ true → (is_some (found_in rs n) ≡ true → is_name n ≡ true) → is_name n ≡ true
    by true is h here rest = subst (λ m. is_name m ≡ true) (same_bytes r.0 n is) here
    by false is h here rest = rest h

chosen : (b : Bool) (x y : Option Form) (n : List ℕ) → (is_some x ≡ true → is_name n ≡ true) → (is_some y ≡ true → is_name n ≡ true) → is_some (if b then x else y) ≡ true → is_name n ≡ true
chosen true x y n first second h = first h
chosen false x y n first second h = second h

listed_a : all_listed rows_a ≡ true
unfolding rows_a names stems wide_stems plain_names tested conditions
listed_a = refl

listed_b : all_listed rows_b ≡ true
unfolding rows_b names stems wide_stems plain_names tested conditions
listed_b = refl

listed_c : all_listed rows_c ≡ true
unfolding rows_c names stems wide_stems plain_names tested conditions
listed_c = refl

listed_d : all_listed rows_d ≡ true
unfolding rows_d names stems wide_stems plain_names tested conditions
listed_d = refl

listed_e : all_listed rows_e ≡ true
unfolding rows_e names stems wide_stems plain_names tested conditions
listed_e = refl

listed_j : all_listed rows_j ≡ true
unfolding rows_j names stems wide_stems plain_names tested conditions
listed_j = refl

listed_l : all_listed rows_l ≡ true
unfolding rows_l names stems wide_stems plain_names tested conditions
listed_l = refl

listed_m : all_listed rows_m ≡ true
unfolding rows_m names stems wide_stems plain_names tested conditions
listed_m = refl

listed_n : all_listed rows_n ≡ true
unfolding rows_n names stems wide_stems plain_names tested conditions
listed_n = refl

listed_o : all_listed rows_o ≡ true
unfolding rows_o names stems wide_stems plain_names tested conditions
listed_o = refl

listed_p : all_listed rows_p ≡ true
unfolding rows_p names stems wide_stems plain_names tested conditions
listed_p = refl

listed_r : all_listed rows_r ≡ true
unfolding rows_r names stems wide_stems plain_names tested conditions
listed_r = refl

listed_s : all_listed rows_s ≡ true
unfolding rows_s names stems wide_stems plain_names tested conditions
listed_s = refl

listed_t : all_listed rows_t ≡ true
unfolding rows_t names stems wide_stems plain_names tested conditions
listed_t = refl

listed_u : all_listed rows_u ≡ true
unfolding rows_u names stems wide_stems plain_names tested conditions
listed_u = refl

abbrev no_form : Option Form
no_form = None

none_listed : (n : List ℕ) → is_some no_form ≡ true → is_name n ≡ true
none_listed n h = cc

by_letter : (c : ℕ) (n : List ℕ) → is_some (form_by c n) ≡ true → is_name n ≡ true
unfolding form_by
by_letter c n =
    chosen (c == 97) (found_in rows_a n) _ n (found_listed rows_a n listed_a)
    (chosen (c == 98) (found_in rows_b n) _ n (found_listed rows_b n listed_b)
    (chosen (c == 99) (found_in rows_c n) _ n (found_listed rows_c n listed_c)
    (chosen (c == 100) (found_in rows_d n) _ n (found_listed rows_d n listed_d)
    (chosen (c == 101) (found_in rows_e n) _ n (found_listed rows_e n listed_e)
    (chosen (c == 106) (found_in rows_j n) _ n (found_listed rows_j n listed_j)
    (chosen (c == 108) (found_in rows_l n) _ n (found_listed rows_l n listed_l)
    (chosen (c == 109) (found_in rows_m n) _ n (found_listed rows_m n listed_m)
    (chosen (c == 110) (found_in rows_n n) _ n (found_listed rows_n n listed_n)
    (chosen (c == 111) (found_in rows_o n) _ n (found_listed rows_o n listed_o)
    (chosen (c == 112) (found_in rows_p n) _ n (found_listed rows_p n listed_p)
    (chosen (c == 114) (found_in rows_r n) _ n (found_listed rows_r n listed_r)
    (chosen (c == 115) (found_in rows_s n) _ n (found_listed rows_s n listed_s)
    (chosen (c == 116) (found_in rows_t n) _ n (found_listed rows_t n listed_t)
    (chosen (c == 117) (found_in rows_u n) _ n (found_listed rows_u n listed_u)
    (none_listed n)))))))))))))))

-- And each name of the list has a row.

abbrev all_found : List (List ℕ) → Bool
all_found [] = true
all_found (m ∷ ms) = if is_some (form_of m) then all_found ms else false

names_found : all_found names ≡ true
unfolding names stems wide_stems plain_names tested conditions form_of form_by rows_a rows_b rows_c rows_d rows_e rows_j rows_l rows_m rows_n rows_o rows_p rows_r rows_s rows_t rows_u
names_found = refl

among : (ms : List (List ℕ)) (n : List ℕ) → all_found ms ≡ true → list_any (λ m. bytes_eq m n) ms ≡ true → is_some (form_of n) ≡ true
among [] n found h = cc
among (m ∷ ms) n found h =
    let parts : (is_some (form_of m) ≡ true) × (all_found ms ≡ true) = both (is_some (form_of m)) (all_found ms) found in
    let rest : list_any (λ k. bytes_eq k n) ms ≡ true → is_some (form_of n) ≡ true = among ms n parts.1 in
    elim (or_cases (bytes_eq m n) (list_any (λ k. bytes_eq k n) ms) h) [ inl here ↦ subst (λ k. is_some (form_of k) ≡ true) (same_bytes m n here) parts.0 | inr there ↦ rest there ]

pub is_listed : FormsAreListed
unfolding form_of
is_listed n = same (is_some (form_of n)) (is_name n) (by_letter (slice_index n 0) n) (among names n names_found)
