-- A word is found where it begins, and looked for behind each byte where it doesn't.
use Rattle.std.proofs.Common.{◌≡◌, ℕ, ◌+◌, ◌<◌, ◌||◌, List, ◌∷◌, length, get_or, drop, false, true, sym, ap, ◌∙◌, add-one, drop-cons}
use Rattle.gdb_requests.specs.Parts.{begins}
use Rattle.gdb_requests.specs.Queries.{has_word}

one_on : (word xs ys : List ℕ) (b : ℕ) → xs ≡ b ∷ ys → begins word xs ≡ false → has_word word xs ≡ has_word word ys
unfolding has_word
one_on word xs ys b is absent = ap (has_word word) is ∙ ap (λ t. t || has_word word ys) (ap (begins word) (sym is) ∙ absent)

pub looks_on : (word text : List ℕ) (i : ℕ) → i < length text → begins word (drop i text) ≡ false → has_word word (drop i text) ≡ has_word word (drop (i + 1) text)
looks_on word text i inside absent = one_on word (drop i text) (drop (i + 1) text) (get_or text i 0) (drop-cons text i 0 inside ∙ ap (λ n. get_or text i 0 ∷ drop n text) (sym (add-one i))) absent

one_here : (word xs ys : List ℕ) (b : ℕ) → xs ≡ b ∷ ys → begins word xs ≡ true → has_word word xs ≡ true
unfolding has_word
one_here word xs ys b is here = ap (has_word word) is ∙ ap (λ t. t || has_word word ys) (ap (begins word) (sym is) ∙ here)

pub found_at : (word text : List ℕ) (i : ℕ) → i < length text → begins word (drop i text) ≡ true → has_word word (drop i text) ≡ true
found_at word text i inside here = one_here word (drop i text) (drop (i + 1) text) (get_or text i 0) (drop-cons text i 0 inside ∙ ap (λ n. get_or text i 0 ∷ drop n text) (sym (add-one i))) here
