-- The windows of a text, one behind the other, are the text.
use Rattle.std.proofs.Common.{◌≡◌, ℕ, zero, suc, ◌+◌, ◌-◌, ◌<◌, ◌≤◌, nat_lt, List, ◌++◌, length, take, drop, Bool, true, false, refl, sym, ap, ◌∙◌, arith, if◌then◌else◌}
use Rattle.std.proofs.lemmas.Bool.{le-ltb, ltb-false, ltb-true}
use Rattle.std.proofs.lemmas.List.{drop-drop, length-drop, take-append-drop, take_all}
use Rattle.big_memory.specs.Lists.{part}
use Rattle.gdb_answers.specs.Answers.{window_letter}
use Rattle.gdb_answers.specs.Stops.{error_text}
use Rattle.gdb_answers.specs.laws.Answers.{WindowsAreWhole, read_on, read_whole}

-- a window and what follows it are what is left of the text
one_window : (b : Bool) (text more : List ℕ) (offset count : ℕ) → nat_lt (offset + count) (length text) ≡ b
    → (offset + count < length text → more ≡ drop (offset + count) text)
    → read_on (window_letter b ++ part offset count text) more ≡ drop offset text
one_window true text more offset count has rest =
    ap (λ m. take count (drop offset text) ++ m) (rest (ltb-true (offset + count) (length text) has) ∙ sym (drop-drop count offset text))
    ∙ take-append-drop count (drop offset text)
one_window false text more offset count has rest =
    let ends : length text ≤ offset + count = ltb-false (offset + count) (length text) has in
    let short : length (drop offset text) ≡ length text - offset = length-drop offset text in
    take_all count (drop offset text) (omega (arith, ends, short))

from_here : (k : ℕ) (text : List ℕ) (count offset : ℕ) → 0 < count → offset ≤ length text → length text < k + offset
    → read_whole k text count offset ≡ drop offset text
from_here zero text count offset some within enough = absurd (omega (arith, within, enough))
from_here (suc k) text count offset some within enough =
    ap (λ b. read_on (if b then error_text else window_letter (nat_lt (offset + count) (length text)) ++ part offset count text) (read_whole k text count (offset + count)))
    (le-ltb (length text) offset within)
    ∙ one_window (nat_lt (offset + count) (length text)) text (read_whole k text count (offset + count)) offset count refl
    (λ more. from_here k text count (offset + count) some (omega (arith, more)) (omega (arith, some, enough)))

pub windows_are_whole : WindowsAreWhole
windows_are_whole text count k some enough = from_here k text count 0 some (omega arith) (omega (arith, enough))
