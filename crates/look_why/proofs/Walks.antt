-- A walk over the lines of a text.
use Rattle.std.proofs.Common.{◌≡◌, ℕ, ◌-◌, ◌<◌, ◌≤◌, List, [], ◌∷◌, ◌++◌, length, take, append_assoc, arith, ap, sym, ◌∙◌, refl}
use Rattle.std.proofs.lemmas.Bool.Decides.{nat_tests}
use Rattle.std.proofs.lemmas.List.{length-take-le}
use Rattle.mix_top.specs.Scripts.{lines_of}
use Rattle.mix_top.specs.ScriptLines.{behind_line, first_line}
use Rattle.mix_top.proofs.Splits.{lines-split}
use Rattle.look_why.specs.Lines.{line_behind}

line-first : (text : List ℕ) → line_behind (lines_of text) 0 ≡ first_line text
line-first [] = refl
line-first (byte ∷ text) = ap (λ lines. line_behind lines 0) (lines-split (byte ∷ text) (omega arith))

skipped : (line : List ℕ) (lines : List (List ℕ)) (count : ℕ) → 0 < count → line_behind (line ∷ lines) count ≡ line_behind lines (count - 1)
skipped line lines count some = grind (arith, nat_tests)

line-next : (text : List ℕ) (count : ℕ) → 0 < count → line_behind (lines_of text) count ≡ line_behind (lines_of (behind_line text)) (count - 1)
line-next [] count some = refl
line-next (byte ∷ text) count some =
    ap (λ lines. line_behind lines count) (lines-split (byte ∷ text) (omega arith))
    ∙ skipped (first_line (byte ∷ text)) (lines_of (behind_line (byte ∷ text))) count some

-- the line is still that of the rest
pub walked-on : (rest behind line : List ℕ) (left : ℕ) → 1 < left → behind ≡ behind_line rest → line_behind (lines_of rest) (left - 1) ≡ line
    → line_behind (lines_of behind) (left - 1 - 1) ≡ line
walked-on rest behind line left more is same =
    ap (λ b. line_behind (lines_of b) (left - 1 - 1)) is ∙ (sym (line-next rest (left - 1) (omega (arith, more))) ∙ same)

-- and is its first one in the end
pub walked-ends : (rest first line : List ℕ) (left : ℕ) → left ≤ 1 → first ≡ first_line rest → line_behind (lines_of rest) (left - 1) ≡ line → first ≡ line
walked-ends rest first line left few is same =
    let none : left - 1 ≡ 0 = omega (arith, few) in is ∙ (sym (line-first rest) ∙ (ap (line_behind (lines_of rest)) (sym none) ∙ same))

pub length_front : (line : List ℕ) (count : ℕ) → count < length line → length (take count line) ≡ count
length_front line count more = length-take-le count line (omega (arith, more))

-- three pieces behind a text
pub three_pieces : (old first second third a b c : List ℕ) → a ≡ old ++ first → b ≡ a ++ second → c ≡ b ++ third → c ≡ old ++ (first ++ (second ++ third))
three_pieces old first second third a b c one two three =
    three ∙ (ap (λ t. t ++ third) (two ∙ ap (λ t. t ++ second) one) ∙ (ap (λ t. t ++ third) (append_assoc old first second)
    ∙ (append_assoc old (first ++ second) third ∙ ap (λ t. old ++ t) (append_assoc first second third))))
