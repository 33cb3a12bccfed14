-- The first line of a text, and the lines behind it.
use Rattle.std.proofs.Common.{◌≡◌, ℕ, suc, ◌<◌, ◌==◌, Bool, true, false, List, [], ◌∷◌, length, take, drop, if◌then◌else◌, arith, ap, refl}
use Rattle.std.proofs.lemmas.List.{length-drop}
use Rattle.mix_text.specs.Lines.{lines_of, with_byte}
use Rattle.mix_text.specs.inner.Parts.{behind_line, first_line, line_length}

by-feed : (b : Bool) (byte : ℕ) (text : List ℕ) → (0 < length text → lines_of text ≡ first_line text ∷ lines_of (behind_line text))
    → (if b then [] ∷ lines_of text else with_byte byte (lines_of text))
    ≡ take (if b then 0 else suc (line_length text)) (byte ∷ text) ∷ lines_of (drop (suc (if b then 0 else suc (line_length text))) (byte ∷ text))
by-feed true byte text later = refl
by-feed false byte [] later = refl
by-feed false byte (next ∷ text) later = ap (with_byte byte) (later (omega arith))

pub lines-split : (text : List ℕ) → 0 < length text → lines_of text ≡ first_line text ∷ lines_of (behind_line text)
lines-split [] some = absurd (omega arith)
lines-split (byte ∷ text) some = by-feed (byte == 10) byte text (λ more. lines-split text more)

pub behind-less : (text : List ℕ) → 0 < length text → length (behind_line text) < length text
behind-less text some = omega (arith, length-drop (suc (line_length text)) text)
