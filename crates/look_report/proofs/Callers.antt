-- What is told of a chain of callers, by its innermost one and those outside it.
use Rattle.std.proofs.Common.{◌≡◌, ℕ, suc, ◌+◌, List, [], ◌∷◌, ◌++◌, length, drop, Some, None, ap, sym, ◌∙◌, refl, add-one, append-nil, append_assoc, OnOk, Result, Ok, Err}
use Rattle.switch_frame.specs.declared.held.Held.{Held}
use Rattle.switch_frame.specs.CallsClauses.{innermost}
use Rattle.switch_frame.specs.Records.{Record}
use Rattle.switch_frame.specs.RecordsClauses.{held_of, record_of}
use Rattle.std.specs.Prelude.{codes, decimal}
use Rattle.mix_bits.specs.Text.{hexadecimal}
use Rattle.look_text.specs.Pieces.{joined}
use Rattle.look_report.specs.Callers.{frames_text, told_text}

none-told : (rs : List Record) → innermost rs ≡ None → rs ≡ []
none-told [] none = refl
none-told (r ∷ rs) none = absurd (let e : Some (held_of r (suc (length rs))) ≡ None = none in cc)

some-told : (rs : List Record) (held : Held) → innermost rs ≡ Some held → rs ≡ record_of held ∷ drop 1 rs
some-told [] held some = absurd (let e : None ≡ Some held = some in cc)
some-told (r ∷ rs) held some = ap (λ (h : Held). record_of h ∷ rs) (same (held_of r (suc (length rs))) held some)
  where
    same : (a b : Held) → Some a ≡ Some b → a ≡ b
    same a b e = cc

pub no-frames : (text : List ℕ) (untold k : ℕ) (rs : List Record) → innermost rs ≡ None → text ≡ text ++ frames_text untold k rs
unfolding frames_text
no-frames text untold k rs none = sym (ap (λ xs. text ++ frames_text untold k xs) (none-told rs none) ∙ append-nil text)

pub frames-are : (untold k : ℕ) (rs : List Record) (held : Held) → innermost rs ≡ Some held
    → frames_text untold k rs ≡ told_text untold k (record_of held) ++ frames_text untold (k + 1) (drop 1 rs)
unfolding frames_text
frames-are untold k rs held some =
    ap (frames_text untold k) (some-told rs held some) ∙ ap (λ n. told_text untold k (record_of held) ++ frames_text untold n (drop 1 rs)) (sym (add-one k))

-- the line of a frame by its numbers and the name of its caller's set
abbrev pub line_with : (k lo hi : ℕ) (name : List ℕ) (pc target : ℕ) → List ℕ
line_with k lo hi name pc target =
    joined (codes "frame " ∷ decimal k ∷ codes ", " ∷ hexadecimal 8 lo ∷ codes " to " ∷ hexadecimal 8 hi ∷ codes ": "
    ∷ name ∷ codes " goes on at " ∷ hexadecimal 8 pc ∷ codes ", called " ∷ hexadecimal 8 target ∷ codes ", procInfo " ∷ [])

-- the innermost caller was told, and then those outside it
pub onward : {V E : Type 0} (r : Result V E) (old mid new : List ℕ) (untold k : ℕ) (rs outer : List Record) (held : Held) → innermost rs ≡ Some held → outer ≡ drop 1 rs
    → mid ≡ old ++ told_text untold k (record_of held) → OnOk r (new ≡ mid ++ frames_text untold (k + 1) outer) → OnOk r (new ≡ old ++ frames_text untold k rs)
onward (Err e) old mid new untold k rs outer held some rest first then = tt
onward (Ok v) old mid new untold k rs outer held some rest first then =
    then ∙ ap (λ xs. mid ++ frames_text untold (k + 1) xs) rest ∙ ap (λ xs. xs ++ frames_text untold (k + 1) (drop 1 rs)) first
    ∙ append_assoc old (told_text untold k (record_of held)) (frames_text untold (k + 1) (drop 1 rs)) ∙ ap (λ xs. old ++ xs) (sym (frames-are untold k rs held some))
