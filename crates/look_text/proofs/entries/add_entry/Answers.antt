-- What an entry is, and what it names.
use Rattle.std.proofs.Common.{◌≡◌, ◌∙◌, ℕ, ◌+◌, ◌*◌, ◌++◌, Bool, List, OnOk, ap, subst}
use Rattle.mix_load.specs.declared.header.CodeHeader.{CodeHeader}
use Rattle.mix_load.specs.Segments.{a5_of, header_of}
use Rattle.look_text.specs.Forks.{entry_front, entry_line, target_text}
use Rattle.look_text.proofs.Lines.{two}
use Rattle.look_text.proofs.entries.add_entry.Goals as goal

place_is : (a b c d : ℕ) → a ≡ b → c ≡ d → a + c ≡ b + d
place_is a b c d p q = ap (λ (n : ℕ). n + c) p ∙ ap (λ (n : ℕ). b + n) q

front_is : (i a b c d e f g h : ℕ) → a ≡ b → c ≡ d → e ≡ f → g ≡ h → entry_front i a c e g ≡ entry_front i b d f h
front_is i a b c d e f g h p q r s =
    ap (λ (n : ℕ). entry_front i n c e g) p ∙ ap (λ (n : ℕ). entry_front i b n e g) q ∙ ap (λ (n : ℕ). entry_front i b d n g) r ∙ ap (λ (n : ℕ). entry_front i b d f n) s

target_is : (a b : Bool) (c d : ℕ) → a ≡ b → c ≡ d → target_text a c ≡ target_text b d
target_is a b c d p q = ap (λ (bad : Bool). target_text bad c) p ∙ ap (λ (n : ℕ). target_text b n) q

pub returns : goal.returns
unfolding entry_line
returns c =
    let a5 : c.a5_of.result ≡ a5_of (header_of c.args.code0.now) = c.a5_of.ensures.is ∙ ap a5_of c.read_header-h.ensures in
    let offset : c.read_header-h.result.table_offset + 8 * c.args.i + 2 ≡ (header_of c.args.code0.now).table_offset + 8 * c.args.i + 2 =
    ap (λ (h : CodeHeader). h.table_offset + 8 * c.args.i + 2) c.read_header-h.ensures in
    two _ _ _ _ _ _
    (c.in_ok-add_front.ensures ∙ ap (λ (t : List ℕ). c.args.text.now.items ++ t) (front_is c.args.i _ _ _ _ _ _ _ _
    (place_is _ _ _ _ a5 (c.from.ensures ∙ offset)) offset (c.from-segment.ensures ∙ c.segment_in.ensures)
    (c.from-inside.ensures ∙ c.offset_in.ensures)))
    (subst (λ (t : List ℕ). OnOk c.add_target.result (c.add_target.new.text.items ≡ c.add_front.new.text.items ++ t))
    (target_is _ _ _ _ c.is_bad_entry.ensures c.jump_target.ensures) c.add_target.ensures)
