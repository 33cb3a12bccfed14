-- The letter of a first word gives its operation: computed line by line, a line being the first word's top four bits.
use Rattle.std.proofs.Common.{ℕ, zero, suc, ◌≡◌, ◌<◌, ◌+◌, ◌*◌, ◌/◌, ◌%◌, ◌^◌, map, take, drop, get_or, refl, sym, ap, ◌∙◌, subst, arith}
use Rattle.std.specs.List.{range_with_len}
use Rattle.std.proofs.Math.ListN.{get_or-map}
use Rattle.std.proofs.lemmas.List.{get_or-drop, get_or-take}
use Rattle.std.proofs.lemmas.List.FromFn.{get_or-map-range_with_len}
use Rattle.m68_isa.specs.declared.op.Op68.{Op68}
use Rattle.m68_isa.specs.declared.op.Op68.TheVariants.{Ori}
use Rattle.m68_isa.specs.Operations.{operation}
use Rattle.m68_isa.specs.First.{first_of}
use Rattle.m68_isa.specs.inner.Letters.{letters, lettered}

abbrev named : ℕ → Op68
named letter = get_or lettered letter Ori

abbrev of_word : ℕ → Op68
of_word w = operation (first_of w)

-- those of a line's 4096 words are
unfoldable AreOfLine : ℕ → Type 0
AreOfLine line = map named (take 4096 (drop (line * 4096) letters)) ≡ map of_word (range_with_len (line * 4096) 4096)

line_0 : AreOfLine 0
unfolding AreOfLine letters lettered
line_0 = refl

line_1 : AreOfLine 1
unfolding AreOfLine letters lettered
line_1 = refl

line_2 : AreOfLine 2
unfolding AreOfLine letters lettered
line_2 = refl

line_3 : AreOfLine 3
unfolding AreOfLine letters lettered
line_3 = refl

line_4 : AreOfLine 4
unfolding AreOfLine letters lettered
line_4 = refl

line_5 : AreOfLine 5
unfolding AreOfLine letters lettered
line_5 = refl

line_6 : AreOfLine 6
unfolding AreOfLine letters lettered
line_6 = refl

line_7 : AreOfLine 7
unfolding AreOfLine letters lettered
line_7 = refl

line_8 : AreOfLine 8
unfolding AreOfLine letters lettered
line_8 = refl

line_9 : AreOfLine 9
unfolding AreOfLine letters lettered
line_9 = refl

line_10 : AreOfLine 10
unfolding AreOfLine letters lettered
line_10 = refl

line_11 : AreOfLine 11
unfolding AreOfLine letters lettered
line_11 = refl

line_12 : AreOfLine 12
unfolding AreOfLine letters lettered
line_12 = refl

line_13 : AreOfLine 13
unfolding AreOfLine letters lettered
line_13 = refl

line_14 : AreOfLine 14
unfolding AreOfLine letters lettered
line_14 = refl

line_15 : AreOfLine 15
unfolding AreOfLine letters lettered
line_15 = refl

forms : (line : ℕ) → line < 16 → AreOfLine line
forms zero below = line_0
forms (suc zero) below = line_1
forms (suc (suc zero)) below = line_2
forms (suc (suc (suc zero))) below = line_3
forms (suc (suc (suc (suc zero)))) below = line_4
forms (suc (suc (suc (suc (suc zero))))) below = line_5
forms (suc (suc (suc (suc (suc (suc zero)))))) below = line_6
forms (suc (suc (suc (suc (suc (suc (suc zero))))))) below = line_7
forms (suc (suc (suc (suc (suc (suc (suc (suc zero)))))))) below = line_8
forms (suc (suc (suc (suc (suc (suc (suc (suc (suc zero))))))))) below = line_9
forms (suc (suc (suc (suc (suc (suc (suc (suc (suc (suc zero)))))))))) below = line_10
forms (suc (suc (suc (suc (suc (suc (suc (suc (suc (suc (suc zero))))))))))) below = line_11
forms (suc (suc (suc (suc (suc (suc (suc (suc (suc (suc (suc (suc zero)))))))))))) below = line_12
forms (suc (suc (suc (suc (suc (suc (suc (suc (suc (suc (suc (suc (suc zero))))))))))))) below = line_13
forms (suc (suc (suc (suc (suc (suc (suc (suc (suc (suc (suc (suc (suc (suc zero)))))))))))))) below = line_14
forms (suc (suc (suc (suc (suc (suc (suc (suc (suc (suc (suc (suc (suc (suc (suc zero))))))))))))))) below = line_15
forms (suc (suc (suc (suc (suc (suc (suc (suc (suc (suc (suc (suc (suc (suc (suc (suc line)))))))))))))))) below = absurd (omega (arith, below))

in_line : (line at : ℕ) → at < 4096 → AreOfLine line → named (get_or letters (line * 4096 + at) 0) ≡ of_word (line * 4096 + at)
unfolding AreOfLine
in_line line at below is =
    let from = line * 4096 in
    let piece = take 4096 (drop from letters) in
    let there : get_or piece at 0 ≡ get_or letters (from + at) 0 = get_or-take 4096 (drop from letters) at 0 below ∙ get_or-drop from letters at 0 in
    ap named (sym there) ∙ sym (get_or-map named piece at 0) ∙ ap (λ ops. get_or ops at (named 0)) is ∙ get_or-map-range_with_len of_word from 4096 at (from + at) (named 0) below refl

pub found : (w : ℕ) → w < 2 ^ 16 → get_or lettered (get_or letters w 0) Ori ≡ of_word w
found w below =
    let is : w / 4096 * 4096 + w % 4096 ≡ w = omega arith in
    subst (λ k. named (get_or letters k 0) ≡ of_word k) is (in_line (w / 4096) (w % 4096) (omega arith) (forms (w / 4096) (omega (arith, below))))
