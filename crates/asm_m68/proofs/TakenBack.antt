-- What the text of an instruction gives.
use Rattle.std.proofs.Common.{◌≡◌, ◌≢◌, ℕ, zero, suc, ◌<◌, inl, inr, List, [], ◌∷◌, ◌++◌, take, slice_index, arith, refl, sym, ap, subst, ◌∙◌}
use Rattle.m68_isa.specs.declared.instructions.Decoded68.{Decoded68}
use Rattle.m68_isa.specs.declared.instructions.Decoded68.TheVariants.{Op, LineA, LineF, Privileged, Illegal, Short}
use Rattle.m68_isa.specs.declared.instructions.Instr68.{Instr68}
use Rattle.m68_isa.specs.Decode.{decoded}
use Rattle.m68_text.specs.Instructions.{name}
use Rattle.m68_text.specs.Operands.{operands_text}
use Rattle.m68_text.specs.Text.{text_of}
use Rattle.asm_m68.specs.Assembly.{AreWords}
use Rattle.asm_m68.specs.Assembly.{Gives, data_text}
use Rattle.asm_m68.specs.laws.Assembly.{count_of}
use Rattle.asm_m68.specs.laws.AssemblyLaws.{TextsGive}
use Rattle.asm_m68.proofs.Prefix.{Alone, alone}

first_below : (ws : List ℕ) → AreWords ws → slice_index ws 0 < 65536
first_below [] are = omega arith
first_below (w ∷ ws) are = are.0

take_words : (n : ℕ) (ws : List ℕ) → AreWords ws → AreWords (take n ws)
take_words zero ws are = tt
take_words (suc n) [] are = tt
take_words (suc n) (w ∷ ws) are = (are.0, take_words n ws are.1)

some_word : (ws : List ℕ) (d : Decoded68) → decoded ws ≡ d → d ≢ Short → take 1 ws ≡ slice_index ws 0 ∷ []
some_word [] d is whole = absurd (whole (sym is))
some_word (w ∷ ws) d is whole = refl

word_given : (ws : List ℕ) (at : ℕ) → AreWords ws → take 1 ws ≡ slice_index ws 0 ∷ [] → Gives (data_text (slice_index ws 0)) at (take 1 ws)
word_given ws at are some = inl (record { word = slice_index ws 0; below = first_below ws are; alone = some; text = refl })

instruction_given : (ws : List ℕ) (at : ℕ) (i : Instr68) (used : ℕ) → AreWords ws → Alone at ws i used → Gives (text_of (Op i used) ws at) at (take used ws)
instruction_given ws at i used are a = inr (record {
  words = take_words used ws are;
  instruction = i;
  decodes = a.decodes ∙ ap (Op i) (sym a.count);
  text = ap (λ os. name i used ++ operands_text os) a.told ∙ sym (ap (λ d. text_of d (take used ws) at) a.decodes);
})

given : (d : Decoded68) (ws : List ℕ) (at : ℕ) → AreWords ws → decoded ws ≡ d → d ≢ Short → Gives (text_of d ws at) at (take (count_of d) ws)
given (Op i used) ws at are is whole = instruction_given ws at i used are (alone at ws i used (first_below ws are) is)
given (LineA w) ws at are is whole = word_given ws at are (some_word ws (LineA w) is whole)
given LineF ws at are is whole = word_given ws at are (some_word ws LineF is whole)
given Privileged ws at are is whole = word_given ws at are (some_word ws Privileged is whole)
given Illegal ws at are is whole = word_given ws at are (some_word ws Illegal is whole)
given Short ws at are is whole = absurd (whole refl)

-- the text gives the first words, those of the instruction
pub first_given : TextsGive
first_given ws at are whole = given (decoded ws) ws at are refl whole

-- by the text that was written
pub taken_back : (ws : List ℕ) (at : ℕ) (d : Decoded68) (text line : List ℕ) → AreWords ws → d ≡ decoded ws → text ≡ text_of d ws at → line ≡ text → decoded ws ≢ Short → Gives line at (take (count_of (decoded ws)) ws)
taken_back ws at d text line are is written same whole =
    let e : text_of (decoded ws) ws at ≡ line = sym (same ∙ written ∙ ap (λ x. text_of x ws at) is) in
    subst (λ l. Gives l at (take (count_of (decoded ws)) ws)) e (first_given ws at are whole)

pub are_words : (ws : List ℕ) → ((k : ℕ) → slice_index ws k < 65536) → AreWords ws
are_words [] h = tt
are_words (w ∷ ws) h = (h 0, are_words ws (λ k. h (suc k)))
