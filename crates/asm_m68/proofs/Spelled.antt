-- The text of an instruction spells its words.
use Rattle.std.proofs.Common.{◌≡◌, ℕ, zero, suc, ◌+◌, ◌-◌, ◌%◌, ◌<◌, nat_lt, List, [], ◌∷◌, ◌++◌, map, length, take, drop, slice_index, Bool, true, false, Some, if◌then◌else◌, arith, refl, ap, subst, sym, ◌∙◌}
use Rattle.std.proofs.Math.Seq.{take-append_seam}
use Rattle.mix_bits.specs.laws.Names.{ends_name, rest_of}
use Rattle.mix_bits.specs.Names.{name_of}
use Rattle.mix_bits.proofs.NamesBack.{name_back}
use Rattle.m68_isa.specs.First.{First}
use Rattle.m68_isa.specs.declared.found.Found.{Found}
use Rattle.m68_isa.specs.declared.found.Found.TheVariants.{Made, Privileged as RowPrivileged, Illegal as RowIllegal}
use Rattle.m68_isa.specs.declared.instructions.Decoded68.TheVariants.{Op, Illegal, Short}
use Rattle.m68_isa.specs.declared.op.Op68.{Op68}
use Rattle.m68_isa.specs.declared.op.Op68.TheVariants.{LineA, LineF}
use Rattle.m68_isa.specs.declared.instructions.Instr68.{Instr68}
use Rattle.m68_isa.specs.Decode.{ended}
use Rattle.m68_isa.specs.Operations.{operation, read as read_by}
use Rattle.m68_isa.specs.First.{first_of, low_byte}
use Rattle.m68_isa.specs.Made.{made}
use Rattle.m68_isa.proofs.ByOperation.{by_operation}
use Rattle.m68_text.specs.declared.operand.Operand.{Operand}
use Rattle.m68_text.specs.declared.operand.Operand.TheVariants.{Word}
use Rattle.m68_text.specs.Instructions.{name, operands}
use Rattle.m68_text.specs.Operands.{hex, operand_text, operands_text}
use Rattle.asm_m68.specs.declared.form.Form.{Form}
use Rattle.asm_m68.specs.declared.form.Form.TheVariants.{Always, Chosen, Data as DataWord, Far, Near, Registers}
use Rattle.asm_m68.specs.laws.Table.{form_of}
use Rattle.asm_m68.specs.declared.operands.Parsed.{Parsed}
use Rattle.asm_m68.specs.Assembly.{AreWords}
use Rattle.asm_m68.specs.laws.SpellingLaws.{TextsSpell, WordsSpell, spelled_by, spelled_line}
use Rattle.asm_m68.specs.laws.Operands.{behind, comma, front_of, read_all}
use Rattle.asm_m68.specs.Reading.{nothing, read}
use Rattle.asm_m68.specs.laws.Spelling.{ending, first_word, following, leading, spelled, value_of, way_of}
use Rattle.asm_m68.proofs.Digits.{four_digits}
use Rattle.asm_m68.proofs.Texts.{IsTold, cut, read_back}
use Rattle.asm_m68.proofs.Commas.{outside, past, scan_hex, whole}
use Rattle.asm_m68.proofs.Places.{words_from}
use Rattle.asm_m68.proofs.Numbers.{padded, told}
use Rattle.asm_m68.proofs.FirstWords.{Spells, are_few, first_spelled, is_data_form, is_near_form, low_part}
use Rattle.asm_m68.proofs.Shapes.{AreTold, Given, IsTelling, Tells}
use Rattle.asm_m68.proofs.Telling.{asked, tells}

-- A name and what follows.

ends : (os : List Operand) → ends_name (operands_text os) ≡ true
ends [] = refl
ends (o ∷ os) = refl

-- The operands between commas.

take-whole : (t : List ℕ) → take (length t) t ≡ t
take-whole [] = refl
take-whole (x ∷ xs) = ap (λ l. x ∷ l) (take-whole xs)

drop-whole : (t : List ℕ) → drop (suc (length t)) t ≡ []
drop-whole [] = refl
drop-whole (x ∷ xs) = drop-whole xs

drop-comma : (t rest : List ℕ) → drop (suc (length t)) (t ++ 44 ∷ rest) ≡ rest
drop-comma [] rest = refl
drop-comma (x ∷ xs) rest = drop-comma xs rest

front-alone : (o : Operand) → IsTold o → front_of (operand_text o) ≡ operand_text o
front-alone o t = ap (λ k. take k (operand_text o)) (whole (operand_text o) false (outside o t)) ∙ take-whole (operand_text o)

behind-alone : (o : Operand) → IsTold o → behind (operand_text o) ≡ []
behind-alone o t = ap (λ k. drop (suc k) (operand_text o)) (whole (operand_text o) false (outside o t)) ∙ drop-whole (operand_text o)

front-more : (o : Operand) (rest : List ℕ) → IsTold o → front_of (operand_text o ++ 44 ∷ rest) ≡ operand_text o
front-more o rest t = ap (λ k. take k (operand_text o ++ 44 ∷ rest)) (past (operand_text o) rest false (outside o t)) ∙ take-append_seam (operand_text o) (44 ∷ rest)

behind-more : (o : Operand) (rest : List ℕ) → IsTold o → behind (operand_text o ++ 44 ∷ rest) ≡ rest
behind-more o rest t = ap (λ k. drop (suc k) (operand_text o ++ 44 ∷ rest)) (past (operand_text o) rest false (outside o t)) ∙ drop-comma (operand_text o) rest

abbrev three : Operand → Operand → Operand → Parsed
three o p q = record { first = o; second = p; third = q }

-- by the first text and what follows on its comma
by_front : (text : List ℕ) (a b : List ℕ) → front_of text ≡ a → behind text ≡ b → read_all text ≡ three (read a) (read (front_of b)) (read (behind b))
by_front text a b e h = ap (λ x. three (read x) (read (front_of (behind text))) (read (behind (behind text)))) e ∙ ap (λ y. three (read a) (read (front_of y)) (read (behind y))) h

by_second : (o : Operand) (b c d : List ℕ) → front_of b ≡ c → behind b ≡ d → three o (read (front_of b)) (read (behind b)) ≡ three o (read c) (read d)
by_second o b c d e h = ap (λ x. three o (read x) (read (behind b))) e ∙ ap (λ y. three o (read c) (read y)) h

all_read : (os : List Operand) → AreTold os → are_few os ≡ true → read_all (drop 1 (operands_text os)) ≡ padded (map cut os)
all_read [] t few = refl
all_read (o ∷ []) t few =
    by_front (operand_text o) (operand_text o) [] (front-alone o t.0) (behind-alone o t.0)
    ∙ ap (λ x. three x nothing nothing) (read_back o t.0)
all_read (o ∷ p ∷ []) t few =
    by_front (operand_text o ++ 44 ∷ operand_text p) (operand_text o) (operand_text p) (front-more o (operand_text p) t.0) (behind-more o (operand_text p) t.0)
    ∙ by_second (read (operand_text o)) (operand_text p) (operand_text p) [] (front-alone p t.1.0) (behind-alone p t.1.0)
    ∙ ap (λ x. three x (read (operand_text p)) nothing) (read_back o t.0)
    ∙ ap (λ y. three (cut o) y nothing) (read_back p t.1.0)
all_read (o ∷ p ∷ q ∷ []) t few =
    let rest : List ℕ = operand_text p ++ 44 ∷ operand_text q in
    by_front (operand_text o ++ 44 ∷ rest) (operand_text o) rest (front-more o rest t.0) (behind-more o rest t.0)
    ∙ by_second (read (operand_text o)) rest (operand_text p) (operand_text q) (front-more p (operand_text q) t.1.0) (behind-more p (operand_text q) t.1.0)
    ∙ ap (λ x. three x (read (operand_text p)) (read (operand_text q))) (read_back o t.0)
    ∙ ap (λ y. three (cut o) y (read (operand_text q))) (read_back p t.1.0)
    ∙ ap (λ z. three (cut o) (cut p) z) (read_back q t.1.1.0)
all_read (o ∷ p ∷ q ∷ r ∷ os) t few = cc

-- What words are.

words_below : (ws : List ℕ) → AreWords ws → (k : ℕ) → slice_index ws k < 65536
words_below [] are k = omega arith
words_below (w ∷ ws) are zero = are.0
words_below (w ∷ ws) are (suc k) = words_below ws are.1 k

words_at : (w : ℕ) (ws : List ℕ) (n : ℕ) → (k : ℕ) → words_from (w ∷ ws) (suc k) n ≡ words_from ws k n
words_at w ws zero k = refl
words_at w ws (suc n) k = let e : suc k + 1 ≡ suc (k + 1) = omega arith in ap (λ l. slice_index ws k ∷ l) (ap (λ v. words_from (w ∷ ws) v n) e ∙ words_at w ws n (k + 1))

all_words : (ws : List ℕ) → words_from ws 0 (length ws) ≡ ws
all_words [] = refl
all_words (w ∷ ws) = ap (λ l. w ∷ l) (words_at w ws (length ws) 0 ∙ all_words ws)

following_words : (w : ℕ) (ws : List ℕ) → words_from (w ∷ ws) 1 (length (w ∷ ws) - 1) ≡ ws
following_words w ws = let e : suc (length ws) - 1 ≡ length ws = omega arith in ap (words_from (w ∷ ws) 1) e ∙ words_at w ws (length ws) 0 ∙ all_words ws

low_parts : (w : ℕ) → low_byte (first_of w) ≡ w % 256
low_parts w = omega arith

given : (at w : ℕ) (ws : List ℕ) → at < 4294967296 → AreWords (w ∷ ws) → Given at (w ∷ ws) (first_of w)
given at w ws fits are = record {
  fits = fits;
  words = record { below = words_below (w ∷ ws) are };
  upper = omega arith;
  bit8 = omega arith;
  size = omega arith;
  mode = omega arith;
  lower = omega arith;
  low = low_parts w;
}

-- The operation that makes an instruction.

abbrev IsMade : Found → Instr68 → ℕ → Type 0
IsMade found i used = found ≡ Made i used true

ended_made : (found : Found) (count : ℕ) (i : Instr68) (used : ℕ) → ended found count ≡ Op i used → IsMade found i used
ended_made (Made j n good) count i used is = by (nat_lt count n) good is
  where
    by : (b c : Bool) → (if b then Short else if c then Op j n else Illegal) ≡ Op i used → Made j n c ≡ Made i used true
    by true c h = cc
    by false true h = cc
    by false false h = cc
ended_made RowPrivileged count i used is = cc
ended_made RowIllegal count i used is = cc

read_made : (op : Op68) (f : First) (ws : List ℕ) (i : Instr68) (used : ℕ) → read_by op f ws ≡ Op i used → IsMade (made op f ws) i used
read_made LineA f ws i used is = cc
read_made LineF f ws i used is = cc
read_made op f ws i used is = ended_made (made op f ws) (length ws) i used is

made_tells : (at : ℕ) (ws : List ℕ) (found : Found) (i : Instr68) (used : ℕ) → IsTelling at ws found → IsMade found i used → Tells i used ws at
made_tells at ws found i used tells is = let h : IsTelling at ws (Made i used true) = subst (IsTelling at ws) is tells in h refl

-- The first word.

leads : (form : Form) (at w : ℕ) (p : Parsed) → is_data_form form ≡ false → first_word form p.first p.second + low_part form w ≡ w → (is_near_form form ≡ true → way_of at p.first % 256 ≡ w % 256) → leading form at p ≡ w
leads DataWord at w p instruction word low = cc
leads (Always place base) at w p instruction word low = omega (arith, word)
leads (Near base) at w p instruction word low = ap (λ x. base + x) (low refl) ∙ word
leads (Far base) at w p instruction word low = omega (arith, word)
leads (Registers base registers) at w p instruction word low = omega (arith, word)
leads (Chosen choice place base other number) at w p instruction word low = omega (arith, word)

-- All of it.

spelled_words : (at w : ℕ) (ws : List ℕ) (i : Instr68) (s : Spells i (length (w ∷ ws)) (w ∷ ws) at w) → w < 65536 → Tells i (length (w ∷ ws)) (w ∷ ws) at → spelled s.form at (told i (w ∷ ws) at) ≡ w ∷ ws
spelled_words at w ws i s below t =
    let first : leading s.form at (told i (w ∷ ws) at) ≡ w = leads s.form at w (told i (w ∷ ws) at) s.is_instruction s.word (λ near. t.low (s.is_branch near)) in
    let cut_first : leading s.form at (told i (w ∷ ws) at) % 65536 ≡ w = omega (arith, first, below) in
    ap (λ x. x ∷ following (ending s.form) at (told i (w ∷ ws) at)) cut_first
    ∙ ap (λ e. w ∷ following e at (told i (w ∷ ws) at)) s.ended
    ∙ ap (λ l. w ∷ l) (t.words ∙ following_words w ws)

by_instruction : (form : Form) (at : ℕ) (text : List ℕ) → is_data_form form ≡ false → spelled_by (Some form) at text ≡ spelled form at (read_all text)
by_instruction DataWord at text h = cc
by_instruction (Always place base) at text h = refl
by_instruction (Near base) at text h = refl
by_instruction (Far base) at text h = refl
by_instruction (Registers base registers) at text h = refl
by_instruction (Chosen choice place base other word) at text h = refl

spelled_text : (at w : ℕ) (ws : List ℕ) (i : Instr68) (s : Spells i (length (w ∷ ws)) (w ∷ ws) at w) → w < 65536 → Tells i (length (w ∷ ws)) (w ∷ ws) at → spelled_line (name i (length (w ∷ ws)) ++ operands_text (operands i (w ∷ ws) at)) at ≡ w ∷ ws
spelled_text at w ws i s below t =
    let n : List ℕ = name i (length (w ∷ ws)) in
    let os : List Operand = operands i (w ∷ ws) at in
    let line : List ℕ = n ++ operands_text os in
    let back : (name_of line ≡ n) × (rest_of line ≡ drop 1 (operands_text os)) = name_back n (operands_text os) s.clear (ends os) in
    let named : form_of (name_of line) ≡ Some s.form = ap form_of back.0 ∙ s.named in
    ap (λ o. spelled_by o at (rest_of line)) named
    ∙ by_instruction s.form at (rest_of line) s.is_instruction
    ∙ ap (λ text. spelled s.form at (read_all text)) back.1
    ∙ ap (λ p. spelled s.form at p) (all_read os t.are_told s.few)
    ∙ spelled_words at w ws i s below t

-- A word in hexadecimal.

hex_front : (w : ℕ) → comma false (hex 4 w) ≡ length (hex 4 w)
hex_front w = whole (hex 4 w) false (scan_hex 4 w [] false)

value_read : (w : ℕ) → read (front_of (hex 4 w)) ≡ Word (w % 65536)
value_read w = ap (λ k. read (take k (hex 4 w))) (hex_front w) ∙ ap Word (four_digits w)

pub words_spell : WordsSpell
words_spell at w below =
    let e : w % 65536 % 65536 ≡ w = omega (arith, below) in
    ap (λ o. value_of o % 65536 ∷ []) (value_read w) ∙ ap (λ x. x ∷ []) e

pub texts_spell : TextsSpell
texts_spell at [] i fits are is = cc
texts_spell at (w ∷ ws) i fits are is =
    let f : First = first_of w in
    let by : IsMade (made (operation f) f (w ∷ ws)) i (length (w ∷ ws)) = read_made (operation f) f (w ∷ ws) i (length (w ∷ ws)) (sym (by_operation w ws) ∙ is) in
    spelled_text at w ws i (first_spelled w ws at i (length (w ∷ ws)) true are.0 by) are.0
    (made_tells at (w ∷ ws) (made (operation f) f (w ∷ ws)) i (length (w ∷ ws)) (tells at (w ∷ ws) f (given at w ws fits are) (operation f) (asked w are.0)) by)
