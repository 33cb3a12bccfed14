-- Asks: they are read where they were written, and nothing else is.
use Rattle.std.proofs.Common.{◌≡◌, ℕ, suc, ◌+◌, ◌-◌, ◌^◌, ◌<◌, List, ◌∷◌, ◌++◌, length, take, drop, Bool, true, false, Option, Some, None, if◌then◌else◌, refl, ap, subst, sym, ◌∙◌, zero-add, arith}
use Rattle.std.specs.Prelude.{codes, decimal}
use Rattle.std.specs.Option.{option_and_then, option_map}
use Rattle.std.specs.Str.{bytes_eq}
use Rattle.std.proofs.Math.Seq.{drop-append-add, take-append_seam}
use Rattle.std.proofs.lemmas.Slice.Eq.{bytes_eq-Decides}
use Rattle.std.proofs.lemmas.Fmt.{decimal_is_IsNumeral}
use Rattle.mix_bits.specs.Numbers.{decimal_number, hexadecimal_number}
use Rattle.mix_bits.specs.Text.{hexadecimal}
use Rattle.mix_bits.proofs.ReadDecimals.{reads_decimals}
use Rattle.mix_bits.proofs.ReadHexadecimals.{reads_hexadecimals}
use Rattle.dev_rack.specs.declared.answers.Answer.{Answer}
use Rattle.dev_rack.specs.declared.answers.Answer.TheVariants.{Word, Failed, Empty, Full}
use Rattle.call_trace.specs.Lines.{answer_text}
use Rattle.trace_lines.specs.EventLines.{IsAnswer}
use Rattle.trace_lines.specs.inner.Pieces.{after_mark, first_space, hex_front}
use Rattle.trace_lines.specs.inner.Reading.{answer_in, ask_of}
use Rattle.trace_lines.specs.declared.event.Event.{Event}
use Rattle.trace_lines.specs.declared.event.Event.TheVariants.{Asked}
use Rattle.trace_lines.proofs.Digits.{hex-read, hex-written}
use Rattle.trace_lines.proofs.Marks.{marked-after}
use Rattle.trace_lines.proofs.Spaces.{space-read, space-written}

pub same-text : (xs ys : List ℕ) → bytes_eq xs ys ≡ true → xs ≡ ys
same-text xs ys h = (bytes_eq-Decides xs ys).0 h

other-by : (b : Bool) (xs ys : List ℕ) → bytes_eq xs ys ≡ b → (length xs ≡ length ys → ⊥) → bytes_eq xs ys ≡ false
other-by true xs ys q differ = absurd (differ (ap length (same-text xs ys q)))
other-by false xs ys q differ = q

-- texts of different lengths are not the same
pub other-text : (xs ys : List ℕ) → (length xs ≡ length ys → ⊥) → bytes_eq xs ys ≡ false
other-text xs ys differ = other-by (bytes_eq xs ys) xs ys refl differ

pub record IsTold (a : Answer) (text : List ℕ) : Type 0 where
  pub answer : IsAnswer a
  pub text_is : text ≡ answer_text a

answer-by : (text : List ℕ) (a : Answer) (b c d : Bool) (o : Option ℕ)
    → bytes_eq text (codes "fail") ≡ b → bytes_eq text (codes "empty") ≡ c → bytes_eq text (codes "full") ≡ d → hexadecimal_number 8 text ≡ o
    → (if b then Some Failed else (if c then Some Empty else (if d then Some Full else option_map Word o))) ≡ Some a → IsTold a text
answer-by text a true c d o p q r s is =
    let same : Failed ≡ a = (let h : Some Failed ≡ Some a = is in cc) in
    subst (λ x. IsTold x text) same (record { answer = tt; text_is = same-text text (codes "fail") p })
answer-by text a false true d o p q r s is =
    let same : Empty ≡ a = (let h : Some Empty ≡ Some a = is in cc) in
    subst (λ x. IsTold x text) same (record { answer = tt; text_is = same-text text (codes "empty") q })
answer-by text a false false true o p q r s is =
    let same : Full ≡ a = (let h : Some Full ≡ Some a = is in cc) in
    subst (λ x. IsTold x text) same (record { answer = tt; text_is = same-text text (codes "full") r })
answer-by text a false false false None p q r s is = absurd (let no : None ≡ Some a = is in cc)
answer-by text a false false false (Some w) p q r s is =
    let same : Word w ≡ a = (let h : Some (Word w) ≡ Some a = is in cc) in
    let told = (reads_hexadecimals 8 text w).0 s in
    subst (λ x. IsTold x text) same (record { answer = told.0; text_is = sym told.1 })

pub answer-read : (text : List ℕ) (a : Answer) → answer_in text ≡ Some a → IsTold a text
answer-read text a is =
    answer-by text a (bytes_eq text (codes "fail")) (bytes_eq text (codes "empty")) (bytes_eq text (codes "full")) (hexadecimal_number 8 text) refl refl refl refl is

word-by : (text : List ℕ) (w : ℕ) → bytes_eq text (codes "fail") ≡ false → bytes_eq text (codes "empty") ≡ false → bytes_eq text (codes "full") ≡ false → hexadecimal_number 8 text ≡ Some w → answer_in text ≡ Some (Word w)
word-by text w p q r s = rw (p, q, r, s) refl

pub answer-written : (a : Answer) → IsAnswer a → answer_in (answer_text a) ≡ Some a
answer-written Failed is = refl
answer-written Empty is = refl
answer-written Full is = refl
answer-written (Word w) is =
    word-by (hexadecimal 8 w) w (other-text (hexadecimal 8 w) (codes "fail") (λ e. let h : 8 ≡ 4 = e in omega (arith, h)))
    (other-text (hexadecimal 8 w) (codes "empty") (λ e. let h : 8 ≡ 5 = e in omega (arith, h)))
    (other-text (hexadecimal 8 w) (codes "full") (λ e. let h : 8 ≡ 4 = e in omega (arith, h)))
    ((reads_hexadecimals 8 (hexadecimal 8 w) w).1 (is, refl))

-- an ask behind `ask `
abbrev pub ask_text : ℕ → ℕ → Answer → List ℕ
ask_text slot word answer = decimal slot ++ (32 ∷ (hexadecimal 8 word ++ (codes " " ++ answer_text answer)))

pub record IsAsk (slot word : ℕ) (answer : Answer) (text : List ℕ) : Type 0 where
  pub slot_small : slot < 2 ^ 32
  pub word_small : word < 2 ^ 32
  pub answered : IsAnswer answer
  pub text_is : text ≡ ask_text slot word answer

pub record IsAsked (e : Event) (text : List ℕ) : Type 0 where
  pub slot : ℕ
  pub word : ℕ
  pub answer : Answer
  pub event : e ≡ Asked slot word answer
  pub told : IsAsk slot word answer text

-- its four parts
asked-is : (text : List ℕ) (k slot word : ℕ) (answer : Answer) (behind : List ℕ) → first_space text ≡ Some k → decimal_number (take k text) ≡ Some slot
    → hex_front 8 (drop (k + 1) text) ≡ Some word → after_mark (codes " ") (drop 8 (drop (k + 1) text)) ≡ Some behind → answer_in behind ≡ Some answer → IsAsk slot word answer text
asked-is text k slot word answer behind p q r s is =
    let split = (space-read text 0 k p).split in
    let here : text ≡ take k text ++ (32 ∷ drop (k + 1) text) =
    (let none : k - 0 ≡ k = omega arith in let next : suc k ≡ k + 1 = omega arith in
    subst (λ n. text ≡ take k text ++ (32 ∷ drop n text)) next (subst (λ n. text ≡ take n text ++ (32 ∷ drop (suc n) text)) none split)) in
    let number = (reads_decimals (take k text) slot).0 q in
    let digits = hex-read 8 word (drop (k + 1) text) r in
    let marked : drop 8 (drop (k + 1) text) ≡ codes " " ++ behind = marked-after (codes " ") (drop 8 (drop (k + 1) text)) behind s in
    let told = answer-read behind answer is in
    record {
      slot_small = number.0;
      word_small = digits.small;
      answered = told.answer;
      text_is = here ∙ ap (λ t. t ++ (32 ∷ drop (k + 1) text)) (sym number.1)
          ∙ ap (λ t. decimal slot ++ (32 ∷ t)) (digits.text_is ∙ ap (λ t. hexadecimal 8 word ++ t) (marked ∙ ap (λ t. codes " " ++ t) told.text_is));
    }

asked-by : (text : List ℕ) (e : Event) (k slot word : ℕ) (behind : List ℕ) (o : Option Answer) → first_space text ≡ Some k → decimal_number (take k text) ≡ Some slot
    → hex_front 8 (drop (k + 1) text) ≡ Some word → after_mark (codes " ") (drop 8 (drop (k + 1) text)) ≡ Some behind → answer_in behind ≡ o
    → option_map (λ answer. Asked slot word answer) o ≡ Some e → IsAsked e text
asked-by text e k slot word behind None p q r s t is = absurd (let no : None ≡ Some e = is in cc)
asked-by text e k slot word behind (Some answer) p q r s t is =
    let same : Asked slot word answer ≡ e = (let h : Some (Asked slot word answer) ≡ Some e = is in cc) in
    record { slot = slot; word = word; answer = answer; event = sym same; told = asked-is text k slot word answer behind p q r s t }

behind-by : (text : List ℕ) (e : Event) (k : ℕ) (second third : Option ℕ) (fourth : Option (List ℕ)) → first_space text ≡ Some k → decimal_number (take k text) ≡ second
    → hex_front 8 (drop (k + 1) text) ≡ third → after_mark (codes " ") (drop 8 (drop (k + 1) text)) ≡ fourth
    → option_and_then (λ slot. option_and_then (λ word. option_and_then (λ behind. option_map (λ answer. Asked slot word answer) (answer_in behind)) fourth) third) second ≡ Some e → IsAsked e text
behind-by text e k None third fourth p q r s is = absurd (let no : None ≡ Some e = is in cc)
behind-by text e k (Some slot) None fourth p q r s is = absurd (let no : None ≡ Some e = is in cc)
behind-by text e k (Some slot) (Some word) None p q r s is = absurd (let no : None ≡ Some e = is in cc)
behind-by text e k (Some slot) (Some word) (Some behind) p q r s is = asked-by text e k slot word behind (answer_in behind) p q r s refl is

space-by : (text : List ℕ) (e : Event) (first : Option ℕ) → first_space text ≡ first
    → option_and_then (λ k. option_and_then (λ slot. option_and_then (λ word. option_and_then (λ behind. option_map (λ answer. Asked slot word answer) (answer_in behind))
    (after_mark (codes " ") (drop 8 (drop (k + 1) text)))) (hex_front 8 (drop (k + 1) text))) (decimal_number (take k text))) first ≡ Some e → IsAsked e text
space-by text e None p is = absurd (let no : None ≡ Some e = is in cc)
space-by text e (Some k) p is =
    behind-by text e k (decimal_number (take k text)) (hex_front 8 (drop (k + 1) text)) (after_mark (codes " ") (drop 8 (drop (k + 1) text))) p refl refl refl is

pub ask-read : (text : List ℕ) (e : Event) → ask_of text ≡ Some e → IsAsked e text
unfolding ask_of
ask-read text e is = space-by text e (first_space text) refl is

-- an ask whose parts stand in these texts
abbrev pub parts_of : List ℕ → List ℕ → Option Event
parts_of front behind =
    option_and_then (λ slot. option_and_then (λ word. option_and_then (λ rest. option_map (λ answer. Asked slot word answer) (answer_in rest))
    (after_mark (codes " ") (drop 8 behind))) (hex_front 8 behind)) (decimal_number front)

parts-written : (slot word : ℕ) (answer : Answer) → slot < 2 ^ 32 → word < 2 ^ 32 → IsAnswer answer
    → parts_of (decimal slot) (hexadecimal 8 word ++ (codes " " ++ answer_text answer)) ≡ Some (Asked slot word answer)
parts-written slot word answer small wide is =
    let number : decimal_number (decimal slot) ≡ Some slot = (reads_decimals (decimal slot) slot).1 (small, refl) in
    let digits : hex_front 8 (hexadecimal 8 word ++ (codes " " ++ answer_text answer)) ≡ Some word = hex-written 8 word (codes " " ++ answer_text answer) wide in
    let told : answer_in (answer_text answer) ≡ Some answer = answer-written answer is in
    ap (option_and_then (λ slot. option_and_then (λ word. option_and_then (λ rest. option_map (λ answer. Asked slot word answer) (answer_in rest))
    (Some (answer_text answer))) (hex_front 8 (hexadecimal 8 word ++ (codes " " ++ answer_text answer))))) number
    ∙ ap (option_and_then (λ word. option_map (λ answer. Asked slot word answer) (answer_in (answer_text answer)))) digits
    ∙ ap (option_map (λ answer. Asked slot word answer)) told

pub ask-written : (slot word : ℕ) (answer : Answer) → slot < 2 ^ 32 → word < 2 ^ 32 → IsAnswer answer → ask_of (ask_text slot word answer) ≡ Some (Asked slot word answer)
unfolding ask_of
ask-written slot word answer small wide is =
    let rest : List ℕ = hexadecimal 8 word ++ (codes " " ++ answer_text answer) in
    let found : first_space (ask_text slot word answer) ≡ Some (length (decimal slot)) =
    space-written (decimal slot) rest 0 (decimal_is_IsNumeral slot (omega arith)).0.1 ∙ ap Some (zero-add (length (decimal slot))) in
    let front : take (length (decimal slot)) (ask_text slot word answer) ≡ decimal slot = take-append_seam (decimal slot) (32 ∷ rest) in
    let behind : drop (length (decimal slot) + 1) (ask_text slot word answer) ≡ rest = drop-append-add (decimal slot) (32 ∷ rest) 1 in
    ap (option_and_then (λ k. parts_of (take k (ask_text slot word answer)) (drop (k + 1) (ask_text slot word answer)))) found
    ∙ ap (λ t. parts_of t (drop (length (decimal slot) + 1) (ask_text slot word answer))) front
    ∙ ap (parts_of (decimal slot)) behind
    ∙ parts-written slot word answer small wide is
