-- The text of the number read is compared with the word.
use Rattle.std.proofs.Common.{◌≡◌, ℕ, ◌<◌, ◌^◌, decimal, Result, Ok, Err, Some, None, true, false, List, arith, sym, ap, ◌∙◌}
use Rattle.std.specs.Str.{bytes_eq}
use Rattle.std.specs.Str.Parse.{ParsesUnsigned}
use Rattle.std.proofs.lemmas.Fmt.{parse-decimal}
use Rattle.std.proofs.lemmas.Slice.Eq.{bytes_eq-Decides}
use Rattle.mix_bits.specs.Numbers.{decimal_number}
use Rattle.mix_bits.proofs.ReadDecimals.{decimal_read, decimal_unread}
use Rattle.mix_bits.proofs.number.read_word.Goals as goal

-- a text that is not read is no number's
unread : {E : Type 0} (word : List ℕ) (r : Result ℕ E) (e : E) → r ≡ Err e → ParsesUnsigned 32 10 word r → None ≡ decimal_number word
unread {E} word r e is_err parses = sym (decimal_unread word (λ n small same.
    let read : r ≡ Ok n = parse-decimal 32 n word r small (omega (arith, small)) (sym same) parses in cc))

-- a text is that of no other number than the one that it is read as
differs : {E : Type 0} (word text : List ℕ) (r : Result ℕ E) (m : ℕ) → r ≡ Ok m → ParsesUnsigned 32 10 word r → text ≡ decimal m → false ≡ bytes_eq text word → None ≡ decimal_number word
differs {E} word text r m is_m parses printed unlike = sym (decimal_unread word (λ n small same.
    let read : r ≡ Ok n = parse-decimal 32 n word r small (omega (arith, small)) (sym same) parses in
    let one : m ≡ n = cc in
    let alike : bytes_eq text word ≡ true = (bytes_eq-Decides text word).1 (printed ∙ ap decimal one ∙ same) in cc))

-- the word is the number's text where the two are alike
alike : (word text : List ℕ) (m : ℕ) → m < 2 ^ 32 → text ≡ decimal m → true ≡ bytes_eq text word → Some m ≡ decimal_number word
alike word text m small printed same = sym (decimal_read word m small (sym printed ∙ (bytes_eq-Decides text word).0 (sym same)))

pub returns-in-Ok : goal.returns-in-Ok
returns-in-Ok c = alike _ _ c.in-Ok.n (omega arith) c.format.ensures.text c.if-eq.ensures

pub returns-in_default : goal.returns-in_default
returns-in_default c = differs _ _ c.parse.result c.in-Ok.n c.in-Ok.is c.parse.ensures.value.0 c.format.ensures.text c.if-eq.ensures

pub returns-in_default-2 : goal.returns-in_default-2
returns-in_default-2 c = unread _ c.parse.result c.in_default.field-0 c.in_default.is c.parse.ensures.value.0
