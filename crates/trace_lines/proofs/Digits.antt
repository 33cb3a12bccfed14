-- Hexadecimal digits at the front of a text.
use Rattle.std.proofs.Common.{◌≡◌, ℕ, zero, suc, ◌+◌, ◌/◌, ◌%◌, ◌^◌, ◌<◌, List, ◌∷◌, ◌++◌, length, take, drop, true, Option, Some, None, refl, sym, ap, ◌∙◌, append_assoc}
use Rattle.std.specs.Fmt.{digit_glyph}
use Rattle.std.specs.Option.{option_and_then}
use Rattle.std.proofs.Math.Seq.{drop-append-add}
use Rattle.std.proofs.lemmas.List.{take-append-drop}
use Rattle.mix_bits.specs.Text.{hexadecimal}
use Rattle.mix_bits.proofs.ReadHexadecimals.{reads_hexadecimals}
use Rattle.trace_lines.specs.inner.Pieces.{after_mark, hex_front}
use Rattle.trace_lines.proofs.Marks.{after-marked, marked-after}

front : (k v : ℕ) (rest : List ℕ) → take k (hexadecimal k v ++ rest) ≡ hexadecimal k v
front zero v rest = refl
front (suc k) v rest = ap (λ ds. digit_glyph true (v / 16 ^ k % 16) ∷ ds) (front k v rest)

pub behind-digits : (k v : ℕ) (rest : List ℕ) → drop k (hexadecimal k v ++ rest) ≡ rest
behind-digits zero v rest = refl
behind-digits (suc k) v rest = behind-digits k v rest

pub hex-written : (k v : ℕ) (rest : List ℕ) → v < 16 ^ k → hex_front k (hexadecimal k v ++ rest) ≡ Some v
hex-written k v rest small = (reads_hexadecimals k (take k (hexadecimal k v ++ rest)) v).1 (small, sym (front k v rest))

pub record IsRead (k v : ℕ) (text : List ℕ) : Type 0 where
  pub small : v < 16 ^ k
  pub text_is : text ≡ hexadecimal k v ++ drop k text

pub hex-read : (k v : ℕ) (text : List ℕ) → hex_front k text ≡ Some v → IsRead k v text
hex-read k v text is =
    let told = (reads_hexadecimals k (take k text) v).0 is in
    record {
      small = told.0;
      text_is = sym (take-append-drop k text) ∙ ap (λ xs. xs ++ drop k text) (sym told.1);
    }

-- a number behind a mark
pub sized-written : (k v : ℕ) (mark rest : List ℕ) → v < 16 ^ k → option_and_then (hex_front k) (after_mark mark ((mark ++ hexadecimal k v) ++ rest)) ≡ Some v
sized-written k v mark rest small =
    ap (λ t. option_and_then (hex_front k) (after_mark mark t)) (append_assoc mark (hexadecimal k v) rest)
    ∙ ap (option_and_then (hex_front k)) (after-marked mark (hexadecimal k v ++ rest))
    ∙ hex-written k v rest small

pub record IsSized (k v : ℕ) (mark text : List ℕ) : Type 0 where
  pub small : v < 16 ^ k
  pub text_is : text ≡ (mark ++ hexadecimal k v) ++ drop (length mark + k) text

pub sized-read : (k v : ℕ) (mark text : List ℕ) → option_and_then (hex_front k) (after_mark mark text) ≡ Some v → IsSized k v mark text
sized-read k v mark text is = by (after_mark mark text) refl is
  where
    by : (o : Option (List ℕ)) → after_mark mark text ≡ o → option_and_then (hex_front k) o ≡ Some v → IsSized k v mark text
    by None q h = absurd (let no : None ≡ Some v = h in cc)
    by (Some rest) q h =
        let told = hex-read k v rest h in
        let whole : text ≡ mark ++ rest = marked-after mark text rest q in
        let left : drop (length mark + k) text ≡ drop k rest = ap (drop (length mark + k)) whole ∙ drop-append-add mark rest k in
        record {
          small = told.small;
          text_is = whole ∙ ap (λ r. mark ++ r) told.text_is ∙ sym (append_assoc mark (hexadecimal k v) (drop k rest))
              ∙ ap (λ r. (mark ++ hexadecimal k v) ++ r) (sym left);
        }

pub behind-sized : (k v : ℕ) (mark rest : List ℕ) → drop (length mark + k) ((mark ++ hexadecimal k v) ++ rest) ≡ rest
behind-sized k v mark rest =
    ap (drop (length mark + k)) (append_assoc mark (hexadecimal k v) rest) ∙ drop-append-add mark (hexadecimal k v ++ rest) k ∙ behind-digits k v rest
