-- The line of a call: it is read where it was written, and nothing else is.
use Rattle.std.proofs.Common.{◌≡◌, ℕ, ◌%◌, ◌^◌, ◌<◌, List, ◌++◌, drop, Option, Some, None, refl, ap, subst, sym, ◌∙◌, arith}
use Rattle.std.proofs.lemmas.List.{drop-drop}
use Rattle.std.specs.Prelude.{codes, is_some, if◌then◌else◌}
use Rattle.std.specs.Option.{option_and_then, option_map}
use Rattle.mix_bits.specs.Text.{hexadecimal}
use Rattle.mix_bits.specs.declared.isa.Isa.{Isa}
use Rattle.mix_bits.specs.declared.isa.Isa.TheVariants.{M68, Ppc}
use Rattle.mix_bits.specs.declared.size.Size.TheVariants.{Four}
use Rattle.switch_frame.specs.declared.kind.Kind.{Kind}
use Rattle.switch_frame.specs.declared.kind.Kind.TheVariants.{M68ToPpc, PpcToM68, PpcToPpc, M68ToM68}
use Rattle.switch_frame.specs.Sets.{kind_of}
use Rattle.call_trace.specs.Names.{set_name, set_names}
use Rattle.trace_lines.specs.inner.Pieces.{after_mark, hex_front, marked_value, set_front}
use Rattle.trace_lines.specs.inner.Reading.{head_of}
use Rattle.trace_lines.specs.declared.calls.Head.{Head}
use Rattle.trace_lines.proofs.Digits.{hex-read, hex-written}
use Rattle.trace_lines.proofs.Marks.{marked-after}
use Rattle.trace_lines.proofs.Sized.{value-read, value-written}

-- a set and a space at the front of a text
pub record IsSet (s : Isa) (text : List ℕ) : Type 0 where
  pub text_is : text ≡ set_name s ++ (codes " " ++ drop 4 text)

set-by : (s : Isa) (text : List ℕ) (first second : Option (List ℕ)) → after_mark (codes "68k ") text ≡ first → after_mark (codes "ppc ") text ≡ second
    → (if is_some first then Some M68 else (if is_some second then Some Ppc else None)) ≡ Some s → IsSet s text
set-by s text (Some rest) second p q is =
    let set : M68 ≡ s = (let h : Some M68 ≡ Some s = is in cc) in
    let whole : text ≡ codes "68k " ++ rest = marked-after (codes "68k ") text rest p in
    let behind : drop 4 text ≡ rest = ap (drop 4) whole in
    subst (λ x. IsSet x text) set (record { text_is = whole ∙ ap (λ t. codes "68k " ++ t) (sym behind) })
set-by s text None (Some rest) p q is =
    let set : Ppc ≡ s = (let h : Some Ppc ≡ Some s = is in cc) in
    let whole : text ≡ codes "ppc " ++ rest = marked-after (codes "ppc ") text rest q in
    let behind : drop 4 text ≡ rest = ap (drop 4) whole in
    subst (λ x. IsSet x text) set (record { text_is = whole ∙ ap (λ t. codes "ppc " ++ t) (sym behind) })
set-by s text None None p q is = absurd (let no : None ≡ Some s = is in cc)

pub set-read : (s : Isa) (text : List ℕ) → set_front text ≡ Some s → IsSet s text
set-read s text is = set-by s text (after_mark (codes "68k ") text) (after_mark (codes "ppc ") text) refl refl is

abbrev pub head_with : Kind → ℕ → ℕ → Head
head_with kind target info = record { kind = kind; target = target; info = info }

-- the front of a call's line, behind `call `
abbrev pub front_text : Head → List ℕ → List ℕ
front_text head rest =
    set_names head.kind ++ (codes " " ++ (hexadecimal 8 head.target ++ ((codes " " ++ hexadecimal 8 head.info) ++ rest)))

pub record IsHead (head : Head) (text : List ℕ) : Type 0 where
  pub target : head.target < 2 ^ 32
  pub info : head.info < 2 ^ 32
  pub text_is : text ≡ front_text head (drop 25 text)

names-of : (a b : Isa) (rest : List ℕ) → set_names (kind_of a b) ++ rest ≡ set_name a ++ (codes " " ++ (set_name b ++ rest))
names-of M68 M68 rest = refl
names-of M68 Ppc rest = refl
names-of Ppc M68 rest = refl
names-of Ppc Ppc rest = refl

-- the four parts of a front, as they are read
parts-by : (a b : Isa) (target info : ℕ) (text : List ℕ)
    → set_front text ≡ Some a → set_front (drop 4 text) ≡ Some b → hex_front 8 (drop 8 text) ≡ Some target → marked_value (codes " ") Four (drop 16 text) ≡ Some info
    → IsHead (record { kind = kind_of a b; target = target; info = info }) text
parts-by a b target info text p q r s =
    let first = set-read a text p in
    let second = set-read b (drop 4 text) q in
    let third = hex-read 8 target (drop 8 text) r in
    let fourth = value-read (codes " ") Four info (drop 16 text) s in
    let eight : drop 4 (drop 4 text) ≡ drop 8 text = drop-drop 4 4 text in
    let sixteen : drop 8 (drop 8 text) ≡ drop 16 text = drop-drop 8 8 text in
    let last : drop 9 (drop 16 text) ≡ drop 25 text = drop-drop 9 16 text in
    let small : info % 4294967296 ≡ info = fourth.sized in
    record {
      target = third.small;
      info = omega arith;
      text_is =
          first.text_is
          ∙ ap (λ t. set_name a ++ (codes " " ++ t)) (second.text_is ∙ ap (λ t. set_name b ++ (codes " " ++ t)) (eight ∙ third.text_is ∙ ap (λ t. hexadecimal 8 target ++ t) (sixteen ∙ fourth.text_is ∙ ap (λ t. (codes " " ++ hexadecimal 8 info) ++ t) last)))
          ∙ sym (names-of a b (codes " " ++ (hexadecimal 8 target ++ ((codes " " ++ hexadecimal 8 info) ++ drop 25 text))));
    }

head-by : (first second : Option Isa) (third fourth : Option ℕ) (text : List ℕ) (head : Head)
    → set_front text ≡ first → set_front (drop 4 text) ≡ second → hex_front 8 (drop 8 text) ≡ third → marked_value (codes " ") Four (drop 16 text) ≡ fourth
    → option_and_then (λ caller. option_and_then (λ callee. option_and_then (λ target. option_map (λ info. record { kind = kind_of caller callee; target = target; info = info }) fourth) third) second) first ≡ Some head
    → IsHead head text
head-by None second third fourth text head p q r s is = absurd (let no : None ≡ Some head = is in cc)
head-by (Some a) None third fourth text head p q r s is = absurd (let no : None ≡ Some head = is in cc)
head-by (Some a) (Some b) None fourth text head p q r s is = absurd (let no : None ≡ Some head = is in cc)
head-by (Some a) (Some b) (Some target) None text head p q r s is = absurd (let no : None ≡ Some head = is in cc)
head-by (Some a) (Some b) (Some target) (Some info) text head p q r s is =
    let made : Head = record { kind = kind_of a b; target = target; info = info } in
    let same : made ≡ head = (let h : Some made ≡ Some head = is in cc) in
    subst (λ h. IsHead h text) same (parts-by a b target info text p q r s)

pub head-read : (text : List ℕ) (head : Head) → head_of text ≡ Some head → IsHead head text
unfolding head_of
head-read text head is =
    head-by (set_front text) (set_front (drop 4 text)) (hex_front 8 (drop 8 text)) (marked_value (codes " ") Four (drop 16 text)) text head refl refl refl refl is

-- and as they are written
tail-by : (kind : Kind) (target info : ℕ) (rest : List ℕ) → target < 2 ^ 32 → info < 2 ^ 32
    → option_and_then (λ target. option_map (λ info. record { kind = kind; target = target; info = info })
    (marked_value (codes " ") Four ((codes " " ++ hexadecimal 8 info) ++ rest)))
    (hex_front 8 (hexadecimal 8 target ++ ((codes " " ++ hexadecimal 8 info) ++ rest)))
    ≡ Some (head_with kind target info)
tail-by kind target info rest wide signed =
    ap (option_and_then (λ target. option_map (λ info. head_with kind target info) (marked_value (codes " ") Four ((codes " " ++ hexadecimal 8 info) ++ rest))))
    (hex-written 8 target ((codes " " ++ hexadecimal 8 info) ++ rest) wide)
    ∙ ap (option_map (λ info. head_with kind target info)) (value-written (codes " ") Four info rest (let h : info % 4294967296 ≡ info = omega arith in h))

pub head-written : (kind : Kind) (target info : ℕ) (rest : List ℕ) → target < 2 ^ 32 → info < 2 ^ 32
    → head_of (front_text (head_with kind target info) rest) ≡ Some (head_with kind target info)
unfolding head_of
head-written M68ToPpc target info rest wide signed = tail-by M68ToPpc target info rest wide signed
head-written PpcToM68 target info rest wide signed = tail-by PpcToM68 target info rest wide signed
head-written PpcToPpc target info rest wide signed = tail-by PpcToPpc target info rest wide signed
head-written M68ToM68 target info rest wide signed = tail-by M68ToM68 target info rest wide signed

pub behind-front : (kind : Kind) (target info : ℕ) (rest : List ℕ) → drop 25 (front_text (head_with kind target info) rest) ≡ rest
behind-front M68ToPpc target info rest = refl
behind-front PpcToM68 target info rest = refl
behind-front PpcToPpc target info rest = refl
behind-front M68ToM68 target info rest = refl
