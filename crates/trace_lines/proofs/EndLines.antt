-- Ends: they are read where they were written, and nothing else is.
use Rattle.std.proofs.Common.{◌≡◌, ℕ, suc, ◌+◌, ◌-◌, ◌%◌, ◌^◌, ◌<◌, ◌≤◌, ◌==◌, List, [], ◌∷◌, ◌++◌, length, take, drop, Bool, true, false, Option, Some, None, if◌then◌else◌, refl, ap, subst, ◌∙◌, arith}
use Rattle.std.specs.Prelude.{codes}
use Rattle.std.specs.Option.{option_and_then, option_map}
use Rattle.std.specs.Str.{bytes_eq}
use Rattle.std.proofs.Math.ListN.{drop_of_length-le}
use Rattle.std.proofs.Math.Seq.{drop-append-add, take-append_seam}
use Rattle.std.proofs.lemmas.Bool.{eqb-true}
use Rattle.std.proofs.lemmas.List.{append-nil, drop-drop}
use Rattle.mix_bits.specs.Text.{hexadecimal}
use Rattle.mix_bits.specs.declared.fault.Fault.{Fault as AFault}
use Rattle.mix_bits.specs.declared.fault.FaultKind.{FaultKind}
use Rattle.mix_bits.specs.declared.fault.FaultKind.TheVariants.{Illegal, Privileged, Odd, Outside, GateStore, FrameStore, GateFetch, Vector, BadInstr, Trap, NoTrap, BadDesc, Info, Mismatch, NoRecord, FramesFull, StackOutside, StackCrossed, StackFull, Unmatched}
use Rattle.mix_bits.specs.declared.isa.Isa.{Isa}
use Rattle.mix_bits.specs.declared.isa.Isa.TheVariants.{M68, Ppc}
use Rattle.mix_bits.specs.declared.size.Size.TheVariants.{Four}
use Rattle.call_trace.specs.declared.end.End.{End}
use Rattle.call_trace.specs.declared.end.End.TheVariants.{Fault}
use Rattle.call_trace.specs.Names.{fault_name, set_name}
use Rattle.trace_lines.specs.EventLines.{IsFault}
use Rattle.trace_lines.specs.inner.Pieces.{first_space, hex_front, marked_value, set_front}
use Rattle.trace_lines.specs.inner.Reading.{all_kinds, details_of, fault_of, kind_in, place_of}
use Rattle.trace_lines.proofs.AskLines.{same-text}
use Rattle.trace_lines.proofs.CallLines.{set-read}
use Rattle.trace_lines.proofs.Digits.{hex-read, hex-written}
use Rattle.trace_lines.proofs.Sized.{value-read, value-written}
use Rattle.trace_lines.proofs.Spaces.{space-read}

-- names of faults
kind-by : (kinds : List FaultKind) (k kind : FaultKind) (name : List ℕ) (t : Bool) → bytes_eq name (fault_name k) ≡ t → (if t then Some k else kind_in kinds name) ≡ Some kind
    → (kind_in kinds name ≡ Some kind → name ≡ fault_name kind) → name ≡ fault_name kind
kind-by kinds k kind name true q is more = same-text name (fault_name k) q ∙ ap fault_name (let h : Some k ≡ Some kind = is in let e : k ≡ kind = cc in e)
kind-by kinds k kind name false q is more = more is

kind-read : (kinds : List FaultKind) (kind : FaultKind) (name : List ℕ) → kind_in kinds name ≡ Some kind → name ≡ fault_name kind
kind-read [] kind name is = absurd (let no : None ≡ Some kind = is in cc)
kind-read (k ∷ kinds) kind name is = kind-by kinds k kind name (bytes_eq name (fault_name k)) refl is (kind-read kinds kind name)

kind-written : (kind : FaultKind) → kind_in all_kinds (fault_name kind) ≡ Some kind
kind-written Illegal = refl
kind-written Privileged = refl
kind-written Odd = refl
kind-written Outside = refl
kind-written GateStore = refl
kind-written FrameStore = refl
kind-written GateFetch = refl
kind-written Vector = refl
kind-written BadInstr = refl
kind-written Trap = refl
kind-written NoTrap = refl
kind-written BadDesc = refl
kind-written Info = refl
kind-written Mismatch = refl
kind-written NoRecord = refl
kind-written FramesFull = refl
kind-written StackOutside = refl
kind-written StackCrossed = refl
kind-written StackFull = refl
kind-written Unmatched = refl

kind-space : (kind : FaultKind) (rest : List ℕ) → first_space (fault_name kind ++ (32 ∷ rest)) ≡ Some (length (fault_name kind))
kind-space Illegal rest = refl
kind-space Privileged rest = refl
kind-space Odd rest = refl
kind-space Outside rest = refl
kind-space GateStore rest = refl
kind-space FrameStore rest = refl
kind-space GateFetch rest = refl
kind-space Vector rest = refl
kind-space BadInstr rest = refl
kind-space Trap rest = refl
kind-space NoTrap rest = refl
kind-space BadDesc rest = refl
kind-space Info rest = refl
kind-space Mismatch rest = refl
kind-space NoRecord rest = refl
kind-space FramesFull rest = refl
kind-space StackOutside rest = refl
kind-space StackCrossed rest = refl
kind-space StackFull rest = refl
kind-space Unmatched rest = refl

-- a fault behind its name
abbrev pub place_text : Isa → ℕ → ℕ → ℕ → List ℕ
place_text set pc detail also =
    set_name set ++ (codes " " ++ (hexadecimal 8 pc ++ ((codes " " ++ hexadecimal 8 detail) ++ (codes " " ++ hexadecimal 8 also))))

abbrev pub fault_with : FaultKind → ℕ → ℕ → ℕ → AFault
fault_with kind pc detail also = record { kind = kind; pc = pc; detail = detail; also = also }

pub record IsPlaced (kind : FaultKind) (end : End) (text : List ℕ) : Type 0 where
  pub set : Isa
  pub pc : ℕ
  pub detail : ℕ
  pub also : ℕ
  pub end_is : end ≡ Fault set (fault_with kind pc detail also)
  pub fault : IsFault (fault_with kind pc detail also)
  pub text_is : text ≡ place_text set pc detail also

small-of : (v : ℕ) → v % 4294967296 ≡ v → v < 2 ^ 32
small-of v same = omega arith

placed-is : (kind : FaultKind) (set : Isa) (pc detail also : ℕ) (text : List ℕ) → length text ≡ 30 → set_front text ≡ Some set → hex_front 8 (drop 4 text) ≡ Some pc
    → marked_value (codes " ") Four (drop 12 text) ≡ Some detail → marked_value (codes " ") Four (drop 9 (drop 12 text)) ≡ Some also
    → IsPlaced kind (Fault set (fault_with kind pc detail also)) text
placed-is kind set pc detail also text long p q r s =
    let first = set-read set text p in
    let second = hex-read 8 pc (drop 4 text) q in
    let third = value-read (codes " ") Four detail (drop 12 text) r in
    let fourth = value-read (codes " ") Four also (drop 9 (drop 12 text)) s in
    let twelve : drop 8 (drop 4 text) ≡ drop 12 text = drop-drop 8 4 text in
    let few : length text ≤ 30 = omega (arith, long) in
    let nothing : drop 9 (drop 9 (drop 12 text)) ≡ [] =
    drop-drop 9 9 (drop 12 text) ∙ drop-drop 18 12 text ∙ drop_of_length-le text few in
    record {
      set = set;
      pc = pc;
      detail = detail;
      also = also;
      end_is = refl;
      fault = record { pc = second.small; detail = small-of detail third.sized; also = small-of also fourth.sized };
      text_is = first.text_is ∙ ap (λ t. set_name set ++ (codes " " ++ t))
          (second.text_is ∙ ap (λ t. hexadecimal 8 pc ++ t)
          (twelve ∙ third.text_is ∙ ap (λ t. (codes " " ++ hexadecimal 8 detail) ++ t)
          (fourth.text_is ∙ ap (λ t. (codes " " ++ hexadecimal 8 also) ++ t) nothing ∙ append-nil (codes " " ++ hexadecimal 8 also))));
    }

details-by : (kind : FaultKind) (set : Isa) (pc : ℕ) (text : List ℕ) (end : End) (third fourth : Option ℕ) → length text ≡ 30 → set_front text ≡ Some set → hex_front 8 (drop 4 text) ≡ Some pc
    → marked_value (codes " ") Four (drop 12 text) ≡ third → marked_value (codes " ") Four (drop 9 (drop 12 text)) ≡ fourth
    → option_and_then (λ detail. option_map (λ also. Fault set (fault_with kind pc detail also)) fourth) third ≡ Some end → IsPlaced kind end text
details-by kind set pc text end None fourth long p q r s is = absurd (let no : None ≡ Some end = is in cc)
details-by kind set pc text end (Some detail) None long p q r s is = absurd (let no : None ≡ Some end = is in cc)
details-by kind set pc text end (Some detail) (Some also) long p q r s is =
    let same : Fault set (fault_with kind pc detail also) ≡ end = (let h : Some (Fault set (fault_with kind pc detail also)) ≡ Some end = is in cc) in
    subst (λ e. IsPlaced kind e text) same (placed-is kind set pc detail also text long p q r s)

place-by : (kind : FaultKind) (text : List ℕ) (end : End) (t : Bool) (first : Option Isa) (second : Option ℕ) → (length text == 30) ≡ t → set_front text ≡ first → hex_front 8 (drop 4 text) ≡ second
    → (if t then (option_and_then (λ set. option_and_then (λ pc. details_of kind set pc (drop 12 text)) second) first) else None) ≡ Some end → IsPlaced kind end text
place-by kind text end false first second long p q is = absurd (let no : None ≡ Some end = is in cc)
place-by kind text end true None second long p q is = absurd (let no : None ≡ Some end = is in cc)
place-by kind text end true (Some set) None long p q is = absurd (let no : None ≡ Some end = is in cc)
place-by kind text end true (Some set) (Some pc) long p q is =
    details-by kind set pc text end (marked_value (codes " ") Four (drop 12 text)) (marked_value (codes " ") Four (drop 9 (drop 12 text))) (eqb-true (length text) 30 long) p q refl refl is

place-read : (kind : FaultKind) (text : List ℕ) (end : End) → place_of kind text ≡ Some end → IsPlaced kind end text
unfolding place_of
place-read kind text end is = place-by kind text end (length text == 30) (set_front text) (hex_front 8 (drop 4 text)) refl refl refl is

pub record IsFaulty (end : End) (text : List ℕ) : Type 0 where
  pub kind : FaultKind
  pub rest : List ℕ
  pub placed : IsPlaced kind end rest
  pub text_is : text ≡ fault_name kind ++ (32 ∷ rest)

kinds-by : (text : List ℕ) (end : End) (k : ℕ) (o : Option FaultKind) → first_space text ≡ Some k → kind_in all_kinds (take k text) ≡ o
    → option_and_then (λ kind. place_of kind (drop (k + 1) text)) o ≡ Some end → IsFaulty end text
kinds-by text end k None p q is = absurd (let no : None ≡ Some end = is in cc)
kinds-by text end k (Some kind) p q is =
    let split = (space-read text 0 k p).split in
    let none : k - 0 ≡ k = omega arith in
    let next : suc k ≡ k + 1 = omega arith in
    let here : text ≡ take k text ++ (32 ∷ drop (k + 1) text) =
    subst (λ n. text ≡ take k text ++ (32 ∷ drop n text)) next (subst (λ n. text ≡ take n text ++ (32 ∷ drop (suc n) text)) none split) in
    record {
      kind = kind;
      rest = drop (k + 1) text;
      placed = place-read kind (drop (k + 1) text) end is;
      text_is = here ∙ ap (λ t. t ++ (32 ∷ drop (k + 1) text)) (kind-read all_kinds kind (take k text) q);
    }

fault-by : (text : List ℕ) (end : End) (first : Option ℕ) → first_space text ≡ first
    → option_and_then (λ k. option_and_then (λ kind. place_of kind (drop (k + 1) text)) (kind_in all_kinds (take k text))) first ≡ Some end → IsFaulty end text
fault-by text end None p is = absurd (let no : None ≡ Some end = is in cc)
fault-by text end (Some k) p is = kinds-by text end k (kind_in all_kinds (take k text)) p refl is

pub fault-read : (text : List ℕ) (end : End) → fault_of text ≡ Some end → IsFaulty end text
unfolding fault_of
fault-read text end is = fault-by text end (first_space text) refl is

details-written : (kind : FaultKind) (set : Isa) (pc detail also : ℕ) → detail < 2 ^ 32 → also < 2 ^ 32
    → details_of kind set pc ((codes " " ++ hexadecimal 8 detail) ++ (codes " " ++ hexadecimal 8 also)) ≡ Some (Fault set (fault_with kind pc detail also))
details-written kind set pc detail also second third =
    let told : marked_value (codes " ") Four ((codes " " ++ hexadecimal 8 detail) ++ (codes " " ++ hexadecimal 8 also)) ≡ Some detail =
    value-written (codes " ") Four detail (codes " " ++ hexadecimal 8 also) (let h : detail % 4294967296 ≡ detail = omega arith in h) in
    let last : marked_value (codes " ") Four ((codes " " ++ hexadecimal 8 also) ++ []) ≡ Some also =
    value-written (codes " ") Four also [] (let h : also % 4294967296 ≡ also = omega arith in h) in
    ap (option_and_then (λ detail. option_map (λ also. Fault set (fault_with kind pc detail also)) (marked_value (codes " ") Four (codes " " ++ hexadecimal 8 also)))) told
    ∙ ap (option_map (λ also. Fault set (fault_with kind pc detail also))) last

place-written : (kind : FaultKind) (set : Isa) (pc detail also : ℕ) → IsFault (fault_with kind pc detail also)
    → place_of kind (place_text set pc detail also) ≡ Some (Fault set (fault_with kind pc detail also))
unfolding place_of
place-written kind M68 pc detail also is =
    ap (option_and_then (λ pc. details_of kind M68 pc ((codes " " ++ hexadecimal 8 detail) ++ (codes " " ++ hexadecimal 8 also))))
    (hex-written 8 pc ((codes " " ++ hexadecimal 8 detail) ++ (codes " " ++ hexadecimal 8 also)) is.pc)
    ∙ details-written kind M68 pc detail also is.detail is.also
place-written kind Ppc pc detail also is =
    ap (option_and_then (λ pc. details_of kind Ppc pc ((codes " " ++ hexadecimal 8 detail) ++ (codes " " ++ hexadecimal 8 also))))
    (hex-written 8 pc ((codes " " ++ hexadecimal 8 detail) ++ (codes " " ++ hexadecimal 8 also)) is.pc)
    ∙ details-written kind Ppc pc detail also is.detail is.also

-- a fault behind `fault `
abbrev pub fault_text : Isa → AFault → List ℕ
fault_text set f = fault_name f.kind ++ (32 ∷ place_text set f.pc f.detail f.also)

pub fault-written : (set : Isa) (f : AFault) → IsFault f → fault_of (fault_text set f) ≡ Some (Fault set f)
unfolding fault_of
fault-written set f is =
    let name = fault_name f.kind in
    let rest = place_text set f.pc f.detail f.also in
    let front : take (length name) (fault_text set f) ≡ name = take-append_seam name (32 ∷ rest) in
    let behind : drop (length name + 1) (fault_text set f) ≡ rest = drop-append-add name (32 ∷ rest) 1 in
    ap (option_and_then (λ k. option_and_then (λ kind. place_of kind (drop (k + 1) (fault_text set f))) (kind_in all_kinds (take k (fault_text set f))))) (kind-space f.kind rest)
    ∙ ap (λ t. option_and_then (λ kind. place_of kind (drop (length name + 1) (fault_text set f))) (kind_in all_kinds t)) front
    ∙ ap (option_and_then (λ kind. place_of kind (drop (length name + 1) (fault_text set f)))) (kind-written f.kind)
    ∙ ap (place_of f.kind) behind
    ∙ place-written f.kind set f.pc f.detail f.also is
