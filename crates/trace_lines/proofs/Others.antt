-- Returns: they are read where they were written, and nothing else is.
use Rattle.std.proofs.Common.{◌≡◌, ℕ, ◌==◌, List, [], ◌++◌, length, drop, Bool, true, false, Option, Some, None, if◌then◌else◌, refl, ap, sym, ◌∙◌}
use Rattle.std.specs.Prelude.{codes}
use Rattle.std.specs.Option.{option_and_then, option_map}
use Rattle.std.proofs.lemmas.Bool.{eqb-true}
use Rattle.std.proofs.Math.Seq.{drop-length}
use Rattle.std.proofs.lemmas.List.{append-nil}
use Rattle.mix_bits.specs.declared.size.Size.{Size}
use Rattle.mix_bits.specs.declared.size.Size.TheVariants.{Zero, One, Two, Four}
use Rattle.mix_bits.specs.Sizes.{truncated}
use Rattle.call_trace.specs.Lines.{marked}
use Rattle.trace_lines.specs.inner.Pieces.{marked_value, marked_width}
use Rattle.trace_lines.specs.inner.Reading.{return_of, size_by}
use Rattle.trace_lines.specs.declared.event.Event.{Event}
use Rattle.trace_lines.specs.declared.event.Event.TheVariants.{Returned}
use Rattle.trace_lines.proofs.Sized.{value-read, value-written}

size-by : (n : ℕ) (size : Size) (a b c d : Bool) → (n == 0) ≡ a → (n == 3) ≡ b → (n == 5) ≡ c → (n == 9) ≡ d
    → (if a then Some Zero else (if b then Some One else (if c then Some Two else (if d then Some Four else None)))) ≡ Some size → n ≡ marked_width (codes " ") size
size-by n size true b c d p q r s is = eqb-true n 0 p ∙ ap (marked_width (codes " ")) (let h : Some Zero ≡ Some size = is in let e : Zero ≡ size = cc in e)
size-by n size false true c d p q r s is = eqb-true n 3 q ∙ ap (marked_width (codes " ")) (let h : Some One ≡ Some size = is in let e : One ≡ size = cc in e)
size-by n size false false true d p q r s is = eqb-true n 5 r ∙ ap (marked_width (codes " ")) (let h : Some Two ≡ Some size = is in let e : Two ≡ size = cc in e)
size-by n size false false false true p q r s is = eqb-true n 9 s ∙ ap (marked_width (codes " ")) (let h : Some Four ≡ Some size = is in let e : Four ≡ size = cc in e)
size-by n size false false false false p q r s is = absurd (let no : None ≡ Some size = is in cc)

pub size-read : (n : ℕ) (size : Size) → size_by n ≡ Some size → n ≡ marked_width (codes " ") size
size-read n size is = size-by n size (n == 0) (n == 3) (n == 5) (n == 9) refl refl refl refl is

pub record IsReturn (size : Size) (value : ℕ) (text : List ℕ) : Type 0 where
  pub sized : truncated value size ≡ value
  pub text_is : text ≡ marked (codes " ") size value

whole-value : (size : Size) (value : ℕ) (text : List ℕ) → length text ≡ marked_width (codes " ") size → marked_value (codes " ") size text ≡ Some value → IsReturn size value text
whole-value size value text long is =
    let told = value-read (codes " ") size value text is in
    let nothing : drop (marked_width (codes " ") size) text ≡ [] = ap (λ n. drop n text) (sym long) ∙ drop-length text in
    record { sized = told.sized; text_is = told.text_is ∙ ap (λ t. marked (codes " ") size value ++ t) nothing ∙ append-nil _ }

pub record IsReturned (e : Event) (text : List ℕ) : Type 0 where
  pub size : Size
  pub value : ℕ
  pub event : e ≡ Returned size value
  pub told : IsReturn size value text

return-by : (text : List ℕ) (e : Event) (first : Option Size) → size_by (length text) ≡ first
    → ((size : Size) (o : Option ℕ) → first ≡ Some size → marked_value (codes " ") size text ≡ o → option_map (λ value. Returned size value) o ≡ Some e → IsReturned e text)
    → option_and_then (λ size. option_map (λ value. Returned size value) (marked_value (codes " ") size text)) first ≡ Some e → IsReturned e text
return-by text e None p more is = absurd (let no : None ≡ Some e = is in cc)
return-by text e (Some size) p more is = more size (marked_value (codes " ") size text) refl refl is

value-by : (text : List ℕ) (e : Event) (size : Size) (o : Option ℕ) → size_by (length text) ≡ Some size → marked_value (codes " ") size text ≡ o → option_map (λ value. Returned size value) o ≡ Some e → IsReturned e text
value-by text e size None p q is = absurd (let no : None ≡ Some e = is in cc)
value-by text e size (Some value) p q is =
    let same : Returned size value ≡ e = (let h : Some (Returned size value) ≡ Some e = is in cc) in
    record { size = size; value = value; event = sym same; told = whole-value size value text (size-read (length text) size p) q }

pub return-read : (text : List ℕ) (e : Event) → return_of text ≡ Some e → IsReturned e text
return-read text e is =
    return-by text e (size_by (length text)) refl (λ size o p q h. value-by text e size o p q h) is

pub return-written : (size : Size) (value : ℕ) → truncated value size ≡ value → return_of (marked (codes " ") size value) ≡ Some (Returned size value)
return-written Zero value sized = ap (option_map (λ v. Returned Zero v)) (value-written (codes " ") Zero value [] sized)
return-written One value sized = ap (option_map (λ v. Returned One v)) (value-written (codes " ") One value [] sized)
return-written Two value sized = ap (option_map (λ v. Returned Two v)) (value-written (codes " ") Two value [] sized)
return-written Four value sized = ap (option_map (λ v. Returned Four v)) (value-written (codes " ") Four value [] sized)
