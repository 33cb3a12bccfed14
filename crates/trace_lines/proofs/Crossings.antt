-- A call: it is read where it was written, and nothing else is.
use Rattle.std.proofs.Common.{◌≡◌, ℕ, ◌-◌, true, List, ◌++◌, length, take, drop, replicate, Option, Some, None, Result, Ok, Err, refl, ap, subst, sym, ◌∙◌}
use Rattle.std.specs.Prelude.{codes, is_ok}
use Rattle.std.specs.Option.{option_and_then, option_map}
use Rattle.std.proofs.Math.Seq.{take-append_seam}
use Rattle.mix_bits.specs.Sizes.{truncated}
use Rattle.proc_info.specs.Cut.{cut}
use Rattle.std.specs.Result.{result_unwrap_or}
use Rattle.proc_info.specs.Signature.{Signature, no_parameters, signature_in, signature_of}
use Rattle.proc_info.specs.declared.bad_info.BadInfo.{BadInfo}
use Rattle.call_trace.specs.Lines.{arguments, marked}
use Rattle.trace_lines.specs.EventLines.{IsCrossing, args_of}
use Rattle.trace_lines.specs.inner.Pieces.{marked_value, marked_width}
use Rattle.trace_lines.specs.inner.Reading.{args_in, call_of, crossing_of, head_of, rest_by, values_of}
use Rattle.trace_lines.specs.declared.calls.Head.{Head}
use Rattle.trace_lines.specs.declared.event.Crossing.{Crossing}
use Rattle.trace_lines.proofs.Arguments.{AreSized, args-read, args-written}
use Rattle.trace_lines.proofs.CallLines.{IsHead, behind-front, front_text, head-read, head-written, head_with}
use Rattle.trace_lines.proofs.Sized.{behind-value, value-read, value-written}

-- the text of a call's values by a signature, and of a call by its own
abbrev pub values_text : Signature → ℕ → List ℕ → List ℕ
values_text s selector args = marked (codes " #") s.selector selector ++ arguments s.params args

abbrev pub head_in : Crossing → Head
head_in c = head_with c.kind c.target c.info

abbrev pub call_text : Crossing → List ℕ
call_text c = front_text (head_in c) (values_text (signature_in c.info) c.selector (args_of c))

-- what is read of a text
pub record IsCall (c : Crossing) (text : List ℕ) : Type 0 where
  pub crossing : IsCrossing c
  pub text_is : text ≡ call_text c

-- a call of a front, by the signature of its word
made-is : (head : Head) (s : Signature) (v : ℕ) (vs text : List ℕ) → signature_of head.info ≡ Ok s → IsHead head text
    → truncated v s.selector ≡ v → AreSized s.params vs → drop 25 text ≡ values_text s v vs → IsCall (crossing_of head v vs) text
made-is head s v vs text signed front sized args rest =
    let own : signature_in head.info ≡ s = ap (λ r. result_unwrap_or r no_parameters) signed in
    let held : take (length vs) (vs ++ replicate (13 - length vs) 0) ≡ vs = take-append_seam vs (replicate (13 - length vs) 0) in
    let written : values_text s v vs ≡ values_text (signature_in head.info) v (args_of (crossing_of head v vs)) =
    ap (λ t. values_text t v vs) (sym own) ∙ ap (values_text (signature_in head.info) v) (sym held) in
    record {
      crossing = record {
        target = front.target;
        info = front.info;
        signed = ap is_ok signed;
        selector = ap (λ t. truncated v t.selector) own ∙ sized;
        count = args.count ∙ ap (λ t. length t.params) (sym own);
        held = ap length held;
        sized = ap (λ t. cut t.params (args_of (crossing_of head v vs))) own ∙ ap (cut s.params) held ∙ args.cut_same ∙ sym held;
        rest = ap (λ xs. xs ++ replicate (13 - length vs) 0) (sym held);
      };
      text_is = front.text_is ∙ ap (front_text head) (rest ∙ written);
    }

values-by : (head : Head) (s : Signature) (text : List ℕ) (c : Crossing) (first : Option ℕ) (second : Option (List ℕ)) → signature_of head.info ≡ Ok s → IsHead head text
    → marked_value (codes " #") s.selector (drop 25 text) ≡ first → args_in s.params (drop (marked_width (codes " #") s.selector) (drop 25 text)) ≡ second
    → option_and_then (λ selector. option_map (crossing_of head selector) second) first ≡ Some c → IsCall c text
values-by head s text c None second signed front p q is = absurd (let no : None ≡ Some c = is in cc)
values-by head s text c (Some v) None signed front p q is = absurd (let no : None ≡ Some c = is in cc)
values-by head s text c (Some v) (Some vs) signed front p q is =
    let same : crossing_of head v vs ≡ c = (let h : Some (crossing_of head v vs) ≡ Some c = is in cc) in
    let value = value-read (codes " #") s.selector v (drop 25 text) p in
    let told = args-read s.params (drop (marked_width (codes " #") s.selector) (drop 25 text)) vs q in
    let rest : drop 25 text ≡ values_text s v vs = value.text_is ∙ ap (λ t. marked (codes " #") s.selector v ++ t) told.text_is in
    subst (λ x. IsCall x text) same (made-is head s v vs text signed front value.sized told.sized rest)

rest-by : (head : Head) (text : List ℕ) (c : Crossing) (r : Result Signature BadInfo) → signature_of head.info ≡ r → IsHead head text → rest_by head r (drop 25 text) ≡ Some c → IsCall c text
unfolding values_of
rest-by head text c (Err bad) signed front is = absurd (let no : None ≡ Some c = is in cc)
rest-by head text c (Ok s) signed front is =
    values-by head s text c (marked_value (codes " #") s.selector (drop 25 text)) (args_in s.params (drop (marked_width (codes " #") s.selector) (drop 25 text))) signed front refl refl is

call-by : (text : List ℕ) (c : Crossing) (o : Option Head) → head_of text ≡ o → option_and_then (λ head. rest_by head (signature_of head.info) (drop 25 text)) o ≡ Some c → IsCall c text
call-by text c None p is = absurd (let no : None ≡ Some c = is in cc)
call-by text c (Some head) p is = rest-by head text c (signature_of head.info) refl (head-read text head p) is

pub call-read : (text : List ℕ) (c : Crossing) → call_of text ≡ Some c → IsCall c text
unfolding call_of
call-read text c is = call-by text c (head_of text) refl is

signed-is : (r : Result Signature BadInfo) → is_ok r ≡ true → r ≡ Ok (result_unwrap_or r no_parameters)
signed-is (Ok s) ok = refl
signed-is (Err bad) ok = absurd (cc)

-- a call's values as they are written
values-written : (c : Crossing) → IsCrossing c → values_of (head_in c) (signature_in c.info) (values_text (signature_in c.info) c.selector (args_of c)) ≡ Some c
unfolding values_of
values-written c is =
    let s = signature_in c.info in
    let args : AreSized s.params (args_of c) = record { cut_same = is.sized; count = is.held ∙ is.count } in
    ap (option_and_then (λ selector. option_map (crossing_of (head_in c) selector) (args_in s.params (drop (marked_width (codes " #") s.selector) (values_text s c.selector (args_of c))))))
    (value-written (codes " #") s.selector c.selector (arguments s.params (args_of c)) is.selector)
    ∙ ap (λ t. option_map (crossing_of (head_in c) c.selector) (args_in s.params t)) (behind-value (codes " #") s.selector c.selector (arguments s.params (args_of c)))
    ∙ ap (option_map (crossing_of (head_in c) c.selector)) (args-written s.params (args_of c) args)
    ∙ ap (λ n. Some (record (crossing_of (head_in c) c.selector (args_of c)) { count = n; args = args_of c ++ replicate (13 - n) 0 })) is.held
    ∙ ap (λ xs. Some (record c { args = xs })) (sym is.rest)

pub call-written : (c : Crossing) → IsCrossing c → call_of (call_text c) ≡ Some c
unfolding call_of
call-written c is =
    let rest : List ℕ = values_text (signature_in c.info) c.selector (args_of c) in
    ap (option_and_then (λ head. rest_by head (signature_of head.info) (drop 25 (call_text c)))) (head-written c.kind c.target c.info rest is.target is.info)
    ∙ ap (rest_by (head_in c) (signature_of c.info)) (behind-front c.kind c.target c.info rest)
    ∙ ap (λ r. rest_by (head_in c) r rest) (signed-is (signature_of c.info) is.signed)
    ∙ values-written c is
