-- A text is read as an event exactly where it is the line of that event.
use Rattle.std.proofs.Common.{◌≡◌, ℕ, List, ◌∷◌, ◌++◌, Bool, true, false, Option, Some, None, if◌then◌else◌, refl, ap, subst, sym, ◌∙◌, append_assoc}
use Rattle.std.specs.Prelude.{codes, decimal}
use Rattle.std.specs.Option.{option_and_then, option_map}
use Rattle.std.specs.Str.{bytes_eq}
use Rattle.std.proofs.lemmas.List.{append_cancel_right}
use Rattle.mix_bits.specs.Numbers.{decimal_number}
use Rattle.mix_bits.proofs.ReadDecimals.{reads_decimals}
use Rattle.mix_bits.specs.Text.{hexadecimal}
use Rattle.proc_info.specs.Signature.{signature_in}
use Rattle.call_trace.specs.Lines.{answer_text, arguments, ask_line, call_line, end_line, marked, ret_line}
use Rattle.call_trace.specs.Names.{fault_name, set_name, set_names}
use Rattle.call_trace.specs.declared.end.End.{End}
use Rattle.call_trace.specs.declared.end.End.TheVariants.{Exit, Fault, Limit}
use Rattle.trace_lines.specs.EventLines.{IsEnd, IsEvent, args_of, line_of}
use Rattle.trace_lines.specs.Exact.{ReadsExactly}
use Rattle.trace_lines.specs.inner.Pieces.{after_mark}
use Rattle.trace_lines.specs.inner.Reading.{ask_or_end, by_mark, call_of, end_of, event_of, exit_or_fault, fault_of, return_or_other}
use Rattle.trace_lines.specs.declared.event.Crossing.{Crossing}
use Rattle.trace_lines.specs.declared.event.Event.{Event}
use Rattle.trace_lines.specs.declared.event.Event.TheVariants.{Called, Returned, Asked, Ended}
use Rattle.trace_lines.proofs.AskLines.{ask-read, ask-written, ask_text, same-text}
use Rattle.trace_lines.proofs.Crossings.{call-read, call-written, call_text}
use Rattle.trace_lines.proofs.EndLines.{fault-read, fault-written, fault_text}
use Rattle.trace_lines.proofs.Marks.{marked-after}
use Rattle.trace_lines.proofs.Others.{return-read, return-written}

-- the text of an end, and of an event, without its line feed
abbrev pub end_text : End → List ℕ
end_text (Exit code) = codes "exit " ++ decimal code
end_text (Fault set fault) = codes "fault " ++ fault_text set fault
end_text Limit = codes "limit"

abbrev pub event_text : Event → List ℕ
event_text (Called c) = codes "call " ++ call_text c
event_text (Returned size value) = codes "ret" ++ marked (codes " ") size value
event_text (Asked slot word answer) = codes "ask " ++ ask_text slot word answer
event_text (Ended end) = end_text end

call-joins : (c n s t p i m a l : List ℕ) → (((((((c ++ n) ++ s) ++ t) ++ p) ++ i) ++ m) ++ a) ++ l ≡ (c ++ (n ++ (s ++ (t ++ ((p ++ i) ++ (m ++ a)))))) ++ l
call-joins c n s t p i m a l = simp append_assoc

ask-joins : (c n s w p a l : List ℕ) → (((((c ++ n) ++ s) ++ w) ++ p) ++ a) ++ l ≡ (c ++ (n ++ (s ++ (w ++ (p ++ a))))) ++ l
ask-joins c n s w p a l = simp append_assoc

fault-joins : (c n a s b p d q e r l : List ℕ) → (((((((((c ++ n) ++ a) ++ s) ++ b) ++ p) ++ d) ++ q) ++ e) ++ r) ++ l ≡ (c ++ (n ++ (a ++ (s ++ (b ++ (p ++ ((d ++ q) ++ (e ++ r)))))))) ++ l
fault-joins c n a s b p d q e r l = simp append_assoc

line-is : (e : Event) → line_of e ≡ event_text e ++ codes "\n"
unfolding call_line ret_line ask_line end_line
line-is (Called c) =
    call-joins (codes "call ") (set_names c.kind) (codes " ") (hexadecimal 8 c.target) (codes " ") (hexadecimal 8 c.info)
    (marked (codes " #") (signature_in c.info).selector c.selector) (arguments (signature_in c.info).params (args_of c)) (codes "\n")
line-is (Returned size value) = refl
line-is (Asked slot word answer) =
    ask-joins (codes "ask ") (decimal slot) (codes " ") (hexadecimal 8 word) (codes " ") (answer_text answer) (codes "\n")
line-is (Ended (Exit code)) = refl
line-is (Ended (Fault set fault)) =
    fault-joins (codes "fault ") (fault_name fault.kind) (codes " ") (set_name set) (codes " ") (hexadecimal 8 fault.pc)
    (codes " ") (hexadecimal 8 fault.detail) (codes " ") (hexadecimal 8 fault.also) (codes "\n")
line-is (Ended Limit) = refl

end-written : (end : End) → IsEnd end → end_of (end_text end) ≡ Some end
unfolding end_of
end-written (Exit code) is = ap (option_map Exit) ((reads_decimals (decimal code) code).1 (is, refl))
end-written (Fault set fault) is = fault-written set fault is
end-written Limit is = refl

event-written : (e : Event) → IsEvent e → event_of (event_text e) ≡ Some e
unfolding event_of
event-written (Called c) is = ap (option_map Called) (call-written c is)
event-written (Returned size value) is = return-written size value is
event-written (Asked slot word answer) is = ask-written slot word answer is.0 is.1 is.2
event-written (Ended (Exit code)) is = ap (option_map Ended) (end-written (Exit code) is)
event-written (Ended (Fault set fault)) is = ap (option_map Ended) (end-written (Fault set fault) is)
event-written (Ended Limit) is = ap (option_map Ended) (end-written Limit is)

pub record IsOf (e : Event) (text : List ℕ) : Type 0 where
  pub event : IsEvent e
  pub text_is : text ≡ event_text e

pub record IsEndOf (end : End) (text : List ℕ) : Type 0 where
  pub end_is : IsEnd end
  pub text_is : text ≡ end_text end

exit-by : (text code : List ℕ) (end : End) (o : Option ℕ) → text ≡ codes "exit " ++ code → decimal_number code ≡ o → option_map Exit o ≡ Some end → IsEndOf end text
exit-by text code end None p q is = absurd (let no : None ≡ Some end = is in cc)
exit-by text code end (Some n) p q is =
    let same : Exit n ≡ end = (let h : Some (Exit n) ≡ Some end = is in cc) in
    let told = (reads_decimals code n).0 q in
    subst (λ x. IsEndOf x text) same (record { end_is = told.0; text_is = p ∙ ap (λ t. codes "exit " ++ t) (sym told.1) })

fault-by : (text rest : List ℕ) (end : End) → text ≡ codes "fault " ++ rest → fault_of rest ≡ Some end → IsEndOf end text
fault-by text rest end p is =
    let told = fault-read rest end is in
    subst (λ x. IsEndOf x text) (sym told.placed.end_is) (record {
      end_is = told.placed.fault;
      text_is = p ∙ ap (λ t. codes "fault " ++ t) (told.text_is ∙ ap (λ t. fault_name told.kind ++ (32 ∷ t)) told.placed.text_is);
    })

mark-by : (text : List ℕ) (end : End) (first second : Option (List ℕ)) → after_mark (codes "exit ") text ≡ first → after_mark (codes "fault ") text ≡ second
    → exit_or_fault first text ≡ Some end → option_and_then fault_of second ≡ option_and_then fault_of (after_mark (codes "fault ") text) → IsEndOf end text
mark-by text end (Some code) second p q is same = exit-by text code end (decimal_number code) (marked-after (codes "exit ") text code p) refl is
mark-by text end None None p q is same = absurd (let no : None ≡ Some end = same ∙ is in cc)
mark-by text end None (Some rest) p q is same = fault-by text rest end (marked-after (codes "fault ") text rest q) (same ∙ is)

end-by : (text : List ℕ) (end : End) (t : Bool) → bytes_eq text (codes "limit") ≡ t → (if t then Some Limit else exit_or_fault (after_mark (codes "exit ") text) text) ≡ Some end → IsEndOf end text
end-by text end true q is =
    let same : Limit ≡ end = (let h : Some Limit ≡ Some end = is in cc) in
    subst (λ x. IsEndOf x text) same (record { end_is = tt; text_is = same-text text (codes "limit") q })
end-by text end false q is =
    mark-by text end (after_mark (codes "exit ") text) (after_mark (codes "fault ") text) refl refl is refl

end-read : (text : List ℕ) (end : End) → end_of text ≡ Some end → IsEndOf end text
unfolding end_of
end-read text end is = end-by text end (bytes_eq text (codes "limit")) refl is

ended-by : (text : List ℕ) (e : Event) (o : Option End) → end_of text ≡ o → option_map Ended o ≡ Some e → IsOf e text
ended-by text e None p is = absurd (let no : None ≡ Some e = is in cc)
ended-by text e (Some end) p is =
    let same : Ended end ≡ e = (let h : Some (Ended end) ≡ Some e = is in cc) in
    let told = end-read text end p in
    subst (λ x. IsOf x text) same (record { event = told.end_is; text_is = told.text_is })

ask-by : (text : List ℕ) (e : Event) (o : Option (List ℕ)) → after_mark (codes "ask ") text ≡ o → ask_or_end o text ≡ Some e → IsOf e text
ask-by text e (Some ask) p is =
    let told = ask-read ask e is in
    let ok = told.told in
    subst (λ x. IsOf x text) (sym told.event) (record {
      event = (ok.slot_small, ok.word_small, ok.answered);
      text_is = marked-after (codes "ask ") text ask p ∙ ap (λ t. codes "ask " ++ t) ok.text_is;
    })
ask-by text e None p is = ended-by text e (end_of text) refl is

return-by : (text : List ℕ) (e : Event) (o : Option (List ℕ)) → after_mark (codes "ret") text ≡ o → return_or_other o text ≡ Some e → IsOf e text
return-by text e (Some result) p is =
    let told = return-read result e is in
    subst (λ x. IsOf x text) (sym told.event) (record {
      event = told.told.sized;
      text_is = marked-after (codes "ret") text result p ∙ ap (λ t. codes "ret" ++ t) told.told.text_is;
    })
return-by text e None p is = ask-by text e (after_mark (codes "ask ") text) refl is

called-by : (text call : List ℕ) (e : Event) (o : Option Crossing) → text ≡ codes "call " ++ call → call_of call ≡ o → option_map Called o ≡ Some e → IsOf e text
called-by text call e None p q is = absurd (let no : None ≡ Some e = is in cc)
called-by text call e (Some c) p q is =
    let same : Called c ≡ e = (let h : Some (Called c) ≡ Some e = is in cc) in
    let told = call-read call c q in
    subst (λ x. IsOf x text) same (record { event = told.crossing; text_is = p ∙ ap (λ t. codes "call " ++ t) told.text_is })

event-by : (text : List ℕ) (e : Event) (o : Option (List ℕ)) → after_mark (codes "call ") text ≡ o → by_mark o text ≡ Some e → IsOf e text
event-by text e (Some call) p is = called-by text call e (call_of call) (marked-after (codes "call ") text call p) refl is
event-by text e None p is = return-by text e (after_mark (codes "ret") text) refl is

event-read : (text : List ℕ) (e : Event) → event_of text ≡ Some e → IsOf e text
unfolding event_of
event-read text e is = event-by text e (after_mark (codes "call ") text) refl is

pub reads_exactly : (read : Option Event) (text : List ℕ) → read ≡ event_of text → ReadsExactly read text
reads_exactly read text same e = (
  λ is. let told = event-read text e (sym same ∙ is) in (told.event, line-is e ∙ ap (λ t. t ++ codes "\n") (sym told.text_is)),
  λ given.
      let whole : event_text e ++ codes "\n" ≡ text ++ codes "\n" = sym (line-is e) ∙ given.1 in
      let own : event_text e ≡ text = append_cancel_right (event_text e) text (codes "\n") whole in
      same ∙ ap event_of (sym own) ∙ event-written e given.0,
)
