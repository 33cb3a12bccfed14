-- Asks and ejects of the table against those of a rack.
use Rattle.std.proofs.Common.{◌≡◌, ◌==◌, ℕ, Bool, true, false, not, List, [], ◌∷◌, ◌++◌, length, map, drop, Option, None, Some, is_some, Result, Ok, Err, if◌then◌else◌, slice_set, get_or, refl, sym, ap, subst, ◌∙◌, arith}
use Rattle.std.specs.Result.{result_ok}
use Rattle.std.proofs.Math.ListN.{get_or-map}
use Rattle.std.proofs.Math.Seq.{drop-append_seam, map-set_same}
use Rattle.std.proofs.lemmas.List.{map-set, set-get_or}
use Rattle.std.proofs.lemmas.Bool.{ne_eqb, eq-eqb}
use Rattle.mix_io.specs.Streams.{Output}
use Rattle.mix_io.specs.declared.errors.Failed.{Failed as DeviceFailed}
use Rattle.big_memory.specs.Memory.{Memory}
use Rattle.host_heap.specs.Space.{Space}
use Rattle.dev_rack.specs.declared.answers.Answer.{Answer}
use Rattle.dev_rack.specs.declared.answers.Answer.TheVariants.{Word, Failed, Empty, Full}
use Rattle.dev_rack.specs.declared.answers.Asked.{Asked}
use Rattle.dev_rack.specs.Slots.{device_at}
use Rattle.dev_rack.specs.Rack.{State, journal_limit}
use Rattle.dev_rack.specs.RackClauses.{Answered, Asks, Ejects}
use Rattle.toolbox.specs.declared.values.Operands.{Operands}
use Rattle.toolbox.specs.declared.values.Results.{Results}
use Rattle.toolbox.specs.declared.function.Function.{Function}
use Rattle.toolbox.specs.declared.function.Function.TheVariants.{AskDevice, EjectDevice}
use Rattle.toolbox.specs.declared.outcome.Outcome.TheVariants.{Given, Asked as AskedFor}
use Rattle.toolbox.specs.Effects.{Around, quiet, results, results_of, answer_in, after_ask, first_answer, noted, holds_device, no_slot}
use Rattle.toolbox.specs.inner.Parts.{emptied, around_of}
use Rattle.toolbox.specs.Effects.Effect.{Gives}
use Rattle.toolbox.specs.Calls.{Input, answers_since}
use Rattle.toolbox.specs.CallsClauses.{place, ask_of}
use Rattle.toolbox.specs.inner.Calls.{with_rack}
use Rattle.toolbox.specs.Calls.Taken.{Nothing}
use Rattle.toolbox.specs.inner.Performs.{AreLaws, Performs}
use Rattle.toolbox.specs.Performs.{resources}
use Rattle.toolbox.proofs.Carried.{since-none, told-nothing, grows-none}

holds : (rack : State) (slot : ℕ) (input : List ℕ) (answers : List (Option ℕ)) → holds_device (around_of rack input answers) slot ≡ is_some (device_at rack.slots slot)
holds rack slot input answers = get_or-map is_some rack.slots slot None

-- a device that was asked gave the next of the answers
since-one : (old new : State) (entry : Asked) (rest : List (Option ℕ)) → new.journal ≡ old.journal ++ entry ∷ [] → answers_since old new ++ rest ≡ entry.answer ∷ rest
since-one old new entry rest noted =
    ap (λ journal. map (λ e. e.answer) (drop (length old.journal) journal) ++ rest) noted
    ∙ ap (λ entries. map (λ e. e.answer) entries ++ rest) (drop-append_seam old.journal (entry ∷ []))

slots-stay : (old new : State) (slot word : ℕ) (result : Result ℕ DeviceFailed) → Answered old slot word result new → map is_some new.slots ≡ map is_some old.slots
slots-stay old new slot word result h =
    ap (map is_some) h.heard.written ∙ map-set_same is_some old.slots slot (Some h.heard.after) None (sym (ap is_some h.heard.held))

-- the tests of an ask, computed
asked-at : (held full : Bool) → held ≡ true → full ≡ false → (first : Answer) →
    (if not held then Empty else (if full then Full else first)) ≡ first
asked-at true false a b first = refl
asked-at true true a b first = cc
asked-at false full a b first = cc

no-device : (held : Bool) (other : Answer) → held ≡ false → (if not held then Empty else other) ≡ Empty
no-device false other none = refl
no-device true other none = cc

full-at : (held full : Bool) (first : Answer) → held ≡ true → full ≡ true → (if not held then Empty else (if full then Full else first)) ≡ Full
full-at true true first a b = refl
full-at true false first a b = cc
full-at false full first a b = cc

same_around : (input : List ℕ) (slots others : List Bool) (journal entries : List Asked) (answers rest : List (Option ℕ)) →
    slots ≡ others → journal ≡ entries → answers ≡ rest →
    (let a : Around = record { input = input; slots = slots; asks = journal; answers = answers } in
    let b : Around = record { input = input; slots = others; asks = entries; answers = rest } in a ≡ b)
same_around input slots others journal entries answers rest p q r = rw (p, q, r) refl

-- what the table answers and leaves where the rack answered so
record Fits (old new : State) (slot word : ℕ) (answer : Answer) (input : List ℕ) (rest : List (Option ℕ)) : Type 0 where
  gives : answer_in (around_of old input (answers_since old new ++ rest)) slot ≡ answer
  leaves : after_ask (around_of old input (answers_since old new ++ rest)) slot word answer ≡ around_of new input rest

-- an ask that reached a device
asked-fits : (old new : State) (slot word : ℕ) (result : Result ℕ DeviceFailed) (answer : Answer) (input : List ℕ) (rest : List (Option ℕ)) →
    Answered old slot word result new → first_answer (result_ok result ∷ rest) ≡ answer →
    ((around : Around) → after_ask around slot word answer ≡ noted around slot word (result_ok result)) →
    Fits old new slot word answer input rest
asked-fits old new slot word result answer input rest h first after =
    let since : answers_since old new ++ rest ≡ result_ok result ∷ rest = since-one old new (record { slot = slot; word = word; answer = result_ok result }) rest h.noted in
    record {
      gives =
          asked-at (holds_device (around_of old input (answers_since old new ++ rest)) slot) (length old.journal == journal_limit)
          (holds old slot input (answers_since old new ++ rest) ∙ ap is_some h.heard.held) (ne_eqb (length old.journal) journal_limit (omega (arith, h.room)))
          (first_answer (answers_since old new ++ rest))
          ∙ ap first_answer since ∙ first;
      leaves =
          after (around_of old input (answers_since old new ++ rest))
          ∙ same_around input (map is_some old.slots) (map is_some new.slots) (old.journal ++ (record { slot = slot; word = word; answer = result_ok result }) ∷ []) new.journal
          (drop 1 (answers_since old new ++ rest)) rest
          (sym (slots-stay old new slot word result h)) (sym h.noted) (ap (drop 1) since);
    }

-- an ask that changed nothing
refused-leaves : (old new : State) (input : List ℕ) (rest : List (Option ℕ)) → new ≡ old → around_of old input (answers_since old new ++ rest) ≡ around_of new input rest
refused-leaves old new input rest same = rw (same, since-none old) refl

fits : (old new : State) (slot word : ℕ) (answer : Answer) (input : List ℕ) (rest : List (Option ℕ)) → Asks old slot word answer new → Fits old new slot word answer input rest
fits old new slot word (Word n) input rest h = asked-fits old new slot word (Ok n) (Word n) input rest h refl (λ around. refl)
fits old new slot word Failed input rest h = asked-fits old new slot word (Err (record {})) Failed input rest h refl (λ around. refl)
fits old new slot word Empty input rest h = record {
  gives = no-device _ _ (holds old slot input (answers_since old new ++ rest) ∙ ap is_some h.0);
  leaves = refused-leaves old new input rest h.1;
}
fits old new slot word Full input rest h = record {
  gives = full-at _ _ _ (holds old slot input (answers_since old new ++ rest) ∙ h.0) (eq-eqb (length old.journal) journal_limit h.1);
  leaves = refused-leaves old new input rest h.2;
}

-- an ask
pub asked : AreLaws → (o : Operands) (m : Memory) (h : Space) (input : Input) (out : Output) (old new : State) (answer : Answer) →
    Asks old o.first o.second answer new →
    Performs AskDevice o (AskedFor o.first o.second answer) (place m h (with_rack input old out)) (place m h (with_rack input new out))
asked laws o m h input out old new answer is = record {
  effects = record quiet { asked = Some (ask_of o.first o.second answer) };
  taken = Nothing;
  does = λ before after rest took.
      let fit : Fits old new o.first o.second answer after rest = fits old new o.first o.second answer after rest is in
      rw took (rw (fit.gives) (ap (λ around. Gives (resources m h around) (results_of answer) (record quiet { asked = Some (ask_of o.first o.second answer) })) fit.leaves));
  ask = refl;
  told = told-nothing input.left;
  calm = refl;
  put = grows-none out;
  devices = laws.asks old new o.first o.second answer is;
  bounds = record { low = refl; high = refl };
  free = laws.nothing m;
}

-- what an eject leaves of the slots
ejected-slots : (old new : State) (slot : ℕ) (held : Bool) → Ejects old slot held new → slice_set (map is_some old.slots) slot false ≡ map is_some new.slots
ejected-slots old new slot true h = sym (ap (λ s. map is_some s.slots) h.1 ∙ map-set is_some old.slots slot None)
ejected-slots old new slot false h =
    let none : get_or (map is_some old.slots) slot false ≡ false = get_or-map is_some old.slots slot None ∙ ap is_some h.0 in
    ap (λ held. slice_set (map is_some old.slots) slot held) (sym none) ∙ set-get_or (map is_some old.slots) slot false ∙ sym (ap (λ s. map is_some s.slots) h.1)

ejected-journal : (old new : State) (slot : ℕ) (held : Bool) → Ejects old slot held new → new.journal ≡ old.journal
ejected-journal old new slot true h = ap (λ s. s.journal) h.1
ejected-journal old new slot false h = ap (λ s. s.journal) h.1

ejected-held : (old new : State) (slot : ℕ) (held : Bool) → Ejects old slot held new → is_some (device_at old.slots slot) ≡ held
ejected-held old new slot true h = h.0
ejected-held old new slot false h = ap is_some h.0

-- an eject
pub ejected : AreLaws → (o : Operands) (x : Results) (m : Memory) (h : Space) (input : Input) (out : Output) (old new : State) (held : Bool) →
    x ≡ results (if held then 0 else no_slot) 0 → Ejects old o.first held new →
    Performs EjectDevice o (Given x) (place m h (with_rack input old out)) (place m h (with_rack input new out))
ejected laws o x m h input out old new held none is = record {
  effects = quiet;
  taken = Nothing;
  does = λ before after rest took.
      let journal : new.journal ≡ old.journal = ejected-journal old new o.first held is in
      let found : holds_device (around_of old after (answers_since old new ++ rest)) o.first ≡ held = holds old o.first after (answers_since old new ++ rest) ∙ ejected-held old new o.first held is in
      let left : emptied (around_of old after (answers_since old new ++ rest)) o.first ≡ around_of new after rest =
      same_around after (slice_set (map is_some old.slots) o.first false) (map is_some new.slots) old.journal new.journal (answers_since old new ++ rest) rest
      (ejected-slots old new o.first held is) (sym journal)
      (ap (λ entries. map (λ (e : Asked). e.answer) (drop (length old.journal) entries) ++ rest) journal ∙ ap (λ answers. answers ++ rest) (since-none old)) in
      rw (took, found) (ap (λ around. Gives (resources m h around) (results (if held then 0 else no_slot) 0) quiet) left ∙ ap (λ y. Gives (resources m h (around_of new after rest)) y quiet) (sym none));
  ask = refl;
  told = told-nothing input.left;
  calm = refl;
  put = grows-none out;
  devices = laws.ejects old new o.first held is;
  bounds = record { low = refl; high = refl };
  free = laws.nothing m;
}

pub ejected_as : AreLaws → (f : Function) → f ≡ EjectDevice → (o : Operands) (x : Results) (m : Memory) (h : Space) (input : Input) (out : Output) (old new : State) (held : Bool) →
    x ≡ results (if held then 0 else no_slot) 0 → Ejects old o.first held new →
    Performs f o (Given x) (place m h (with_rack input old out)) (place m h (with_rack input new out))
ejected_as laws f same o x m h input out old new held none is =
    subst (λ a. Performs a o (Given x) (place m h (with_rack input old out)) (place m h (with_rack input new out))) (sym same) (ejected laws o x m h input out old new held none is)
