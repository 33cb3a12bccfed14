-- What the journal accounts for: nothing, one ask, one eject, and what comes one after the other.
use Rattle.std.proofs.Common.{◌≡◌, ◌==◌, if◌then◌else◌, ℕ, zero, suc, ◌<◌, Bool, true, false, List, [], ◌∷◌, ◌++◌, length, map, Option, None, Some, IsSome, is_some, unwrap_or, Result, Ok, Err, slice_set, refl, sym, ap, subst, ◌∙◌, append_assoc, append-nil, arith}
use Rattle.std.specs.Result.{result_ok}
use Rattle.std.proofs.lemmas.Bool.{eqb-false, eqb-true}
use Rattle.std.proofs.lemmas.List.{get_or-set_same, get_or-set_other, length-set, map-append}
use Rattle.std.proofs.lemmas.List.Elements.{filter-append}
use Rattle.mix_io.specs.declared.errors.Failed.{Failed as DeviceFailed}
use Rattle.dev_rack.specs.declared.answers.Asked.{Asked}
use Rattle.dev_rack.specs.declared.answers.Answer.{Answer}
use Rattle.dev_rack.specs.declared.answers.Answer.TheVariants.{Word, Failed, Empty, Full}
use Rattle.dev_rack.specs.Slots.{Seen, device_at}
use Rattle.dev_rack.specs.SlotsClauses.{HeardAt}
use Rattle.dev_rack.specs.Rack.{State}
use Rattle.dev_rack.specs.RackClauses.{Answered, Asks, Ejects}
use Rattle.dev_rack.specs.Accounts.{Accounts, HeardAll, pairs_of}
use Rattle.dev_rack.proofs.Heard.{heard-none, heard-one, heard-join}

pub accounts-none : (s : State) → Accounts s s
accounts-none s = record {
  entries = [];
  noted = sym (append-nil s.journal);
  slots = refl;
  devices = λ slot after h. (after, h, heard-none after);
}

pub pairs_of-append : (slot : ℕ) (xs ys : List Asked) → pairs_of slot (xs ++ ys) ≡ pairs_of slot xs ++ pairs_of slot ys
pairs_of-append slot xs ys = ap (map (λ e. (e.word, e.answer))) (filter-append (λ e. e.slot == slot) xs ys) ∙ map-append (λ e. (e.word, e.answer)) _ _

pub accounts-join : (a b c : State) → Accounts a b → Accounts b c → Accounts a c
accounts-join a b c p q = record {
  entries = p.entries ++ q.entries;
  noted = q.noted ∙ ap (λ l. l ++ q.entries) p.noted ∙ append_assoc a.journal p.entries q.entries;
  slots = q.slots ∙ p.slots;
  devices = λ slot after h.
      let second = q.devices slot after h in
      let first = p.devices slot second.0 second.1 in (
        first.0,
        first.1,
        subst (HeardAll first.0 after) (sym (pairs_of-append slot p.entries q.entries))
            (heard-join first.0 second.0 after (pairs_of slot p.entries) (pairs_of slot q.entries) first.2 second.2),
      );
}

held-inside : (xs : List (Option Seen)) (i : ℕ) → IsSome (device_at xs i) → i < length xs
held-inside [] i h = cc
held-inside (x ∷ xs) zero h = omega arith
held-inside (x ∷ xs) (suc i) h = let inside : i < length xs = held-inside xs i h in omega arith

some-same : {A : Type 0} {a b : A} → Some a ≡ Some b → a ≡ b
some-same {a = a} e = ap (λ o. unwrap_or o a) e

-- one slot was written, with what its device heard of one entry
asked-devices : {E : Type 0} (old new : List (Option Seen)) (slot word : ℕ) (result : Result ℕ E) → HeardAt old new slot word result →
    (at : ℕ) (after : Seen) → device_at new at ≡ Some after →
    (before : Seen) × (device_at old at ≡ Some before) × HeardAll before after (pairs_of at ((record { slot = slot; word = word; answer = result_ok result }) ∷ []))
asked-devices old new slot word result h at after e = by (slot == at) refl
  where
    here : device_at (slice_set old slot (Some h.after)) at ≡ Some after
    here = subst (λ l. device_at l at ≡ Some after) h.written e

    by : (t : Bool) → (slot == at) ≡ t →
        (before : Seen) × (device_at old at ≡ Some before) × HeardAll before after (map (λ (e : Asked). (e.word, e.answer)) (if t then (record { slot = slot; word = word; answer = result_ok result }) ∷ [] else []))
    by true same =
        let place : slot ≡ at = eqb-true slot at same in
        let written : device_at (slice_set old slot (Some h.after)) slot ≡ Some h.after = get_or-set_same old slot (Some h.after) None (held-inside old slot (ap is_some h.held)) in
        let is_after : h.after ≡ after = some-same (sym written ∙ subst (λ i. device_at (slice_set old slot (Some h.after)) i ≡ Some after) (sym place) here) in (
          h.before,
          subst (λ i. device_at old i ≡ Some h.before) place h.held,
          subst (λ d. HeardAll h.before d ((word, result_ok result) ∷ [])) is_after (heard-one h.before h.after word result h.heard),
        )
    by false other =
        (after, sym (get_or-set_other old slot at (Some h.after) None (λ p. eqb-false slot at other (sym p))) ∙ here, heard-none after)

none-some : {A : Type 0} {a : A} → None ≡ Some a → ⊥
none-some e = cc

-- a device that is still there is in another slot than the one that was emptied
left-devices : (old : List (Option Seen)) (slot at : ℕ) (after : Seen) → IsSome (device_at old slot) → device_at (slice_set old slot None) at ≡ Some after → device_at old at ≡ Some after
left-devices old slot at after held e = by (slot == at) refl
  where
    by : (t : Bool) → (slot == at) ≡ t → device_at old at ≡ Some after
    by true same =
        let written : device_at (slice_set old slot None) slot ≡ None = get_or-set_same old slot None None (held-inside old slot held) in
        let none : device_at (slice_set old slot None) at ≡ None = subst (λ i. device_at (slice_set old slot None) i ≡ None) (eqb-true slot at same) written in
        absurd (none-some (sym none ∙ e))
    by false other = sym (get_or-set_other old slot at None None (λ p. eqb-false slot at other (sym p))) ∙ e

accounts-answered : (old new : State) (slot word : ℕ) (result : Result ℕ DeviceFailed) → Answered old slot word result new → Accounts old new
accounts-answered old new slot word result a = record {
  entries = (record { slot = slot; word = word; answer = result_ok result }) ∷ [];
  noted = a.noted;
  slots = ap length a.heard.written ∙ length-set old.slots slot (Some a.heard.after);
  devices = asked-devices old.slots new.slots slot word result a.heard;
}

accounts-same : (old new : State) → new ≡ old → Accounts old new
accounts-same old new e = subst (λ s. Accounts old s) (sym e) (accounts-none old)

pub accounts-ask : (old new : State) (slot word : ℕ) (answer : Answer) → Asks old slot word answer new → Accounts old new
accounts-ask old new slot word (Word n) a = accounts-answered old new slot word (Ok n) a
accounts-ask old new slot word Failed a = accounts-answered old new slot word (Err (record {})) a
accounts-ask old new slot word Empty a = accounts-same old new a.1
accounts-ask old new slot word Full a = accounts-same old new a.2

pub accounts-eject : (old new : State) (slot : ℕ) (held : Bool) → Ejects old slot held new → Accounts old new
accounts-eject old new slot true a = subst (λ s. Accounts old s) (sym a.1) (record {
  entries = [];
  noted = sym (append-nil old.journal);
  slots = length-set old.slots slot None;
  devices = λ at after h. (after, left-devices old.slots slot at after a.0 h, heard-none after);
})
accounts-eject old new slot false a = accounts-same old new a.1
