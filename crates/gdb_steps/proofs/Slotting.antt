-- Slots of devices, asked and given up.
use Rattle.std.proofs.Common.{◌≡◌, ℕ, zero, suc, ◌+◌, ◌<◌, ◌≤◌, ◌-◌, Bool, true, false, List, [], ◌∷◌, ◌++◌, length, map, take, drop, is_some, IsSome, Option, None, Some, option_map, Result, Ok, Err, replicate, slice_set, slice_index_or, get_or, refl, sym, ap, ◌∙◌, subst, length-append, arith}
use Rattle.std.proofs.Math.Seq.{map-set_same, take-add, take-append_seam, take-set-lt, take-suc}
use Rattle.std.proofs.Math.ListN.{get_or-map}
use Rattle.std.proofs.lemmas.List.{length-map, length-set, map-append, map-set, replicate-append-replicate, take_more_set}
use Rattle.mix_io.specs.declared.errors.Failed.{Failed as DeviceFailed}
use Rattle.dev_rack.specs.declared.answers.Answer.{Answer}
use Rattle.dev_rack.specs.declared.answers.Answer.TheVariants.{Word, Failed, Empty, Full}
use Rattle.dev_rack.specs.Rack.{State}
use Rattle.dev_rack.specs.RackClauses.{Answered, Asks, Ejects}
use Rattle.dev_rack.specs.Slots.{Seen, device_at}
use Rattle.dev_rack.specs.SlotsClauses.{HeardAt}
use Rattle.dev_rack.specs.declared.answers.Asked.{Asked}
use Rattle.mix_io.specs.CountsClauses.{HasCause}
use Rattle.mix_io.specs.Told.{Hears}
use Rattle.gdb_steps.specs.inner.Slots.{IsKnown, failure, seen_slots}

answered-known : (old new : State) (slot word : ℕ) (result : Result ℕ DeviceFailed) (held : List Bool) → Answered old slot word result new → IsKnown old held → IsKnown new held
answered-known old new slot word result held is known =
    let long : length new.slots ≡ length old.slots = ap length is.heard.written ∙ length-set old.slots slot (Some is.heard.after) in
    let same : map is_some new.slots ≡ map is_some old.slots =
    ap (map is_some) is.heard.written ∙ map-set_same is_some old.slots slot (Some is.heard.after) None (sym (ap is_some is.heard.held)) in
    let journal : length new.journal ≡ length old.journal + 1 = ap length is.noted ∙ length-append old.journal _ in
    record {
      few = few-same (length new.slots) (length old.slots) long known.few;
      limit = one-within (length new.journal) (length old.journal) journal is.room;
      known = ap (λ n. take n held) long ∙ (known.known ∙ sym same);
    }
  where
    few-same : (m n : ℕ) → m ≡ n → n ≤ 8 → m ≤ 8
    few-same m n e h = omega (arith, e, h)

    one-within : (m n : ℕ) → m ≡ n + 1 → n < 4096 → m ≤ 4096
    one-within m n e h = omega (arith, e, h)

pub asks-known : (old new : State) (slot word : ℕ) (answer : Answer) (held : List Bool) → Asks old slot word answer new → IsKnown old held → IsKnown new held
asks-known old new slot word (Word n) held is known = answered-known old new slot word (Ok n) held is known
asks-known old new slot word Failed held is known = answered-known old new slot word (Err (record {})) held is known
asks-known old new slot word Empty held is known = subst (λ s. IsKnown s held) (sym is.1) known
asks-known old new slot word Full held is known = subst (λ s. IsKnown s held) (sym is.2) known

inside : (xs : List (Option Seen)) (i : ℕ) → IsSome (device_at xs i) → i < length xs
inside [] i h = cc
inside (x ∷ xs) zero h = omega arith
inside (x ∷ xs) (suc i) h = let more : i < length xs = inside xs i h in omega (arith, more)

pub ejects-inside : (old new : State) (slot : ℕ) (done : Bool) (held : List Bool) → done ≡ true → Ejects old slot done new → IsKnown old held → slot < 8
ejects-inside old new slot true held is ejects known = let there = inside old.slots slot ejects.0 in let few = known.few in omega (arith, there, few)
ejects-inside old new slot false held is ejects known = cc

pub ejects-known : (old new : State) (slot : ℕ) (done : Bool) (held : List Bool) → done ≡ true → Ejects old slot done new → IsKnown old held → IsKnown new (slice_set held slot false)
ejects-known old new slot true held is ejects known =
    subst (λ s. IsKnown s (slice_set held slot false)) (sym ejects.1)
    (record {
      few = few-same (length (slice_set old.slots slot None)) (length old.slots) (length-set old.slots slot None) known.few;
      limit = known.limit;
      known = ap (λ n. take n (slice_set held slot false)) (length-set old.slots slot None)
          ∙ (take-set-lt (length old.slots) held slot false (inside old.slots slot ejects.0)
          ∙ (ap (λ xs. slice_set xs slot false) known.known ∙ sym (map-set is_some old.slots slot None)));
    })
  where
    few-same : (m n : ℕ) → m ≡ n → n ≤ 8 → m ≤ 8
    few-same m n e h = omega (arith, e, h)
ejects-known old new slot false held is ejects known = cc

pub ejects-not : (old new : State) (slot : ℕ) (done : Bool) (held : List Bool) → done ≡ false → Ejects old slot done new → IsKnown old held → IsKnown new held
ejects-not old new slot true held is ejects known = cc
ejects-not old new slot false held is ejects known = subst (λ s. IsKnown s held) (sym ejects.1) known

-- ---- slots that are written one after the other

pub more-true : (held : List Bool) (n : ℕ) → n < length held → take n held ≡ replicate n true → take (n + 1) (slice_set held n true) ≡ replicate (n + 1) true
more-true held n few is = take_more_set held n true few ∙ (ap (λ xs. xs ++ true ∷ []) is ∙ replicate-append-replicate n 1 true)

one_more : (n : ℕ) → n + 1 ≡ suc n
one_more n = omega arith

pub more-held : (held : List Bool) (slots : List (Option ℕ)) (n : ℕ) (x : Bool) → n < length held → n < length slots → x ≡ is_some (get_or slots n None) → take n held ≡ map is_some (take n slots)
    → take (n + 1) (slice_set held n x) ≡ map is_some (take (n + 1) slots)
more-held held slots n x few fewer is so_far =
    take_more_set held n x few
    ∙ (ap (λ xs. xs ++ x ∷ []) so_far ∙ (ap (λ y. map is_some (take n slots) ++ y ∷ []) is
    ∙ sym (ap (map is_some) (up n slots fewer) ∙ map-append is_some (take n slots) (get_or slots n None ∷ []))))
  where
    up : (n : ℕ) (xs : List (Option ℕ)) → n < length xs → take (n + 1) xs ≡ take n xs ++ get_or xs n None ∷ []
    up n xs few = ap (λ k. take k xs) (one_more n) ∙ take-suc xs n None few

pub more-filled : (slots : List (Option ℕ)) (held : List Bool) (n : ℕ) (x : Option ℕ) → n < length slots → n < length held → is_some x ≡ get_or held n false → map is_some (take n slots) ≡ take n held
    → map is_some (take (n + 1) (slice_set slots n x)) ≡ take (n + 1) held
more-filled slots held n x few fewer is so_far =
    ap (map is_some) (take_more_set slots n x few)
    ∙ (map-append is_some (take n slots) (x ∷ []) ∙ (ap (λ xs. xs ++ is_some x ∷ []) so_far ∙ (ap (λ y. take n held ++ y ∷ []) is ∙ sym (up n held fewer))))
  where
    up : (n : ℕ) (xs : List Bool) → n < length xs → take (n + 1) xs ≡ take n xs ++ get_or xs n false ∷ []
    up n xs few = ap (λ k. take k xs) (one_more n) ∙ take-suc xs n false few

-- ---- devices that are played back

-- what is seen of a device that failed so often
abbrev seen_device : ℕ → Seen
seen_device n = record { faults = n; told = None }

same-held : (slots : List (Option ℕ)) (i : ℕ) (d : Option ℕ) (n : ℕ) → IsSome (device_at (seen_slots slots) i) → slice_index_or slots i d ≡ Some n → slice_index_or slots i None ≡ Some n
same-held [] i d n held is = cc
same-held (x ∷ xs) zero d n held is = is
same-held (x ∷ xs) (suc i) d n held is = same-held xs i d n held is

pub emptied : (slots : List (Option ℕ)) (i : ℕ) → seen_slots (slice_set slots i None) ≡ slice_set (seen_slots slots) i None
emptied slots i = map-set (option_map seen_device) slots i None

pub noted-at : (slots : List (Option ℕ)) (slot word : ℕ) (d : Option ℕ) (failures after : ℕ) (answer : Option ℕ) → IsSome (device_at (seen_slots slots) slot) → slice_index_or slots slot d ≡ Some failures
    → HasCause failures after (failure answer) → HeardAt (seen_slots slots) (seen_slots (slice_set slots slot (Some after))) slot word (failure answer)
noted-at slots slot word d failures after answer held is cause =
    record {
      before = seen_device failures;
      after = seen_device after;
      held = get_or-map (option_map seen_device) slots slot None ∙ ap (option_map seen_device) (same-held slots slot d failures held is);
      written = map-set (option_map seen_device) slots slot (Some after);
      heard = record { told = told-none answer; cause = cause };
    }
  where
    told-none : (a : Option ℕ) → Hears None None word (failure a)
    told-none None = refl
    told-none (Some n) = refl

map-seen : (slots : List (Option ℕ)) → map is_some (seen_slots slots) ≡ map is_some slots
map-seen [] = refl
map-seen (None ∷ slots) = ap (λ xs. false ∷ xs) (map-seen slots)
map-seen (Some n ∷ slots) = ap (λ xs. true ∷ xs) (map-seen slots)

pub seen-held : (slots asked : List (Option ℕ)) (seen : List (Option Seen)) (held : List Bool) → asked ≡ slots → seen_slots slots ≡ seen → take (length asked) held ≡ map is_some asked
    → take (length seen) held ≡ map is_some seen
seen-held slots asked seen held same view is =
    ap (λ n. take n held) (sym (ap length view) ∙ (length-map slots _ ∙ ap length (sym same)))
    ∙ (is ∙ (ap (map is_some) same ∙ (sym (map-seen slots) ∙ ap (map is_some) view)))

pub seen-filled : (slots lent filled : List (Option ℕ)) (seen : List (Option Seen)) (held : List Bool) (n : ℕ) → seen_slots slots ≡ seen → lent ≡ slots
    → map is_some filled ≡ take (length lent) held → length filled ≡ n → map is_some (seen_slots (take n (filled ++ drop (length filled) slots))) ≡ take (length seen) held
seen-filled slots lent filled seen held n view same is long =
    ap (λ xs. map is_some (seen_slots xs)) (ap (λ k. take k (filled ++ drop (length filled) slots)) (sym long) ∙ take-append_seam filled (drop (length filled) slots))
    ∙ (map-seen filled ∙ (is ∙ ap (λ k. take k held) (ap length same ∙ (sym (length-map slots _) ∙ ap length view))))

pub fronts-join : (asks journal more : List Asked) (n : ℕ) → asks ≡ take (length asks) journal → length asks ≤ n → more ≡ take (n - length asks) (drop (length asks) journal) → asks ++ more ≡ take n journal
fronts-join asks journal more n front few is =
    ap (λ xs. xs ++ more) front ∙ (ap (λ ys. take (length asks) journal ++ ys) is ∙ (sym (take-add (length asks) (n - length asks) journal) ∙ ap (λ k. take k journal) (up (length asks) n few)))
  where
    up : (m n : ℕ) → m ≤ n → m + (n - m) ≡ n
    up m n few = omega (arith, few)
