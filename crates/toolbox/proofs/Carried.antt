-- From what a function does to memory, heap, input and output to what it performs.
use Rattle.std.proofs.Common.{◌≡◌, ◌==◌, ℕ, Bool, List, [], ◌∷◌, ◌++◌, length, map, true, Option, None, Some, Result, Ok, refl, sym, ap, subst, ◌∙◌, arith}
use Rattle.std.proofs.Math.Seq.{drop-length}
use Rattle.std.proofs.lemmas.Bool.{eqb-true}
use Rattle.std.specs.Io.KnownBytes.{Consumes, IsAtEnd}
use Rattle.std.proofs.KnownBytes.{Appends-nil}
use Rattle.mix_io.specs.Streams.{Output, Grows}
use Rattle.big_memory.specs.Memory.{Memory, IsRam, copied, copy_refusal}
use Rattle.big_memory.specs.MemoryClauses.{IsDoneUnless}
use Rattle.big_memory.specs.declared.refusals.Access.{Access}
use Rattle.big_memory.specs.StoresClauses.{OnlyFree}
use Rattle.host_heap.specs.Space.{Space}
use Rattle.dev_rack.specs.Rack.{State}
use Rattle.toolbox.specs.declared.values.Operands.{Operands}
use Rattle.toolbox.specs.declared.values.Results.{Results}
use Rattle.toolbox.specs.declared.function.Function.{Function}
use Rattle.toolbox.specs.declared.function.Function.TheVariants.{BlockMove, GetByte}
use Rattle.toolbox.specs.declared.outcome.Outcome.TheVariants.{Given}
use Rattle.toolbox.specs.Effects.{Around, Effects, effect, quiet, moved_unless, results, says, error}
use Rattle.toolbox.specs.Effects.Effect.{Gives}
use Rattle.toolbox.specs.Calls.{Input, Outside, answers_since, IsLeft}
use Rattle.toolbox.specs.CallsClauses.{KeepsBounds, place, resources_at, Told}
use Rattle.toolbox.specs.inner.Calls.{with_input}
use Rattle.toolbox.specs.Calls.Taken.{Nothing, Byte, TheEnd}
use Rattle.toolbox.specs.inner.Performs.{AreLaws, Performs, Quietly}
use Rattle.toolbox.specs.Performs.{resources}

-- a journal that stays has no new entries
pub since-none : (s : State) → answers_since s s ≡ []
since-none s = ap (λ entries. map (λ e. e.answer) entries) (drop-length s.journal)

pub told-nothing : (left : Option (List ℕ)) → Told Nothing left left
told-nothing left after is = (after, is, refl)

pub grows-none : (out : Output) → Grows out out []
grows-none out = record { taken = Appends-nil out.held; calm = refl }

-- a function that neither reads nor asks
pub given : AreLaws → (f : Function) (o : Operands) (x : Results) (m n : Memory) (h k : Space) (input : Input) (rack : State) (out next : Output) (e : Effects) →
    e.asked ≡ None → ((around : Around) → effect f o (resources m h around) ≡ Gives (resources n k around) x e) → KeepsBounds h k → OnlyFree m n → Grows out next e.said →
    Performs f o (Given x) (place m h (record { input = input; rack = rack; out = out })) (place n k (record { input = input; rack = rack; out = next }))
given laws f o x m n h k input rack out next e none is bounds free grows = record {
  effects = e;
  taken = Nothing;
  does = λ before after rest took. rw (took, since-none rack) (is _);
  ask = none;
  told = told-nothing input.left;
  calm = refl;
  put = grows;
  devices = laws.begins rack;
  bounds = bounds;
  free = free;
}

-- one that is not seen from outside
pub quietly : AreLaws → (f : Function) (o : Operands) (x : Results) (m n : Memory) (h k : Space) (w : Outside) →
    ((around : Around) → Quietly x (resources n k around) (effect f o (resources m h around))) → KeepsBounds h k → OnlyFree m n →
    Performs f o (Given x) (place m h w) (place n k w)
quietly laws f o x m n h k w is bounds free = given laws f o x m n h k w.input w.rack w.out w.out quiet refl is bounds free (grows-none w.out)

pub quietly_as : AreLaws → (f g : Function) → f ≡ g → (o : Operands) (x : Results) (m n : Memory) (h k : Space) (w : Outside) →
    ((around : Around) → Quietly x (resources n k around) (effect g o (resources m h around))) → KeepsBounds h k → OnlyFree m n →
    Performs f o (Given x) (place m h w) (place n k w)
quietly_as laws f g same o x m n h k w is bounds free =
    subst (λ a. Performs a o (Given x) (place m h w) (place n k w)) (sym same) (quietly laws g o x m n h k w is bounds free)

-- bytes that were moved
moved-is : (reason : Option Access) (m n after : Memory) (h : Space) (result : Result (Unit {0}) Access) (x : Results) → x ≡ results 0 0 → result ≡ Ok (record {}) →
    IsDoneUnless reason m after n result (record {}) → (around : Around) → moved_unless (resources m h around) after reason ≡ Gives (resources n h around) x quiet
moved-is None m n after h result x none ok all around = rw (all.1, none) refl
moved-is (Some e) m n after h result x none ok all around = cc (all.0, ok)

pub moved : AreLaws → (o : Operands) (x : Results) (m n : Memory) (h : Space) (w : Outside) (result : Result (Unit {0}) Access) →
    x ≡ results 0 0 → IsRam m → result ≡ Ok (record {}) →
    IsDoneUnless (copy_refusal m o.first o.second o.third) m (copied m o.first o.second o.third) n result (record {}) →
    Performs BlockMove o (Given x) (place m h w) (place n h w)
moved laws o x m n h w result none ram ok all =
    quietly laws BlockMove o x m n h h w
    (moved-is (copy_refusal m o.first o.second o.third) m n (copied m o.first o.second o.third) h result x none ok all)
    (record { low = refl; high = refl }) (laws.copies m n o.first o.second o.third result ram all)

-- one that says a piece, which the output took
pub said : AreLaws → (f : Function) (o : Operands) (x : Results) (m : Memory) (h : Space) (input : Input) (rack : State) (out next : Output) (piece : List ℕ) →
    x ≡ results 0 0 → ((around : Around) → effect f o (resources m h around) ≡ says (resources m h around) piece) → Grows out next piece →
    Performs f o (Given x) (place m h (record { input = input; rack = rack; out = out })) (place m h (record { input = input; rack = rack; out = next }))
said laws f o x m h input rack out next piece none is grows =
    given laws f o x m m h h input rack out next (record quiet { said = piece }) refl
    (λ around. is around ∙ ap (λ y. Gives (resources m h around) y (record quiet { said = piece })) (sym none)) (record { low = refl; high = refl }) (laws.nothing m) grows

-- one that says no bytes
pub said_nothing : AreLaws → (f : Function) (o : Operands) (x : Results) (m : Memory) (h : Space) (input : Input) (rack : State) (out : Output) (piece : List ℕ) →
    x ≡ results 0 0 → ((around : Around) → effect f o (resources m h around) ≡ says (resources m h around) piece) → piece ≡ [] →
    Performs f o (Given x) (place m h (record { input = input; rack = rack; out = out })) (place m h (record { input = input; rack = rack; out = out }))
said_nothing laws f o x m h input rack out piece none is empty =
    said laws f o x m h input rack out out piece none is (subst (λ bytes. Grows out out bytes) (sym empty) (grows-none out))

-- the input gave a byte
told-byte : (byte : ℕ) (left next : Option (List ℕ)) → Consumes left next (byte ∷ []) → Told (Byte byte) left next
told-byte byte None next h after is = (byte ∷ after, tt, refl)
told-byte byte (Some bytes) None h after is = absurd h
told-byte byte (Some bytes) (Some others) h after is = (byte ∷ after, ap (λ xs. byte ∷ xs) is ∙ sym h, refl)

pub took : AreLaws → (o : Operands) (x : Results) (m : Memory) (h : Space) (rack : State) (out : Output) (left next : Option (List ℕ)) (faults after : ℕ) (byte : ℕ) →
    x ≡ results byte 0 → Consumes left next (byte ∷ []) → after ≡ faults →
    Performs GetByte o (Given x) (place m h (with_input left faults rack out)) (place m h (with_input next after rack out))
took laws o x m h rack out left next faults after byte is consumes calm = record {
  effects = record quiet { reads = true };
  taken = Byte byte;
  does = λ before rest answers first. rw (first, since-none rack, is) refl;
  ask = refl;
  told = told-byte byte left next consumes;
  calm = calm;
  put = grows-none out;
  devices = laws.begins rack;
  bounds = record { low = refl; high = refl };
  free = laws.nothing m;
}

-- the input gave the news of its end
left-at-end : (next : Option (List ℕ)) → next ≡ Some [] → (after : List ℕ) → IsLeft next after → after ≡ []
left-at-end next none after is = subst (λ o. IsLeft o after) none is

told-end : (left next : Option (List ℕ)) → IsAtEnd left → next ≡ Some [] → Told TheEnd left next
told-end None next ended none after is = ([], tt, (refl, left-at-end next none after is))
told-end (Some bytes) next ended none after is = ([], sym ended, (refl, left-at-end next none after is))

pub took_end : AreLaws → (o : Operands) (x : Results) (m : Memory) (h : Space) (rack : State) (out : Output) (left next : Option (List ℕ)) (faults after : ℕ) →
    x ≡ results (error 1) 0 → IsAtEnd left → next ≡ Some [] → after ≡ faults →
    Performs GetByte o (Given x) (place m h (with_input left faults rack out)) (place m h (with_input next after rack out))
took_end laws o x m h rack out left next faults after is ended none calm = record {
  effects = record quiet { reads = true };
  taken = TheEnd;
  does = λ before rest answers both.
      ap (λ bytes. effect GetByte o (resources_at (place m h (with_input left faults rack out)) bytes (answers_since rack rack ++ answers))) both.0
      ∙ rw (both.1, since-none rack, is) refl;
  ask = refl;
  told = told-end left next ended none;
  calm = calm;
  put = grows-none out;
  devices = laws.begins rack;
  bounds = record { low = refl; high = refl };
  free = laws.nothing m;
}

-- a list without elements
pub empty-is : (xs : List ℕ) (is : Bool) → is ≡ (length xs == 0) → is ≡ true → xs ≡ []
empty-is [] is test holds = refl
empty-is (x ∷ xs) is test holds = absurd (let none : length (x ∷ xs) ≡ 0 = eqb-true (length (x ∷ xs)) 0 (sym test ∙ holds) in omega (arith, none))
