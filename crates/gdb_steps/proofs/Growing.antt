-- Places of a run whose journal grew.
use Rattle.std.proofs.Common.{◌≡◌, ℕ, ◌≤◌, List, [], ◌∷◌, ◌++◌, length, map, take, drop, Option, sym, ap, ◌∙◌, subst, append_assoc, length-append, arith}
use Rattle.std.proofs.lemmas.List.{map-append, take-append-le, drop-append-le}
use Rattle.dev_rack.specs.declared.answers.Asked.{Asked}
use Rattle.mixed_machine.specs.Exec.{Leads}
use Rattle.mixed_machine.specs.Machine.{flat}
use Rattle.gdb_steps.specs.Places.{ArePlaces, Begin, IsPlace, Place, answers_of, first_state, state_at}
use Rattle.gdb_steps.specs.inner.Goings.{given}

answers-more : (asks more : List Asked) (rest : List (Option ℕ)) → answers_of (asks ++ more) rest ≡ answers_of asks (answers_of more rest)
answers-more asks more rest =
    ap (λ xs. xs ++ rest) (map-append (λ e. e.answer) asks more) ∙ append_assoc (map (λ e. e.answer) asks) (map (λ e. e.answer) more) rest

pub first-more : (b : Begin) (i : List ℕ) (j e : List Asked) (n : ℕ) (rest : List (Option ℕ)) → first_state b (given i (j ++ e) n) rest ≡ first_state b (given i j n) (answers_of e rest)
first-more b i j e n rest =
    ap (λ answers. flat b.machine.body b.machine.active (record { input = b.input; slots = b.slots; asks = []; answers = answers })) (answers-more j e rest)

pub state-more : (p : Place) (i : List ℕ) (j e : List Asked) (n : ℕ) (rest : List (Option ℕ)) → p.used.asks ≤ length j
    → state_at (given i (j ++ e) n) p rest ≡ state_at (given i j n) p (answers_of e rest)
state-more p i j e n rest few =
    ap (λ asks. flat p.machine.body p.machine.active (record { input = drop p.used.input i; slots = take n p.used.held; asks = asks; answers = answers_of (drop p.used.asks (j ++ e)) rest }))
    (take-append-le p.used.asks j e few)
    ∙ ap (λ answers. flat p.machine.body p.machine.active (record { input = drop p.used.input i; slots = take n p.used.held; asks = take p.used.asks j; answers = answers }))
    (ap (λ xs. answers_of xs rest) (drop-append-le p.used.asks j e few) ∙ answers-more (drop p.used.asks j) e rest)

longer : (m : ℕ) (j e : List Asked) → m ≤ length j → m ≤ length (j ++ e)
longer m j e few = let both = length-append j e in omega (arith, both, few)

pub place-more : (b : Begin) (i : List ℕ) (j e : List Asked) (n m : ℕ) (p : Place) → IsPlace b (given i j n) m p → IsPlace b (given i (j ++ e) n) m p
place-more b i j e n m p is =
    record {
      asks = longer p.used.asks j e is.asks;
      leads = λ more.
          subst (λ s. Leads 0 m s (state_at (given i (j ++ e) n) p more)) (sym (first-more b i j e n more))
          (subst (λ t. Leads 0 m (first_state b (given i j n) (answers_of e more)) t) (sym (state-more p i j e n more is.asks)) (is.leads (answers_of e more)));
    }

pub places-more : (b : Begin) (i : List ℕ) (j e : List Asked) (n m : ℕ) (ps : List Place) → ArePlaces b (given i j n) m ps → ArePlaces b (given i (j ++ e) n) m ps
places-more b i j e n m [] are = tt
places-more b i j e n m (p ∷ ps) are = (are.0, are.1, place-more b i j e n are.0 p are.2, places-more b i j e n are.0 ps are.3)
