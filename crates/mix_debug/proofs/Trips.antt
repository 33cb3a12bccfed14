-- Lists of steps forward and back.
use Rattle.std.proofs.Common.{◌≡◌, ℕ, zero, suc, ◌-◌, ◌<◌, ◌≤◌, nat_le, true, false, List, [], ◌∷◌, ◌++◌, length, map, take, Some, None, arith, inl, inr, ap, sym, ◌∙◌, refl, subst}
use Rattle.std.proofs.lemmas.Bool.{cases_Bool, leb-false, leb-true}
use Rattle.mix_engine.specs.declared.machine.Machine.{Machine}
use Rattle.mix_debug.specs.CostsClauses.{Kept, cost_between, fitting}
use Rattle.mix_debug.specs.TrailsClauses.{TakesBack, Trail}
use Rattle.mix_debug.specs.Trails.{history_room}
use Rattle.mix_debug.specs.laws.Trips.{Event, FittingIsLongest, IsLongest, ListsLead, TripsReturn, Walked, behind, costs, standing}
use Rattle.mix_debug.specs.laws.Trips.Event.{Did, Stayed, Stood, Undid}

-- the steps that are kept are the newest of those that are done and not taken back
abbrev AreNewest : List Kept → List Machine → Type 0
AreNewest [] ms = Unit {0}
AreNewest (k ∷ ks) [] = ⊥
AreNewest (k ∷ ks) (m ∷ ms) = (k.machine ≡ m) × AreNewest ks ms

newest-all : (ks : List Kept) → AreNewest ks (map (λ (k : Kept). k.machine) ks)
newest-all [] = tt
newest-all (k ∷ ks) = (refl, newest-all ks)

newest-fitting : (room : ℕ) (ks : List Kept) (ms : List Machine) → AreNewest ks ms → AreNewest (fitting room ks) ms
unfolding fitting
newest-fitting room [] ms newest = tt
newest-fitting room (k ∷ ks) [] newest = absurd newest
newest-fitting room (k ∷ ks) (m ∷ ms) newest =
    elim (cases_Bool (nat_le k.cost room)) [
      | inl fits ↦ rw fits (newest.0, newest-fitting (room - k.cost) ks ms newest.1)
      | inr full ↦ rw full tt
    ]

-- a step back gives the machine before the newest of them
undid : (es : List Event) (a m b : Trail) (ks : List Kept) (ms : List Machine) → AreNewest ks ms → TakesBack true ks a m
    → ((ns : List Machine) → AreNewest m.kept ns → b.machine ≡ behind es m.machine ns) → b.machine ≡ behind (Undid ∷ es) a.machine ms
unfolding behind
undid es a m b [] ms newest back onward = absurd (let e : true ≡ false = back.0 in cc)
undid es a m b (k ∷ ks) [] newest back onward = absurd newest
undid es a m b (k ∷ ks) (x ∷ ms) newest back onward =
    onward ms (subst (λ (t : Trail). AreNewest t.kept ms) (sym back.1) newest.1) ∙ ap (λ y. behind es y ms) (ap (λ (t : Trail). t.machine) back.1 ∙ newest.0)

stayed : (a m : Trail) (ks : List Kept) → TakesBack false ks a m → m ≡ a
stayed a m [] back = back.1
stayed a m (k ∷ ks) back = absurd (let e : false ≡ true = back.0 in cc)

leads : (es : List Event) (a b : Trail) (ms : List Machine) → AreNewest a.kept ms → Walked es a b → b.machine ≡ behind es a.machine ms
unfolding behind
leads [] a b ms newest walked = walked.0
leads (Did to ∷ es) a b ms newest (m, led, more) =
    let first : Kept = record { machine = a.machine; cost = cost_between a.machine m.machine } in
    let kept : AreNewest m.kept (a.machine ∷ ms) = subst (λ ks. AreNewest ks (a.machine ∷ ms)) (sym led.0) (newest-fitting history_room (first ∷ a.kept) (a.machine ∷ ms) (refl, newest)) in
    leads es m b (a.machine ∷ ms) kept more ∙ ap (λ y. behind es y (a.machine ∷ ms)) led.1
leads (Stood ∷ es) a b ms newest (m, led, more) =
    leads es m b ms (subst (λ ks. AreNewest ks ms) (sym led.1) newest) more ∙ ap (λ y. behind es y ms) led.0
leads (Undid ∷ es) a b ms newest (m, led, more) = undid es a m b a.kept ms newest led (λ ns kept. leads es m b ns kept more)
leads (Stayed ∷ es) a b ms newest (m, led, more) =
    let same : m ≡ a = stayed a m a.kept led in
    leads es m b ms (subst (λ (t : Trail). AreNewest t.kept ms) (sym same) newest) more ∙ ap (λ (t : Trail). behind es t.machine ms) same

pub lists_lead : ListsLead
lists_lead es a b walked = leads es a b (map (λ (k : Kept). k.machine) a.kept) (newest-all a.kept) walked

-- the machine before the oldest of the steps that are still done
abbrev oldest : Machine → List Machine → Machine
oldest m [] = m
oldest m (k ∷ front) = oldest k front

back-again : (es : List Event) (m : Machine) (front rest : List Machine) → standing es (length front) ≡ Some 0 → behind es m (front ++ rest) ≡ oldest m front
unfolding behind standing
back-again [] m [] rest none = refl
back-again [] m (k ∷ front) rest none = absurd (let e : Some (suc (length front)) ≡ Some 0 = none in let n : suc (length front) ≡ 0 = cc in omega (arith, n))
back-again (Did to ∷ es) m front rest none = back-again es to (m ∷ front) rest none
back-again (Stood ∷ es) m front rest none = back-again es m front rest none
back-again (Undid ∷ es) m [] rest none = absurd (let e : Some 0 ≡ None = sym none in cc)
back-again (Undid ∷ es) m (k ∷ front) rest none = back-again es k front rest none
back-again (Stayed ∷ es) m front rest none = back-again es m front rest none

pub trips_return : TripsReturn
trips_return es a b walked none = lists_lead es a b walked ∙ back-again es a.machine [] (map (λ (k : Kept). k.machine) a.kept) none

-- what is kept is the longest beginning that fits
longest-none : (room : ℕ) → IsLongest room [] []
unfolding costs
longest-none room = record { beginning = refl; fits = omega arith; longest = λ n more within. absurd (omega (arith, more, within)) }

longest-full : (room : ℕ) (k : Kept) (ks : List Kept) → room < k.cost → IsLongest room (k ∷ ks) []
unfolding costs
longest-full room k ks over = record { beginning = refl; fits = omega arith; longest = longer }
  where
    longer : (n : ℕ) → length {A = Kept} [] < n → n ≤ length (k ∷ ks) → room < costs (take n (k ∷ ks))
    longer zero more within = absurd (omega (arith, more))
    longer (suc n) more within = omega (arith, over)

longest-more : (room : ℕ) (k : Kept) (ks kept : List Kept) → k.cost ≤ room → IsLongest (room - k.cost) ks kept → IsLongest room (k ∷ ks) (k ∷ kept)
unfolding costs
longest-more room k ks kept fits rest =
    let small : costs kept ≤ room - k.cost = rest.fits in
    record { beginning = ap (λ xs. k ∷ xs) rest.beginning; fits = omega (arith, fits, small); longest = longer }
  where
    longer : (n : ℕ) → length (k ∷ kept) < n → n ≤ length (k ∷ ks) → room < costs (take n (k ∷ ks))
    longer zero more within = absurd (omega (arith, more))
    longer (suc n) more within = let over : room - k.cost < costs (take n ks) = rest.longest n (omega (arith, more)) (omega (arith, within)) in omega (arith, over, fits)

pub fitting_is_longest : FittingIsLongest
unfolding fitting
fitting_is_longest room [] = longest-none room
fitting_is_longest room (k ∷ ks) =
    elim (cases_Bool (nat_le k.cost room)) [
      | inl fits ↦ rw fits (longest-more room k ks (fitting (room - k.cost) ks) (leb-true k.cost room fits) (fitting_is_longest (room - k.cost) ks))
      | inr full ↦ rw full (longest-full room k ks (leb-false k.cost room full))
    ]
