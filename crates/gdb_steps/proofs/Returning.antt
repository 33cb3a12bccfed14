-- A step back of a walker.
use Rattle.std.proofs.Common.{◌≡◌, ℕ, suc, ◌-◌, ◌<◌, ◌==◌, true, false, List, [], ◌∷◌, length, drop, None, Some, slice_get, refl, sym, ap, ◌∙◌, subst, arith}
use Rattle.std.proofs.lemmas.Bool.{eqb-true}
use Rattle.dev_rack.specs.Rack.{State as Rack}
use Rattle.mix_engine.specs.declared.machine.Machine.{Machine}
use Rattle.mix_debug.specs.CostsClauses.{Kept}
use Rattle.mix_debug.specs.TrailsClauses.{TakesBack, Trail}
use Rattle.gdb_steps.specs.Places.{Place, Run}
use Rattle.gdb_steps.specs.Walkers.{places}
use Rattle.gdb_steps.specs.declared.snapshot.Snapshot.{Snapshot}
use Rattle.gdb_steps.specs.declared.used.Used.{Used}
use Rattle.gdb_steps.specs.inner.Backing.{Returns}
use Rattle.gdb_steps.proofs.Fronts.{no-used}
use Rattle.gdb_steps.proofs.Firsts.{run}

abbrev place_of : Machine → Used → Place
place_of m u = record { machine = m; used = u }

false-true : false ≡ true → ⊥
false-true e = cc

not-none : (n : ℕ) → suc n ≡ 0 → ⊥
not-none n e = omega (arith, e)

none-some : {a : Used} → None ≡ Some a → ⊥
none-some e = cc

-- where nothing is kept of the outside
pub none-used : (us : List Used) (ks : List Kept) (r s : Run) → (length us == 0) ≡ true → r.past ≡ places ks us → s ≡ r → Returns false r.past r s
none-used [] ks r s none past same = subst (λ ps. Returns false ps r s) (sym (past ∙ no-used ks)) same
none-used (u ∷ us) ks r s none past same = absurd (not-none (length us) (eqb-true (suc (length us)) 0 none))

none-places : (us : List Used) → places [] us ≡ []
unfolding places
none-places us = refl

-- or of the machine
pub none-kept : (ks : List Kept) (us : List Used) (d e : Trail) (r s : Run) → TakesBack false ks d e → r.past ≡ places ks us → (e ≡ d → s ≡ r) → Returns false r.past r s
none-kept [] us d e r s back past same = subst (λ ps. Returns false ps r s) (sym (past ∙ none-places us)) (same back.1)
none-kept (k ∷ ks) us d e r s back past same = absurd (false-true back.0)

-- the newest of both
pub back-one : (ks : List Kept) (us : List Used) (i : List ℕ) (d e : Trail) (u : Used) (r : Rack) (n : ℕ) (f : ℕ) (ss : List Snapshot) (v : Used) → ks ≡ d.kept → TakesBack true ks d e → slice_get us 0 ≡ Some v → 0 < n
    → Returns true (places ks us) (run i d u r n us f ss) (run i e v r (n - 1) (drop 1 us) f ss)
unfolding places
back-one [] us i d e u r n f ss v same back got some = absurd (false-true (sym back.0))
back-one (k ∷ ks) [] i d e u r n f ss v same back got some = absurd (none-some got)
back-one (k ∷ ks) (x ∷ us) i d e u r n f ss v same back got some =
    let x_is : x ≡ v = some-is got in
    let machine : e.machine ≡ k.machine = ap (λ (t : Trail). t.machine) back.1 in
    let kept : e.kept ≡ ks = ap (λ (t : Trail). t.kept) back.1 in (
      one-less n some,
      ap (λ (q : Place). record (run i d u r n (x ∷ us) f ss) { here = q; past = places e.kept us; steps = n - 1 }) (place-is e.machine k.machine v x machine (sym x_is))
          ∙ ap (λ (ls : List Kept). record (run i d u r n (x ∷ us) f ss) { here = record { machine = k.machine; used = x }; past = places ls us; steps = n - 1 }) kept,
    )
  where
    some-is : {a b : Used} → Some a ≡ Some b → a ≡ b
    some-is e = cc

    one-less : (n : ℕ) → 0 < n → n ≡ suc (n - 1)
    one-less n some = omega (arith, some)

    place-is : (m l : Machine) (a b : Used) → m ≡ l → a ≡ b → place_of m a ≡ place_of l b
    place-is m l a b same used = ap (λ x. place_of x a) same ∙ ap (place_of l) used
