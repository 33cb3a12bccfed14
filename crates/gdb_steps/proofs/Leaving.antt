-- What one step leaves of a walker.
use Rattle.std.proofs.Common.{◌≡◌, ℕ, suc, ◌+◌, Bool, true, false, List, drop, is_some, length, map, take, refl, sym, ap, ◌∙◌, subst, arith}
use Rattle.mix_io.specs.Streams.{Output}
use Rattle.dev_rack.specs.Accounts.{Accounts}
use Rattle.dev_rack.specs.Rack.{State as Rack}
use Rattle.dev_rack.specs.declared.answers.Asked.{Asked}
use Rattle.dev_rack.specs.declared.devices.Devices.{Ghosts}
use Rattle.dev_rack.proofs.Steps.{accounts-none}
use Rattle.mixed_machine.specs.declared.stop.Stop.{Stop}
use Rattle.mix_engine.specs.Ends.{goes_on}
use Rattle.mix_debug.specs.TrailsClauses.{is_done}
use Rattle.gdb_steps.specs.Places.{IsFront}
use Rattle.gdb_steps.specs.Walkers.{run_of}
use Rattle.gdb_steps.specs.declared.walker.Walker.{Walker}
use Rattle.gdb_steps.specs.inner.Onces.{AfterAgain, AfterFirst, AgainStep, Counted, FirstStep, Keeps, Stays, nothing}
use Rattle.gdb_steps.specs.inner.Steps.{AreAt, Steps, stands}

same-input : {D : Type 0} {G : Ghosts D} (w v : Walker D G) (r s : Rack) (o p t u : Output) (stop : Stop) (taken : ℕ) (items : List ℕ) → items ≡ w.input.items
    → Steps w.debug v.debug (stands w.debug (drop w.used.input items) r o t) (stands v.debug (drop taken items) s p u) stop
    → Steps w.debug v.debug (stands w.debug (drop w.used.input w.input.items) r o t) (stands v.debug (drop taken w.input.items) s p u) stop
same-input w v r s o p t u stop taken items same step = subst (λ xs. Steps w.debug v.debug (stands w.debug (drop w.used.input xs) r o t) (stands v.debug (drop taken xs) s p u) stop) same step

pub stays-first : {D : Type 0} {G : Ghosts D} (w v : Walker D G) (o p t u : Output) (stop : Stop) (taken : ℕ) (items : List ℕ) → items ≡ w.input.items
    → Steps w.debug v.debug (stands w.debug (drop w.used.input items) w.real o t) (stands v.debug (drop taken items) v.real p u) stop → is_done stop ≡ false → Stays w v → Keeps w v
    → FirstStep w v o p t u stop
stays-first w v o p t u stop taken items same step not_done stays keeps =
    record {
      taken = taken;
      step = same-input w v w.real v.real o p t u stop taken items same step;
      after = subst (λ b. AfterFirst b taken w v) (sym not_done) stays;
      keeps = keeps;
    }

pub counts-first : {D : Type 0} {G : Ghosts D} (w v : Walker D G) (o p t u : Output) (stop : Stop) (taken : ℕ) (items : List ℕ) → items ≡ w.input.items
    → Steps w.debug v.debug (stands w.debug (drop w.used.input items) w.real o t) (stands v.debug (drop taken items) v.real p u) stop → is_done stop ≡ true → Counted taken v.real w v → v.furthest ≡ v.steps
    → Keeps w v → FirstStep w v o p t u stop
counts-first w v o p t u stop taken items same step done counted far keeps =
    record {
      taken = taken;
      step = same-input w v w.real v.real o p t u stop taken items same step;
      after = subst (λ b. AfterFirst b taken w v) (sym done) (counted, far);
      keeps = keeps;
    }

pub one-more : (n : ℕ) → n + 1 ≡ suc n
one-more n = omega arith

pub same-devices : (r s : Rack) → s ≡ r → Accounts r s
same-devices r s same = subst (Accounts r) (sym same) (accounts-none r)

-- again
pub again-step : {D : Type 0} {G : Ghosts D} (w v : Walker D G) (old new : Rack) (stop : Stop) (asked : Bool) (taken : ℕ) (items : List ℕ) → items ≡ w.input.items
    → AreAt ((run_of w).given) ((run_of w).here) old → length old.slots ≡ length w.real.slots
    → Steps w.debug v.debug (stands w.debug (drop w.used.input items) old nothing nothing) (stands v.debug (drop taken items) new nothing nothing) stop
    → AfterAgain (goes_on stop) asked taken new w v → v.real ≡ w.real → Keeps w v → AgainStep w v stop asked
again-step w v old new stop asked taken items same at count step after real keeps =
    record {
      old = old;
      new = new;
      taken = taken;
      at = at;
      count = count;
      step = same-input w v old new nothing nothing nothing nothing stop taken items same step;
      after = after;
      real = real;
      keeps = keeps;
    }

-- it ends the program
pub again-stays : {D : Type 0} {G : Ghosts D} (w v : Walker D G) (old new : Rack) (stop : Stop) (taken : ℕ) (items : List ℕ) → items ≡ w.input.items
    → AreAt ((run_of w).given) ((run_of w).here) old → length old.slots ≡ length w.real.slots
    → Steps w.debug v.debug (stands w.debug (drop w.used.input items) old nothing nothing) (stands v.debug (drop taken items) new nothing nothing) stop
    → goes_on stop ≡ false → Stays w v → v.real ≡ w.real → Keeps w v → AgainStep w v stop true
again-stays w v old new stop taken items same at count step off stays real keeps =
    again-step w v old new stop true taken items same at count step (subst (λ on. AfterAgain on true taken new w v) (sym off) (stays, refl)) real keeps

-- it goes on, by other asks
pub again-unlike : {D : Type 0} {G : Ghosts D} (w v : Walker D G) (old new : Rack) (stop : Stop) (taken : ℕ) (items : List ℕ) → items ≡ w.input.items
    → AreAt ((run_of w).given) ((run_of w).here) old → length old.slots ≡ length w.real.slots
    → Steps w.debug v.debug (stands w.debug (drop w.used.input items) old nothing nothing) (stands v.debug (drop taken items) new nothing nothing) stop
    → goes_on stop ≡ true → (IsFront new.journal w.real.journal → ⊥) → v.furthest ≡ w.furthest → v.real ≡ w.real → Keeps w v → AgainStep w v stop false
again-unlike w v old new stop taken items same at count step on unlike far real keeps =
    again-step w v old new stop false taken items same at count step (subst (λ on. AfterAgain on false taken new w v) (sym on) (unlike, far)) real keeps

-- it goes on, as before
pub again-counts : {D : Type 0} {G : Ghosts D} (w v : Walker D G) (old new : Rack) (stop : Stop) (taken : ℕ) (items : List ℕ) → items ≡ w.input.items
    → AreAt ((run_of w).given) ((run_of w).here) old → length old.slots ≡ length w.real.slots
    → Steps w.debug v.debug (stands w.debug (drop w.used.input items) old nothing nothing) (stands v.debug (drop taken items) new nothing nothing) stop
    → goes_on stop ≡ true → IsFront new.journal w.real.journal → Counted taken new w v → v.furthest ≡ w.furthest → v.real ≡ w.real → Keeps w v → AgainStep w v stop true
again-counts w v old new stop taken items same at count step on front counted far real keeps =
    again-step w v old new stop true taken items same at count step (subst (λ on. AfterAgain on true taken new w v) (sym on) (front, counted, far)) real keeps

-- devices that were made ready
pub at-prepared : {D : Type 0} {G : Ghosts D} (w : Walker D G) (old : Rack) (journal : List Asked) → journal ≡ w.real.journal → length w.replay.slots ≡ length w.real.slots
    → old.journal ≡ take w.used.asks journal → map is_some old.slots ≡ take (length w.replay.slots) w.used.held → AreAt ((run_of w).given) ((run_of w).here) old
at-prepared w old journal same slots asks held =
    record { journal = asks ∙ ap (take w.used.asks) same; slots = held ∙ ap (λ n. take n w.used.held) slots }
