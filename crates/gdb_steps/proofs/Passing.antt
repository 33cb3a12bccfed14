-- A step that is done again, and what would stop a walk back over it.
use Rattle.std.proofs.Common.{◌≡◌, ℕ, suc, ◌==◌, Bool, List, All, map, Option, Some, if◌then◌else◌, sym, ap, ◌∙◌, subst}
use Rattle.std.specs.List.{list_any}
use Rattle.mix_bits.specs.declared.isa.Isa.{Isa}
use Rattle.switch_frame.specs.Files.{pc_of}
use Rattle.switch_frame.specs.Records.{isa_of}
use Rattle.mix_engine.specs.declared.machine.Machine.{Machine}
use Rattle.mix_debug.specs.Machines.{IsSound}
use Rattle.dev_rack.specs.declared.devices.Devices.{Ghosts}
use Rattle.gdb_steps.specs.Places.{IsPlace, Run}
use Rattle.gdb_steps.specs.Points.{first_changed, halt_at, halt_by, range_of}
use Rattle.gdb_steps.specs.Walkers.{points_of, run_of}
use Rattle.gdb_steps.specs.WalkersClauses.{Moved}
use Rattle.gdb_steps.specs.declared.halt.Halt.{Halt}
use Rattle.gdb_steps.specs.declared.halt.Halt.TheVariants.{Breakpoint}
use Rattle.gdb_steps.specs.declared.halt.Until.{Until}
use Rattle.gdb_steps.specs.declared.walker.Walker.{Walker}
use Rattle.gdb_steps.specs.declared.watch.Watch.{Watch}
use Rattle.gdb_steps.specs.inner.Backing.{Passed}
use Rattle.gdb_steps.specs.inner.Looks.{HasSeen, first_unlike}
use Rattle.gdb_steps.specs.inner.Onces.{Keeps}
use Rattle.gdb_steps.proofs.Backing.{given-place, stops-or}
use Rattle.gdb_steps.proofs.Backward.{stops-between}
use Rattle.gdb_steps.proofs.Halting.{changed-either, plain-some, unlike-changed}
use Rattle.gdb_steps.proofs.Stepwise.{looked-points, looked-run}

-- what was tested at the place in front of the step, and behind it
pub record Tested {D : Type 0} {G : Ghosts D} (until : Until) (k v : Walker D G) (m : Machine) (bytes : List ℕ) (halt : Option Halt) : Type 0 where
  pub is_break : Bool
  pub set : Isa
  pub changed : Option ℕ
  pub machine : m ≡ k.debug.machine
  pub ram : bytes ≡ v.debug.machine.body.ram.bytes
  pub break_is : is_break ≡ list_any (λ b. b == pc_of m.active) k.breakpoints
  pub set_is : set ≡ isa_of m.active
  pub changed_is : changed ≡ first_unlike v.watches bytes
  pub halt_is : halt ≡ (if is_break then Some Breakpoint else halt_by until set changed)

changed-back : {D : Type 0} {G : Ghosts D} (k v : Walker D G) (bytes : List ℕ) → v.watches ≡ k.watches → All (HasSeen k.debug.machine.body.ram.bytes) k.watches → bytes ≡ v.debug.machine.body.ram.bytes
    → first_unlike v.watches bytes ≡ first_changed (map range_of k.watches) v.debug.machine.body.ram.bytes k.debug.machine.body.ram.bytes
changed-back k v bytes same seen ram =
    ap (first_unlike v.watches) ram
    ∙ (ap (λ (ws : List Watch). first_unlike ws v.debug.machine.body.ram.bytes) same
    ∙ (unlike-changed k.debug.machine.body.ram.bytes v.debug.machine.body.ram.bytes k.watches seen
    ∙ changed-either (map range_of k.watches) k.debug.machine.body.ram.bytes v.debug.machine.body.ram.bytes))

tested-back : {D : Type 0} {G : Ghosts D} (until : Until) (k v : Walker D G) (m : Machine) (bytes : List ℕ) (halt : Option Halt) → Keeps k v → All (HasSeen k.debug.machine.body.ram.bytes) k.watches
    → Tested until k v m bytes halt → halt_at (points_of k) until v.debug.machine.body.ram.bytes k.debug.machine.body.ram.bytes k.debug.machine.active ≡ halt
tested-back until k v m bytes halt keeps seen tested =
    let set : tested.set ≡ isa_of k.debug.machine.active = tested.set_is ∙ ap (λ (x : Machine). isa_of x.active) tested.machine in
    let is_break : tested.is_break ≡ list_any (λ b. b == pc_of k.debug.machine.active) k.breakpoints = tested.break_is ∙ ap (λ (x : Machine). list_any (λ b. b == pc_of x.active) k.breakpoints) tested.machine in
    let changed = tested.changed_is ∙ changed-back k v bytes keeps.watches seen tested.ram in
    sym (tested.halt_is
    ∙ (ap (λ (b : Bool). if b then Some Breakpoint else halt_by until tested.set tested.changed) is_break
    ∙ (ap (λ (s : Isa). if list_any (λ b. b == pc_of k.debug.machine.active) k.breakpoints then Some Breakpoint else halt_by until s tested.changed) set
    ∙ ap (λ (o : Option ℕ). if list_any (λ b. b == pc_of k.debug.machine.active) k.breakpoints then Some Breakpoint else halt_by until (isa_of k.debug.machine.active) o) changed)))

passed-there : {D : Type 0} {G : Ghosts D} (until : Until) (k v : Walker D G) (m : Machine) (bytes : List ℕ) (halt : Option Halt) → Keeps k v → All (HasSeen k.debug.machine.body.ram.bytes) k.watches
    → IsSound k.debug.machine → IsSound v.debug.machine → Moved (run_of k) (run_of v) → v.steps ≡ suc k.steps → Tested until k v m bytes halt → Passed (points_of k) until (run_of k) (run_of v) halt
passed-there until k v m bytes halt keeps seen old new moved one tested =
    record {
      moved = moved;
      steps = one;
      stops = λ b is.
          stops-or b (points_of k) until (run_of k).given k.steps halt (plain-some tested.is_break until tested.set tested.changed halt tested.halt_is)
          (stops-between b (points_of k) until (run_of k).given k.steps (run_of k).here (run_of v).here halt is.here
          (subst (λ n. IsPlace b (run_of k).given n (run_of v).here) one (given-place b (run_of k) (run_of v) moved (moved.run b is))) old new (tested-back until k v m bytes halt keeps seen tested));
    }

pub passed : {D : Type 0} {G : Ghosts D} (until : Until) (w k v : Walker D G) (m : Machine) (bytes : List ℕ) (halt : Option Halt) → k ≡ record w { watches = k.watches } → map range_of k.watches ≡ map range_of w.watches
    → Keeps k v → All (HasSeen k.debug.machine.body.ram.bytes) k.watches → IsSound k.debug.machine → IsSound v.debug.machine → Moved (run_of k) (run_of v) → v.steps ≡ suc k.steps → Tested until k v m bytes halt
    → Passed (points_of w) until (run_of w) (run_of v) halt
passed until w k v m bytes halt beside ranges keeps seen old new moved one tested =
    subst (λ p. Passed p until (run_of w) (run_of v) halt) (looked-points w k beside ranges)
    (subst (λ (r : Run). Passed (points_of k) until r (run_of v) halt) (looked-run w k beside) (passed-there until k v m bytes halt keeps seen old new moved one tested))
