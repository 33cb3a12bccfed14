-- Laws of single steps: what a step may change beside the registers, the memory and what is around, and what no trap does.
use Rattle.std.specs.Prelude.{◌≡◌, ◌≢◌, ℕ, ◌⊎◌, true, List, ◌∷◌, Some}
use Rattle.host_heap.specs.Space.{Space}
use Rattle.host_heap.specs.Place.{begins_at, freed, place_for, taken}
use Rattle.switch_frame.specs.Records.{Record}
use Rattle.toolbox.specs.Functions.{trap_number}
use Rattle.toolbox.specs.Host.{Host, host}
use Rattle.toolbox.specs.Host.Hosted.{Crosses}
use Rattle.mixed_machine.specs.State.{State}
use Rattle.mixed_machine.specs.Next.{Next}
use Rattle.mixed_machine.specs.Next.Next.{Goes, Exits, Faults}
use Rattle.mixed_machine.specs.Step.{step}

-- the same callers, one more, or one less; it is always the innermost that comes or goes
abbrev pub CallersMove : List Record → List Record → Type 0
CallersMove old new = (new ≡ old) ⊎ (((r : Record) × (new ≡ r ∷ old)) ⊎ ((r : Record) × (old ≡ r ∷ new)))

-- the same heap, one with a block taken at the lowest place that fits, or one without a block that was there
abbrev pub HeapMoves : Space → Space → Type 0
HeapMoves old new =
    (new ≡ old) ⊎ (((size a : ℕ) × (place_for old size ≡ Some a) × (new ≡ taken old size)) ⊎ ((a : ℕ) × (begins_at old.blocks a ≡ true) × (new ≡ freed old a)))

-- a step from one state to another
pub record Kind (s t : State) : Type 0 where
  pub callers : CallersMove s.callers t.callers
  pub heap : HeapMoves s.heap t.heap
  pub main : t.main ≡ s.main
  pub a5 : t.a5 ≡ s.a5
  pub start_sp : t.start_sp ≡ s.start_sp

abbrev pub IsKind : State → Next → Type 0
IsKind s (Goes t effects) = Kind s t
IsKind s (Exits code) = Unit {0}
IsKind s (Faults fault) = Unit {0}

abbrev pub StepsAreKinds : Type 0
StepsAreKinds = (s : State) → IsKind s (step s)

-- the function that a trap word reaches never goes on into other code
abbrev pub TrapsNeverCross : Type 0
TrapsNeverCross = (word k pointer info : ℕ) (h : Host) → trap_number word ≡ Some k → host k h ≢ Crosses pointer info
