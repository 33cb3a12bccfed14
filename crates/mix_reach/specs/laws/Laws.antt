-- What a step of a whole machine leaves of its memory.
use Rattle.std.specs.Prelude.{◌≡◌, ◌⊎◌, ℕ, Some}
use Rattle.host_heap.specs.Space.{Space}
use Rattle.host_heap.specs.Place.{freed, place_for, taken}
use Rattle.switch_frame.specs.declared.active.Active.{Active}
use Rattle.switch_frame.specs.Records.{isa_of}
use Rattle.toolbox.specs.Effects.{Around}
use Rattle.mixed_machine.specs.declared.body.Body.{Body}
use Rattle.mixed_machine.specs.Exec.{GoesTo}
use Rattle.mixed_machine.specs.Machine.{IsWhole, flat}
use Rattle.mixed_machine.specs.Step.{step}
use Rattle.mix_reach.specs.declared.reach.Reach.{Reach}
use Rattle.mix_reach.specs.laws.Ranges.{Beside, range}
use Rattle.mix_reach.specs.laws.Steps.{next_stores, reach}

-- no block was made: the heap is the same, or without one
abbrev pub MakesNone : Space → Space → Type 0
MakesNone old new = (new ≡ old) ⊎ ((a : ℕ) × (new ≡ freed old a))

-- no block was made, and all that was stored lies in a range
pub record StoredIn (w : Reach) (b c : Body) : Type 0 where
  pub heap : MakesNone b.heap c.heap
  pub beside : Beside w b.ram.bytes c.ram.bytes

-- a block was made, and all that was stored lies in so many bytes of it
pub record StoredInBlock (filled : ℕ) (b c : Body) : Type 0 where
  pub size : ℕ
  pub place : ℕ
  pub found : place_for b.heap size ≡ Some place
  pub made : c.heap ≡ taken b.heap size
  pub beside : Beside (range place filled) b.ram.bytes c.ram.bytes

-- a step from a whole machine to another stores where it is told, or in a block that it makes
abbrev pub StoresWhereTold : Type 0
StoresWhereTold =
    (b c : Body) (old new : Active) (r q : Around) → IsWhole b (isa_of old) → IsWhole c (isa_of new) → GoesTo (step (flat b old r)) (flat c new q)
    → StoredIn (reach (next_stores b.ram old) b.top c.top new) b c ⊎ StoredInBlock (next_stores b.ram old).filled b c
