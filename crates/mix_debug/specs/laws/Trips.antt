-- Lists of steps forward and back.
use Rattle.std.specs.Prelude.{◌≡◌, ℕ, zero, suc, ◌+◌, ◌<◌, ◌≤◌, true, false, List, [], ◌∷◌, length, map, take, Option, Some, None}
use Rattle.mix_engine.specs.declared.machine.Machine.{Machine}
use Rattle.mix_debug.specs.CostsClauses.{Kept, fitting}
use Rattle.mix_debug.specs.TrailsClauses.{Keeps, TakesBack, Trail}

-- what a step forward or back came to: it is done, and led to a machine; it is not done; one is taken back; none is kept
pub data Event : Type 0 where
  Did : (to : Machine) → Event
  Stood : Event
  Undid : Event
  Stayed : Event

-- a call that came to this led from one debugger to another
abbrev pub Leads : Event → Trail → Trail → Type 0
Leads (Did to) a b = Keeps true a b × (b.machine ≡ to)
Leads Stood a b = Keeps false a b
Leads Undid a b = TakesBack true a.kept a b
Leads Stayed a b = TakesBack false a.kept a b

-- any list of such calls, one after the other
abbrev pub Walked : List Event → Trail → Trail → Type 0
Walked [] a b = (b.machine ≡ a.machine) × (b.kept ≡ a.kept)
Walked (e ∷ es) a b = (m : Trail) × Leads e a m × Walked es m b

-- the machine behind a list of calls that begins with a machine, and with the machines before the steps that are done and
-- not taken back, the newest first: a step back gives the machine before the newest of these
unfoldable pub behind : List Event → Machine → List Machine → Machine
behind [] m before = m
behind (Did to ∷ es) m before = behind es to (m ∷ before)
behind (Stood ∷ es) m before = behind es m before
behind (Undid ∷ es) m [] = m
behind (Undid ∷ es) m (k ∷ before) = behind es k before
behind (Stayed ∷ es) m before = behind es m before

-- any list of calls leads to that machine, in every byte, mark, register, frame and block
abbrev pub ListsLead : Type 0
ListsLead = (es : List Event) (a b : Trail) → Walked es a b → b.machine ≡ behind es a.machine (map (λ (k : Kept). k.machine) a.kept)

-- how many steps of a list stay done, with so many before it; None where more are taken back
unfoldable pub standing : List Event → ℕ → Option ℕ
standing [] n = Some n
standing (Did to ∷ es) n = standing es (suc n)
standing (Stood ∷ es) n = standing es n
standing (Undid ∷ es) zero = None
standing (Undid ∷ es) (suc n) = standing es n
standing (Stayed ∷ es) n = standing es n

-- any list that takes back each step that it did, and no other, leaves the machine as it was
abbrev pub TripsReturn : Type 0
TripsReturn = (es : List Event) (a b : Trail) → Walked es a b → standing es 0 ≡ Some 0 → b.machine ≡ a.machine

-- how many bytes of history machines take
unfoldable pub costs : List Kept → ℕ
costs [] = 0
costs (k ∷ ks) = k.cost + costs ks

-- those for which there is room: a beginning that fits, and each longer one does not
pub record IsLongest (room : ℕ) (all kept : List Kept) : Type 0 where
  pub beginning : kept ≡ take (length kept) all
  pub fits : costs kept ≤ room
  pub longest : (n : ℕ) → length kept < n → n ≤ length all → room < costs (take n all)

abbrev pub FittingIsLongest : Type 0
FittingIsLongest = (room : ℕ) (all : List Kept) → IsLongest room all (fitting room all)
