-- A block that may be placed goes in beside the others.
use Rattle.std.proofs.Common.{sym, ◌∙◌, ◌≡◌, true, arith}
use Rattle.host_heap.specs.Space.{Space}
use Rattle.host_heap.specs.Place.{can_place}
use Rattle.host_heap.proofs.Fits.{CanPlace-from_test}
use Rattle.host_heap.proofs.Keeps.{IsSound-placed, none_begins}
use Rattle.host_heap.proofs.heap.Heap.place.Goals as goal

pub add-requires-clause-apart : goal.add-requires-clause-apart
add-requires-clause-apart c =
    let s : Space = record { low = c.self.inside.low; high = c.self.inside.high; blocks = c.self.inside.blocks.items } in
    let passes : can_place s c.args.size c.args.a ≡ true = rw c.deref.ensures.value at (sym c.can_place-possible.ensures ∙ c.if-possible.true) in
    let can = CanPlace-from_test s c.args.size c.args.a passes in
    none_begins s c.args.size c.args.a c.self.invariant.0 can.least can.room

pub invariant_of-self : goal.invariant_of-self
invariant_of-self c =
    let s : Space = record { low = c.self.inside.low; high = c.self.inside.high; blocks = c.self.inside.blocks.items } in
    let passes : can_place s c.args.size c.args.a ≡ true = rw c.deref.ensures.value at (sym c.can_place-possible.ensures ∙ c.if-possible.true) in
    (rw c.add.ensures.items (IsSound-placed s c.args.size c.args.a c.self.invariant.0 (CanPlace-from_test s c.args.size c.args.a passes)), omega arith)

pub returns-then-possible-clause-within : goal.returns-then-possible-clause-within
returns-then-possible-clause-within c =
    let s : Space = record { low = c.self.inside.low; high = c.self.inside.high; blocks = c.self.inside.blocks.items } in
    let passes : can_place s c.args.size c.args.a ≡ true = rw c.deref.ensures.value at (sym c.can_place-possible.ensures ∙ c.if-possible.true) in
    let below = (CanPlace-from_test s c.args.size c.args.a passes).room.below in omega arith
