-- A block that may stand behind all others goes in there.
use Rattle.std.proofs.Common.{sym, ◌∙◌, arith}
use Rattle.std.proofs.lemmas.Bool.{and_parts}
use Rattle.host_heap.specs.Space.{Space}
use Rattle.host_heap.specs.Place.{can_place, is_behind}
use Rattle.host_heap.proofs.Fits.{CanPlace-from_test}
use Rattle.host_heap.proofs.Keeps.{IsSound-placed, none_begins}
use Rattle.host_heap.proofs.heap.Heap.append.Goals as goal

pub add-requires-clause-apart : goal.add-requires-clause-apart
add-requires-clause-apart c =
    let s : Space = record { low = c.self.inside.low; high = c.self.inside.high; blocks = c.self.inside.blocks.items } in
    let passes = rw c.deref.ensures.value at (sym c.can_append-possible.ensures ∙ c.if-possible.true) in
    let parts = and_parts (is_behind s.blocks c.args.a) (can_place s c.args.size c.args.a) passes in
    let can = CanPlace-from_test s c.args.size c.args.a parts.1 in
    none_begins s c.args.size c.args.a c.self.invariant.0 can.least can.room

pub invariant_of-self : goal.invariant_of-self
invariant_of-self c =
    let s : Space = record { low = c.self.inside.low; high = c.self.inside.high; blocks = c.self.inside.blocks.items } in
    let passes = rw c.deref.ensures.value at (sym c.can_append-possible.ensures ∙ c.if-possible.true) in
    let parts = and_parts (is_behind s.blocks c.args.a) (can_place s c.args.size c.args.a) passes in
    (rw c.add.ensures.items (IsSound-placed s c.args.size c.args.a c.self.invariant.0 (CanPlace-from_test s c.args.size c.args.a parts.1)), omega arith)
