use Rattle.std.proofs.Common.{arith}
use Rattle.m68_movement.proofs.Stores.{first_of_refused, none_to_store, rest_of_stores}
use Rattle.m68_movement.proofs.along.+can_store_along.Goals as goal

pub returns-in-empty : goal.returns-in-empty
returns-in-empty t c = none_to_store _ _ _ _ _ _ c.args.fault.now (omega arith)

pub returns-then-can_store : goal.returns-then-can_store
returns-then-can_store t c =
    rest_of_stores _ _ _ _ _ _ _ c.can_store.new.fault _ (omega arith) c.if-can_store.ensures (rw c.onward.ensures at c.can_store_along.ensures)

pub returns-else-can_store : goal.returns-else-can_store
returns-else-can_store t c = rw c.if-can_store.false (first_of_refused _ _ _ _ _ _ _ (omega arith) c.if-can_store.ensures)
