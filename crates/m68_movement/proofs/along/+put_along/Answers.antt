use Rattle.std.proofs.Common.{◌∙◌, arith, rules}
use Rattle.m68_movement.proofs.Stores.{after_first, none_done, not_refused}
use Rattle.m68_movement.proofs.along.+put_along.Goals as goal

pub put_along-requires : goal.put_along-requires
put_along-requires t c =
    let next = after_first c.args.pc c.args.ram.now c.store.new.ram c.args.a c.args.step c.args.size c.args.values.now (omega arith) c.if-store.ensures.0 in
    let left = rw next at c.requires in
    (search rules, rw c.onward.ensures left)

pub returns-in-empty-clause-done : goal.returns-in-empty-clause-done
returns-in-empty-clause-done t c = none_done _ _ _ _ _ _ (omega arith)

pub returns-then-store-clause-done : goal.returns-then-store-clause-done
returns-then-store-clause-done t c =
    after_first c.args.pc c.args.ram.now c.store.new.ram c.args.a c.args.step c.args.size c.args.values.now (omega arith) c.if-store.ensures.0
    ∙ rw c.onward.ensures at c.put_along.ensures.done

pub returns-else-store : goal.returns-else-store
returns-else-store t c =
    absurd (not_refused c.args.pc c.args.ram.now c.args.a c.args.step c.args.size c.args.values.now _ (omega arith) c.if-store.ensures.0 c.requires)
