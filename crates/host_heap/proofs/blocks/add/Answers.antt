use Rattle.std.proofs.Common.{◌∙◌, ltb, arith, rules}
use Rattle.std.proofs.lemmas.Bool.{ltb-true, ltb-false, lt-ltb, le-ltb}
use Rattle.std.proofs.lemmas.List.Sorted.{IsPartitionPoint-from_clause, IsPartitionedBy-ltb}
use Rattle.host_heap.specs.declared.block.Block.{Block}
use Rattle.host_heap.proofs.Order.{insert-filters}
use Rattle.host_heap.proofs.blocks.add.Goals as goal

pub returns-clause-items : goal.returns-clause-items
returns-clause-items c =
    let parted = IsPartitionedBy-ltb (λ (b : Block). b.address) _ c.args.block.address c.requires.order in
    let clause = rw c.deref.ensures.value at c.partition_point-index.ensures.partitioned in
    let point = IsPartitionPoint-from_clause (λ (b : Block). ltb b.address c.args.block.address) _ _ clause parted (λ a r q k. search rules) in
    c.put_in.ensures.items ∙ insert-filters (λ (b : Block). ltb b.address c.args.block.address) (λ (b : Block). ltb c.args.block.address b.address)
    (λ b e. let l = ltb-true b.address c.args.block.address e in le-ltb c.args.block.address b.address (omega arith))
    _ _ _
    (λ k d l e. let m = ltb-false _ c.args.block.address e in let n = c.requires.apart k d l in lt-ltb c.args.block.address _ (omega arith))
    point
