-- A new block may be filled.
use Rattle.std.proofs.Common.{rules, ◌≡◌, None}
use Rattle.std.proofs.lemmas.List.{length-replicate}
use Rattle.big_memory.specs.Memory.{refusal, filled}
use Rattle.toolbox.proofs.Free.{block_free, done}
use Rattle.toolbox.proofs.blocks.new_cleared_block.Goals as goal

pub unwrap-requires : goal.unwrap-requires
unwrap-requires c =
    let m = c.args.ram.now in
    let none : refusal m c.in-Some.address c.args.size ≡ None = block_free m c.args.heap.now c.args.size c.in-Some.address c.meets_invariant.ensures c.requires c.in-Some.ensures.place in
    let all = done _ m (filled m c.in-Some.address c.args.size) _ c.fill.result _ none c.fill.ensures in
    rw (all.0) (search rules)

pub returns-in-Some-clause-free : goal.returns-in-Some-clause-free
returns-in-Some-clause-free c =
    let m = c.args.ram.now in
    let none : refusal m c.in-Some.address c.args.size ≡ None = block_free m c.args.heap.now c.args.size c.in-Some.address c.meets_invariant.ensures c.requires c.in-Some.ensures.place in
    let all = done _ m (filled m c.in-Some.address c.args.size) _ c.fill.result _ none c.fill.ensures in
    rw (all.1) (c.laws.ensures.stores m c.in-Some.address c.args.size _ (length-replicate _ _) c.meets_invariant.ensures none)
