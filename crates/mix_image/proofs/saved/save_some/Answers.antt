use Rattle.std.proofs.Common.{◌≡◌, ◌+◌, ◌*◌, ◌<◌, ◌++◌, length, take, get_or, arith, ap, sym, ◌∙◌}
use Rattle.std.proofs.lemmas.List.{get_or_default}
use Rattle.std.specs.Int.{w32, to_be_bytes}
use Rattle.big_memory.specs.Numbers.{bytes_of_longs}
use Rattle.host_heap.specs.declared.block.Block.{Block}
use Rattle.mix_image.specs.Spelling.{block_longs}
use Rattle.mix_image.proofs.Saving.{block-put, blocks-piece, no-longs-bytes, two-longs-bytes}
use Rattle.mix_image.proofs.saved.save_some.Goals as goal

-- what the loop reads past the end
none : Block
none = record { address = 0; size = 0 }

pub each-init : goal.each-init
each-init g c = record { bytes = c.new-piece.ensures ∙ sym no-longs-bytes; size = ap length c.new-piece.ensures }

pub each-preserved : goal.each-preserved
unfolding none
each-preserved g c =
    let xs = c.args.blocks.now in
    let i = c.each.block-index in
    let less : c.each.block-index < length c.args.blocks.now = omega arith in
    let b = get_or xs i none in
    let same : get_or c.args.blocks.now c.each.block-index none ≡ get_or c.args.blocks.now c.each.block-index (get_or c.args.blocks.now c.each.block-index none) = get_or_default _ _ none _ less in
    let before = bytes_of_longs (block_longs (take i xs)) in
    let address = to_be_bytes w32 b.address in
    let size = to_be_bytes w32 b.size in
    let next : 4 * (2 * c.each.block-index) + 4 + 4 ≡ 4 * (2 * (c.each.block-index + 1)) = omega arith in
    record {
      bytes =
          c.put_long-in-each.ensures.is ∙ ap (λ l. l ++ size) (c.put_long.ensures.is ∙ ap (λ l. l ++ address) c.each.invariant.bytes)
          ∙ block-put before address size ∙ ap (λ l. before ++ l) (sym (two-longs-bytes b.address b.size)) ∙ blocks-piece xs i b less same;
      size = c.put_long-in-each.ensures.longer ∙ ap (λ n. n + 4) (c.put_long.ensures.longer ∙ ap (λ n. n + 4) c.each.invariant.size) ∙ next;
    }
