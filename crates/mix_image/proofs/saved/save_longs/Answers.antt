use Rattle.std.proofs.Common.{◌≡◌, ◌+◌, ◌*◌, ◌<◌, ◌++◌, length, get_or, arith, ap, sym, ◌∙◌}
use Rattle.std.specs.Int.{w32, to_be_bytes}
use Rattle.mix_image.proofs.Saving.{longs-more, no-longs-bytes}
use Rattle.mix_image.proofs.saved.save_longs.Goals as goal

pub each-init : goal.each-init
each-init g c = record { bytes = c.new-piece.ensures ∙ sym no-longs-bytes; size = ap length c.new-piece.ensures }

pub each-preserved : goal.each-preserved
each-preserved g c =
    let xs = c.args.longs.now in
    let i = c.each.long-index in
    let less : c.each.long-index < length c.args.longs.now = omega arith in
    let next : 4 * c.each.long-index + 4 ≡ 4 * (c.each.long-index + 1) = omega arith in
    record {
      bytes = c.put_long.ensures.is ∙ ap (λ l. l ++ to_be_bytes w32 (get_or xs i 0)) c.each.invariant.bytes ∙ longs-more xs i less;
      size = c.put_long.ensures.longer ∙ ap (λ n. n + 4) c.each.invariant.size ∙ next;
    }
