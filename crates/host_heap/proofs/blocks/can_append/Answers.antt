use Rattle.std.proofs.Common.{◌∙◌, sym, ap}
use Rattle.host_heap.specs.Space.{Space}
use Rattle.host_heap.specs.laws.Place.{may_follow}
use Rattle.host_heap.proofs.Appending.{last_tells}
use Rattle.host_heap.proofs.blocks.can_append.Goals as goal

pub returns-then-blocks-lt-BLOCK_LIMIT : goal.returns-then-blocks-lt-BLOCK_LIMIT
returns-then-blocks-lt-BLOCK_LIMIT c =
    let s : Space = record { low = c.args.low; high = c.args.high; blocks = c.args.blocks.now } in
    c.may_follow.ensures ∙ ap (λ e. may_follow e c.args.high c.args.size c.args.address) c.last_end.ensures
    ∙ sym (last_tells s c.args.size c.args.address c.requires c.if-blocks-lt-BLOCK_LIMIT.true)
