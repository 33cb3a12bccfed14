-- One more range was seen.
use Rattle.std.proofs.Common.{◌∙◌, ◌<◌, arith, length}
use Rattle.std.proofs.Math.Seq.{map-set_same}
use Rattle.gdb_steps.specs.Points.{range_of}
use Rattle.gdb_steps.specs.inner.Looks.{HasSeen}
use Rattle.gdb_steps.proofs.Looking.{seen-more}
use Rattle.gdb_steps.proofs.watches.Watches.look.Goals as goal

pub loop-watch-preserved : goal.loop-watch-preserved
loop-watch-preserved c =
    let few : c.loop-watch.watch-index < length c.loop-watch.watch-items = omega arith in (
      map-set_same range_of c.loop-watch.watch-items c.loop-watch.watch-index c.look.new.self c.watch-item.result c.look.ensures.range ∙ c.loop-watch.invariant.0,
      seen-more (HasSeen c.args.ram.now) c.loop-watch.watch-items c.loop-watch.watch-index c.look.new.self few c.look.ensures.seen c.loop-watch.invariant.1,
    )
