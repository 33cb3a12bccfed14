use Rattle.std.proofs.Common.{◌≤◌, ◌<◌, arith, ◌∙◌}
use Rattle.std.proofs.lemmas.List.{length-set}
use Rattle.pef_head.specs.Places.{symbols_end, symbols_start}
use Rattle.pef_head.proofs.Marking.{held_below}
use Rattle.pef_head.proofs.Tables.{filled_end, filled_start, filled_step}
use Rattle.pef_head.proofs.table.fill.Goals as goal

pub loop-i-preserved : goal.loop-i-preserved
loop-i-preserved c =
    let low : symbols_start c.args.bytes.now c.args.l c.args.j ≤ c.loop-i.i = omega (arith, c.symbols_start-start.ensures, c.loop-i.auto.i) in
    let high : c.loop-i.i < symbols_end c.args.bytes.now c.args.l c.args.j = omega (arith, c.symbols_end.ensures, c.min-end.ensures, c.loop-i-test.true) in
    let inside : c.loop-i.i < c.args.l.symbols = omega (arith, c.min-end.ensures, c.loop-i-test.true) in
    record {
      filled = λ k lt. filled_step c.args.bytes.now c.args.l c.loop-i.table c.loop-i.i c.args.j k c.requires.owned c.requires.below c.loop-i.invariant.room low high inside lt (c.loop-i.invariant.filled k lt);
      room = length-set c.loop-i.table c.loop-i.i c.args.j ∙ c.loop-i.invariant.room;
    }

pub loop-i-init : goal.loop-i-init
loop-i-init c = record {
  filled = λ k lt. filled_start c.args.bytes.now c.args.l c.args.table.now c.args.j k c.symbols_start-start.result c.symbols_start-start.ensures (c.requires.filled k lt);
  room = c.requires.room;
}

pub returns-clause-filled : goal.returns-clause-filled
returns-clause-filled c = λ k lt. filled_end c.args.bytes.now c.args.l c.loop-i.table c.args.j k c.loop-i.i
    (λ has. omega (arith, lt, held_below c.args.bytes.now c.args.l k c.args.j has, c.symbols_end.ensures, c.min-end.ensures, c.loop-i-test.false)) (c.loop-i.invariant.filled k lt)

pub returns-clause-room : goal.returns-clause-room
returns-clause-room c = c.loop-i.invariant.room
