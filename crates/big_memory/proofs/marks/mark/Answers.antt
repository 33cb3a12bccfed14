use Rattle.std.proofs.Common.{◌≡◌, ◌+◌, ◌-◌, ◌*◌, ◌/◌, ◌%◌, replicate, arith, ap, ◌∙◌}
use Rattle.big_memory.specs.Lists.{put}
use Rattle.big_memory.specs.Marks.{marks_of}
use Rattle.big_memory.proofs.Packed.{length-marks, put-runs}
use Rattle.big_memory.proofs.marks.mark.Goals as goal

pub mark_run-requires-clause-index : goal.mark_run-requires-clause-index
mark_run-requires-clause-index c = omega (arith, length-marks c.args.guard.now, c.loop-unit.auto.guard)

pub loop-unit-preserved : goal.loop-unit-preserved
loop-unit-preserved c =
    let from = c.args.from in
    let unit = c.loop-unit.unit in
    let done = unit - from in
    let more = c.min-end.result - unit % 32 in
    let marks = marks_of c.args.guard.now in
    let place : 32 * (unit / 32) + unit % 32 ≡ unit = omega arith in
    let all : done + more ≡ unit + more - from = omega (arith, c.loop-unit.invariant.begun) in
    let step : unit % 32 + (c.args.to - unit) ≡ unit % 32 + (c.args.to - unit) = omega arith in
    record {
      begun = omega (arith, c.loop-unit.invariant.begun);
      before = omega (arith, c.loop-unit-test.true, c.min-end.ensures);
      marks =
          c.mark_run.ensures
          ∙ ap (λ p. put p (replicate more c.args.on) (marks_of c.loop-unit.guard)) place
          ∙ ap (put unit (replicate more c.args.on)) c.loop-unit.invariant.marks
          ∙ put-runs from done more unit c.args.on marks (omega (arith, c.loop-unit.invariant.begun)) (omega (arith, c.loop-unit-test.true, c.min-end.ensures, c.requires.within))
          ∙ ap (λ n. put from (replicate n c.args.on) marks) all;
    }
