use Rattle.std.proofs.Common.{◌∙◌, arith}
use Rattle.std.proofs.lemmas.Result.{err_from_is_err_and}
use Rattle.pef_reloc.specs.Additions.{turn_of}
use Rattle.pef_reloc.specs.inner.Held.{sources_of, state_of}
use Rattle.pef_reloc.proofs.Sequences.{turn_ok, turn_err}
use Rattle.pef_reloc.proofs.additions.take_turns.Goals as goal

pub returns-in_err-take_turn-clause-is : goal.returns-in_err-take_turn-clause-is
returns-in_err-take_turn-clause-is c =
    let p = err_from_is_err_and c.from_residual.result c.from_residual.ensures.1 in
    rw (p.1, p.2) (turn_err (sources_of c.args.target) (turn_of c.args.turn) c.args.count c.loop-turn._turn (state_of c.args.target c.loop-turn.ram c.loop-turn.cursor) _ c.loop-turn-test.true
    c.in_err-take_turn.ensures.is ∙ c.loop-turn.invariant.same)

pub loop-turn-preserved : goal.loop-turn-preserved
loop-turn-preserved c = record {
  same = turn_ok (sources_of c.args.target) (turn_of c.args.turn) c.args.count c.loop-turn._turn (state_of c.args.target c.loop-turn.ram c.loop-turn.cursor)
      (state_of c.args.target c.take_turn.new.ram c.take_turn.new.cursor) c.loop-turn-test.true c.in_ok-take_turn.ensures.is ∙ c.loop-turn.invariant.same;
  outside = c.in_ok-take_turn.ensures.outside ∙ c.loop-turn.invariant.outside;
  len = c.in_ok-take_turn.ensures.len ∙ c.loop-turn.invariant.len;
  left = c.in_ok-take_turn.ensures.left ∙ c.loop-turn.invariant.left;
  over = c.in_ok-take_turn.ensures.over ∙ c.loop-turn.invariant.over;
  bound = omega (arith, c.in_ok-take_turn.ensures.bound);
}
