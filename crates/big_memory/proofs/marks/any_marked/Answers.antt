use Rattle.std.proofs.Common.{inl, inr, arith, sym, ◌∙◌}
use Rattle.std.proofs.lemmas.Bool.{cases_lt}
use Rattle.big_memory.proofs.Packed.{length-marks, get_or-marks_clear, any_found, any_none}
use Rattle.big_memory.proofs.marks.any_marked.Goals as goal

pub bounds-guard-unit : goal.bounds-guard-unit
bounds-guard-unit c = omega (arith, length-marks c.args.guard.now)

pub loop-unit-preserved-then-guard-unit-eq0 : goal.loop-unit-preserved-then-guard-unit-eq0
loop-unit-preserved-then-guard-unit-eq0 c = record {
  begun = omega (arith, c.loop-unit.invariant.begun);
  clear = λ k from to.
      elim (cases_lt k c.loop-unit.unit) [
        | inl before ↦ c.loop-unit.invariant.clear k from before
        | inr after ↦ get_or-marks_clear c.args.guard.now c.loop-unit.unit k c.if-unit-eq0.true (omega arith) c.if-guard-unit-eq0.true after to
      ];
}

pub returns-then-is_marked : goal.returns-then-is_marked
returns-then-is_marked c =
    sym (any_found _ c.args.from c.args.to c.loop-unit.unit c.requires c.loop-unit.invariant.begun c.loop-unit-test.true (sym c.is_marked.ensures ∙ c.if-is_marked.true))

pub returns : goal.returns
returns c = sym (any_none _ c.args.from c.args.to c.requires (λ k from to. c.loop-unit.invariant.clear k from (omega (arith, to))))
