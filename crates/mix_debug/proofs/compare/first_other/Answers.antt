use Rattle.std.proofs.Common.{◌∙◌, sym, arith}
use Rattle.host_heap.specs.declared.block.Block.{Block}
use Rattle.mix_debug.proofs.Blocks.{first-apart, first-end, first-none, first-step}
use Rattle.mix_debug.proofs.compare.first_other.Goals as goal

pub same-preserved : goal.same-preserved
same-preserved c =
    let d : Block = record { address = 0; size = 0 } in
    record {
      within = omega (arith, c.same-test.true);
      rest = sym (first-step c.same.at c.args.blocks.now c.args.others.now d c.same-test.true c.if-others-at.false c.if-blocks-at.false) ∙ c.same.invariant.rest;
    }

pub returns-then-others-at : goal.returns-then-others-at
returns-then-others-at c =
    first-end c.same.at c.args.blocks.now c.args.others.now (record { address = 0; size = 0 }) c.same-test.true c.if-others-at.true ∙ c.same.invariant.rest

pub returns-then-blocks-at : goal.returns-then-blocks-at
returns-then-blocks-at c =
    first-apart c.same.at c.args.blocks.now c.args.others.now (record { address = 0; size = 0 }) c.same-test.true c.if-others-at.false c.if-blocks-at.true ∙ c.same.invariant.rest

pub returns : goal.returns
returns c = first-none c.same.at c.args.blocks.now c.args.others.now c.same-test.false ∙ c.same.invariant.rest
