-- One step back after the other.
use Rattle.std.proofs.Common.{arith}
use Rattle.mix_top.proofs.Walking.{backing-begins, backing-ends, backing-on, backing-stays}
use Rattle.mix_top.proofs.walk.walk_back.Goals as goal

pub taken-init : goal.taken-init
taken-init c = record { few = omega arith; backing = λ around. backing-begins _ _ }

pub taken-preserved : goal.taken-preserved
taken-preserved c =
    record {
      few = omega arith;
      backing = λ around. backing-on _ c.taken.done _ _ _ around c.back.result c.taken-test.true c.if-not-back.false c.back.ensures.back (c.taken.invariant.backing around);
    }

pub returns-then-not-back : goal.returns-then-not-back
returns-then-not-back c = λ around. backing-stays _ c.taken.done _ _ _ around c.back.result c.taken-test.true c.if-not-back.true c.back.ensures.back (c.taken.invariant.backing around)

pub returns : goal.returns
returns c = λ around. backing-ends _ c.taken.done _ _ c.taken-test.false (c.taken.invariant.backing around)
