-- The first section that is refused is the least one.
use Rattle.std.proofs.Common.{◌≡◌, ◌∙◌, refl, ◌<◌, arith}
use Rattle.pef_head.specs.Container.{instantiated_count}
use Rattle.look_words.specs.inner.Unmade.{is_badly_relocated}
use Rattle.look_words.proofs.Firsts.{first_at, none_more, none_to}
use Rattle.look_words.proofs.unmade.first_refused.Goals as goal

pub loop-k-init : goal.loop-k-init
loop-k-init c = record { none = λ start. refl; len = refl }

pub is_badly_relocated-requires-clause-header : goal.is_badly_relocated-requires-clause-header
is_badly_relocated-requires-clause-header c =
    let below : c.loop-k.k < instantiated_count c.args.pef.now = omega (arith, c.loop-k-test.true, c.requires.below) in
    c.requires.headers c.loop-k.k below

pub is_badly_relocated-requires-clause-sizes : goal.is_badly_relocated-requires-clause-sizes
is_badly_relocated-requires-clause-sizes c = c.requires.sizes

pub returns-then-is_badly_relocated-clause-is : goal.returns-then-is_badly_relocated-clause-is
returns-then-is_badly_relocated-clause-is c start =
    first_at (is_badly_relocated c.args.pef.now start) c.args.count c.loop-k.k c.is_badly_relocated.result c.loop-k-test.true
    (c.loop-k.invariant.none start) (c.is_badly_relocated.ensures.is start) c.if-is_badly_relocated.true

pub loop-k-preserved : goal.loop-k-preserved
loop-k-preserved c = record {
  none = λ start.
      none_more (is_badly_relocated c.args.pef.now start) c.loop-k.k c.is_badly_relocated.result
      (c.loop-k.invariant.none start) (c.is_badly_relocated.ensures.is start) c.if-is_badly_relocated.false;
  len = c.is_badly_relocated.ensures.len ∙ c.loop-k.invariant.len;
}

pub returns-clause-is : goal.returns-clause-is
returns-clause-is c start =
    let same : c.loop-k.k ≡ c.args.count = omega (arith, c.loop-k.auto.k-end, c.loop-k-test.false) in
    none_to (is_badly_relocated c.args.pef.now start) c.loop-k.k c.args.count same (c.loop-k.invariant.none start)
