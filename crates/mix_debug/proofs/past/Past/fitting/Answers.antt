use Rattle.std.proofs.Common.{◌≡◌, ◌+◌, ◌-◌, ◌∙◌, ap, subst, sym, arith}
use Rattle.std.specs.Option.{option_copied}
use Rattle.mix_debug.specs.Entries.{head_cost}
use Rattle.mix_debug.proofs.Holding.{at-held, counts-end, counts-stop, none-left, number-few}
use Rattle.mix_debug.proofs.Rooms.{Walk, walk-begins, walk-on, walk-small}
use Rattle.mix_debug.proofs.past.Past.fitting.Goals as goal

pub steps-init : goal.steps-init
steps-init c = λ past. subst (λ n. Walk 1048576 past.all 0 n 0 0) (sym c.from-left.ensures) (walk-begins 1048576 past.all)

pub overflow_add-spans : goal.overflow_add-spans
overflow_add-spans c = let small = walk-small 1048576 c.requires.all c.steps.steps c.steps.left c.steps.spans c.steps.olds c.requires.spelled.counted (c.steps.invariant c.requires) in omega (arith, small)

pub overflow_add-olds : goal.overflow_add-olds
overflow_add-olds c = let small = walk-small 1048576 c.requires.all c.steps.steps c.steps.left c.steps.spans c.steps.olds c.requires.spelled.counted (c.steps.invariant c.requires) in omega (arith, small)

pub overflow_add-steps : goal.overflow_add-steps
overflow_add-steps c =
    let few = number-few c.args.self.now c.requires c.steps.steps c.in-Some.head.now (sym c.get.ensures ∙ ap option_copied c.in-Some.is) in
    omega (arith, few)

pub steps-smaller : goal.steps-smaller
steps-smaller c =
    let few = number-few c.args.self.now c.requires c.steps.steps c.in-Some.head.now (sym c.get.ensures ∙ ap option_copied c.in-Some.is) in
    omega (arith, few)

pub steps-preserved : goal.steps-preserved
steps-preserved c = λ past.
    let cost : c.cost-cost.result ≡ head_cost c.in-Some.head.now = c.cost-cost.ensures in
    subst (λ n. Walk 1048576 past.all (c.steps.steps + 1) (c.steps.left - n) (c.steps.spans + c.in-Some.head.now.runs) (c.steps.olds + c.in-Some.head.now.olds)) (sym cost)
    (walk-on 1048576 past.all c.steps.steps c.steps.left c.steps.spans c.steps.olds c.in-Some.head.now past.spelled.counted (c.steps.invariant past)
    (at-held c.args.self.now past c.steps.steps c.in-Some.head.now (sym c.get.ensures ∙ ap option_copied c.in-Some.is)) (omega (arith, cost, c.if-cost-left.false)))

pub returns-then-cost-left-clause-steps : goal.returns-then-cost-left-clause-steps
returns-then-cost-left-clause-steps c =
    let cost : c.cost-cost.result ≡ head_cost c.in-Some.head.now = c.cost-cost.ensures in
    (counts-stop c.args.self.now c.requires c.steps.steps c.steps.left c.steps.spans c.steps.olds c.in-Some.head.now (c.steps.invariant c.requires) (sym c.get.ensures ∙ ap option_copied c.in-Some.is) (omega (arith, cost, c.if-cost-left.true))).steps_are

pub returns-then-cost-left-clause-spans : goal.returns-then-cost-left-clause-spans
returns-then-cost-left-clause-spans c =
    let cost : c.cost-cost.result ≡ head_cost c.in-Some.head.now = c.cost-cost.ensures in
    (counts-stop c.args.self.now c.requires c.steps.steps c.steps.left c.steps.spans c.steps.olds c.in-Some.head.now (c.steps.invariant c.requires) (sym c.get.ensures ∙ ap option_copied c.in-Some.is) (omega (arith, cost, c.if-cost-left.true))).spans_are

pub returns-then-cost-left-clause-olds : goal.returns-then-cost-left-clause-olds
returns-then-cost-left-clause-olds c =
    let cost : c.cost-cost.result ≡ head_cost c.in-Some.head.now = c.cost-cost.ensures in
    (counts-stop c.args.self.now c.requires c.steps.steps c.steps.left c.steps.spans c.steps.olds c.in-Some.head.now (c.steps.invariant c.requires) (sym c.get.ensures ∙ ap option_copied c.in-Some.is) (omega (arith, cost, c.if-cost-left.true))).olds_are

pub returns-then-cost-left-clause-few : goal.returns-then-cost-left-clause-few
returns-then-cost-left-clause-few c =
    let cost : c.cost-cost.result ≡ head_cost c.in-Some.head.now = c.cost-cost.ensures in
    (counts-stop c.args.self.now c.requires c.steps.steps c.steps.left c.steps.spans c.steps.olds c.in-Some.head.now (c.steps.invariant c.requires) (sym c.get.ensures ∙ ap option_copied c.in-Some.is) (omega (arith, cost, c.if-cost-left.true))).few

pub returns : goal.returns
returns c =
    let it = counts-end c.args.self.now c.requires c.steps.steps c.steps.left c.steps.spans c.steps.olds (c.steps.invariant c.requires) (sym c.get.ensures ∙ none-left c.get.result c.in_default.not-Some) in
    record { steps = it.steps_are; spans = it.spans_are; olds = it.olds_are; few = it.few }
