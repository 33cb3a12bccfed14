-- The first range that has other bytes.
use Rattle.std.proofs.Common.{sym, ap, ◌∙◌, arith}
use Rattle.gdb_steps.specs.inner.Looks.{first_unlike}
use Rattle.gdb_steps.proofs.Looking.{unlike-here, unlike-next, unlike-none}
use Rattle.gdb_steps.proofs.watches.Watches.changed.Goals as goal

pub loop-watch-preserved : goal.loop-watch-preserved
loop-watch-preserved c =
    c.loop-watch.invariant ∙ unlike-next c.deref-watch-items.result.now c.loop-watch.watch-index c.watch-item.result c.args.ram.now c.is_changed.result c.loop-watch-test.true c.watch-item.is c.is_changed.ensures c.if-is_changed.false

pub returns-then-is_changed : goal.returns-then-is_changed
returns-then-is_changed c =
    sym (ap (λ ws. first_unlike ws c.args.ram.now) (sym c.self.view_is ∙ sym c.deref-watch-items.ensures.value)
    ∙ (c.loop-watch.invariant ∙ unlike-here c.deref-watch-items.result.now c.loop-watch.watch-index c.watch-item.result c.args.ram.now c.is_changed.result c.loop-watch-test.true c.watch-item.is c.is_changed.ensures c.if-is_changed.true))

pub returns : goal.returns
returns c =
    sym (ap (λ ws. first_unlike ws c.args.ram.now) (sym c.self.view_is ∙ sym c.deref-watch-items.ensures.value)
    ∙ (c.loop-watch.invariant ∙ unlike-none c.deref-watch-items.result.now c.loop-watch.watch-index c.args.ram.now (let past = c.loop-watch-test.false in omega (arith, past))))
