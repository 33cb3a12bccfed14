use Rattle.std.proofs.Common.{◌≡◌, ◌∙◌, ◌-◌, ◌<◌, ◌≤◌, sym, subst, ℕ, true, false, arith}
use Rattle.pef_head.specs.inner.Marks.{is_marked}
use Rattle.pef_head.specs.Owners.{owners}
use Rattle.pef_head.specs.Places.{holds, symbols_end, symbols_start}
use Rattle.pef_head.proofs.Marking.{held_below, holds_at, in_two, marked_next, none_yet, with_library}
use Rattle.pef_head.proofs.owners.mark.Goals as goal

pub loop-i-init : goal.loop-i-init
loop-i-init c = λ k low lt. none_yet (owners c.args.bytes.now c.args.l c.args.j k) (symbols_start c.args.bytes.now c.args.l c.args.j) (symbols_end c.args.bytes.now c.args.l c.args.j)
    c.max-first.result k _ (λ (h : symbols_start c.args.bytes.now c.args.l c.args.j ≤ k). omega (arith, h, low, c.symbols_start.ensures, c.max-first.ensures)) (c.requires.marked k low lt)

pub loop-i-preserved : goal.loop-i-preserved
loop-i-preserved c =
    let low : c.args.from ≤ c.loop-i.i = omega (arith, c.max-first.ensures, c.loop-i.auto.i) in
    let start : symbols_start c.args.bytes.now c.args.l c.args.j ≤ c.loop-i.i = omega (arith, c.symbols_start.ensures, c.max-first.ensures, c.loop-i.auto.i) in
    let end : c.loop-i.i < symbols_end c.args.bytes.now c.args.l c.args.j = omega (arith, c.symbols_end.ensures, c.min-end.ensures, c.loop-i-test.true) in
    let has : holds c.args.bytes.now c.args.l c.loop-i.i c.args.j ≡ true = holds_at c.args.bytes.now c.args.l c.loop-i.i c.args.j start end in
    let free : is_marked c.loop-i.marks (c.loop-i.i - c.args.from) ≡ false = sym c.is_set.ensures ∙ c.if-is_set.false in
    λ k below lt. marked_next (owners c.args.bytes.now c.args.l c.args.j k) c.args.from c.loop-i.i k (holds c.args.bytes.now c.args.l k c.args.j) _ _ low below
    (λ same. subst (λ (m : ℕ). holds c.args.bytes.now c.args.l m c.args.j ≡ true) (sym same) has)
    (λ same. subst (λ (m : ℕ). is_marked c.loop-i.marks (m - c.args.from) ≡ false) (sym same) free)
    (c.loop-i.invariant k below lt) (c.set.ensures (k - c.args.from))

pub returns-then-is_set-clause-marked : goal.returns-then-is_set-clause-marked
returns-then-is_set-clause-marked c = λ k low lt. with_library (holds c.args.bytes.now c.args.l k) c.args.j k c.loop-i.i _ (λ _. lt)
    (c.loop-i.invariant k low (omega (arith, lt, c.min-end.ensures, c.loop-i-test.true)))

pub returns-then-is_set-clause-twice : goal.returns-then-is_set-clause-twice
returns-then-is_set-clause-twice c =
    let low : c.args.from ≤ c.loop-i.i = omega (arith, c.max-first.ensures, c.loop-i.auto.i) in
    let start : symbols_start c.args.bytes.now c.args.l c.args.j ≤ c.loop-i.i = omega (arith, c.symbols_start.ensures, c.max-first.ensures, c.loop-i.auto.i) in
    let end : c.loop-i.i < symbols_end c.args.bytes.now c.args.l c.args.j = omega (arith, c.symbols_end.ensures, c.min-end.ensures, c.loop-i-test.true) in
    λ short. in_two (holds c.args.bytes.now c.args.l c.loop-i.i) c.args.j c.loop-i.i _ (holds_at c.args.bytes.now c.args.l c.loop-i.i c.args.j start end) (sym c.is_set.ensures ∙ c.if-is_set.true)
    (c.loop-i.invariant c.loop-i.i low short)

pub returns-clause-marked : goal.returns-clause-marked
returns-clause-marked c = λ k low lt. with_library (holds c.args.bytes.now c.args.l k) c.args.j k c.loop-i.i _
    (λ has. omega (arith, lt, held_below c.args.bytes.now c.args.l k c.args.j has, c.symbols_end.ensures, c.min-end.ensures, c.loop-i-test.false)) (c.loop-i.invariant k low lt)
