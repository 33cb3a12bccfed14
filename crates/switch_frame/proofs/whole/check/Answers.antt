use Rattle.std.proofs.Common.{◌≡◌, ◌==◌, false, cond, Ok, Err, sym, ◌∙◌, ap, arith}
use Rattle.std.proofs.lemmas.Bool.Decides.{nat_tests}
use Rattle.switch_frame.proofs.Found.{checked-none, checked-walks, if-whole, none-whole, whole_chains_pass}
use Rattle.switch_frame.proofs.FirstBad.{if-wrong}
use Rattle.switch_frame.proofs.whole.check.Goals as goal

pub returns-then-top-ne0-clause-exact : goal.returns-then-top-ne0-clause-exact
returns-then-top-ne0-clause-exact c =
    let live : (c.args.top == 0) ≡ false = grind (arith, nat_tests) in
    c.walk.ensures ∙ sym (checked-walks c.args.ram.now c.args.top c.args.active c.args.main live)

pub returns-then-top-ne0-clause-whole : goal.returns-then-top-ne0-clause-whole
returns-then-top-ne0-clause-whole c =
    let live : (c.args.top == 0) ≡ false = grind (arith, nat_tests) in
    if-whole c.args.ram.now c.args.top c.args.active c.args.main c.walk.result c.bytes.ensures.whole c.bytes.ensures.bytes live
    (c.walk.ensures ∙ sym (checked-walks c.args.ram.now c.args.top c.args.active c.args.main live))

pub returns-then-top-ne0-clause-only : goal.returns-then-top-ne0-clause-only
returns-then-top-ne0-clause-only c = λ rs whole.
    let live : (c.args.top == 0) ≡ false = grind (arith, nat_tests) in
    c.walk.ensures ∙ sym (checked-walks c.args.ram.now c.args.top c.args.active c.args.main live) ∙ whole_chains_pass c.args.ram.now c.args.top c.args.active c.args.main rs whole

pub returns-then-is_isa-clause-exact : goal.returns-then-is_isa-clause-exact
returns-then-is_isa-clause-exact c =
    sym (checked-none c.args.ram.now c.args.top c.args.active c.args.main c.if-top-ne0.false ∙ ap (λ b. cond b (Ok 0) (Err 0)) (sym c.is_isa.ensures ∙ c.if-is_isa.true))

pub returns-then-is_isa-clause-whole : goal.returns-then-is_isa-clause-whole
returns-then-is_isa-clause-whole c =
    none-whole c.args.ram.now c.args.top c.args.active c.args.main c.bytes.ensures.whole c.if-top-ne0.false (sym c.is_isa.ensures ∙ c.if-is_isa.true)

pub returns-else-is_isa-clause-exact : goal.returns-else-is_isa-clause-exact
returns-else-is_isa-clause-exact c =
    sym (checked-none c.args.ram.now c.args.top c.args.active c.args.main c.if-top-ne0.false ∙ ap (λ b. cond b (Ok 0) (Err 0)) (sym c.is_isa.ensures ∙ c.if-is_isa.false))

pub returns-then-top-ne0-clause-wrong : goal.returns-then-top-ne0-clause-wrong
returns-then-top-ne0-clause-wrong c =
    let live : (c.args.top == 0) ≡ false = grind (arith, nat_tests) in
    if-wrong c.args.ram.now c.args.top c.args.active c.args.main c.walk.result (c.walk.ensures ∙ sym (checked-walks c.args.ram.now c.args.top c.args.active c.args.main live))

pub returns-else-is_isa-clause-wrong : goal.returns-else-is_isa-clause-wrong
returns-else-is_isa-clause-wrong c =
    if-wrong c.args.ram.now c.args.top c.args.active c.args.main (Err 0) (sym (checked-none c.args.ram.now c.args.top c.args.active c.args.main c.if-top-ne0.false ∙ ap (λ b. cond b (Ok 0) (Err 0)) (sym c.is_isa.ensures ∙ c.if-is_isa.false)))
