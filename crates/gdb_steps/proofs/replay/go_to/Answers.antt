-- More of the journal, or less.
use Rattle.std.proofs.Common.{◌≡◌, ◌≤◌, ◌-◌, ◌∙◌, ap, arith, drop, length, take}
use Rattle.gdb_steps.proofs.Slotting.{fronts-join}
use Rattle.gdb_steps.proofs.replay.go_to.Goals as goal

pub returns-then-len-count-2-clause-asks : goal.returns-then-len-count-2-clause-asks
returns-then-len-count-2-clause-asks c =
    let long : c.len-then-len-count-2.result ≡ length c.args.asks.now.items = c.len-then-len-count-2.ensures ∙ c.args.asks.now.ok.0 in
    let few : length c.args.asks.now.items ≤ c.args.count = omega (arith, c.args.asks.now.ok.0) in
    c.append.ensures.items
    ∙ fronts-join c.args.asks.now.items c.args.journal.now _ c.args.count c.requires.front few (ap (λ k. take (c.args.count - k) (drop k c.args.journal.now)) long)
