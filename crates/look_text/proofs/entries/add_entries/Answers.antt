-- One entry more.
use Rattle.std.proofs.Common.{◌≡◌, ◌++◌, ℕ, add-one, refl}
use Rattle.look_text.specs.Forks.{entries_text}
use Rattle.look_text.proofs.Lines.{at_end, next}
use Rattle.look_text.proofs.entries.add_entries.Goals as goal

pub loop-i-preserved : goal.loop-i-preserved
loop-i-preserved c = rw add-one (next _ _ _ _ _ _ c.in_ok-add_entry.ensures c.loop-i.invariant refl)

pub returns : goal.returns
returns c =
    at_end (λ (n : ℕ). c.loop-i.text.items ≡ c.args.text.now.items ++ entries_text c.args.fork.now c.args.places.now c.args.code0.now n) c.loop-i.i c.args.count
    c.loop-i.invariant c.loop-i.auto.i-end c.loop-i-test.false
