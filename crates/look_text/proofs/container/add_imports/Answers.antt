-- One import more.
use Rattle.std.proofs.Common.{◌≡◌, ◌++◌, ℕ, add-one, ap}
use Rattle.look_text.specs.Containers.{import_line, imports_text}
use Rattle.look_text.proofs.Lines.{at_end, next}
use Rattle.look_text.proofs.container.add_imports.Goals as goal

pub loop-i-preserved : goal.loop-i-preserved
loop-i-preserved c =
    rw add-one (next _ _ _ _ _ _ c.in_ok-add_import.ensures c.loop-i.invariant (ap (import_line c.loop-i.i) c.import_within.ensures))

pub returns : goal.returns
returns c =
    at_end (λ (n : ℕ). c.loop-i.text.items ≡ c.args.text.now.items ++ imports_text c.args.pef.now n) c.loop-i.i c.args.count c.loop-i.invariant
    c.loop-i.auto.i-end c.loop-i-test.false
