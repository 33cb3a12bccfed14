-- The imports so far.
use Rattle.std.proofs.Common.{◌≡◌, ◌++◌}
use Rattle.look_text.specs.Containers.{imports_text}
use Rattle.look_text.proofs.container.add_imports.Given as goal

abbrev pub invariant-loop-i : goal.invariant-loop-i
invariant-loop-i l = l.text.items ≡ l.initial.text.items ++ imports_text l.pef l.i
