-- The text is none of the keys before.
use Rattle.std.proofs.Common.{◌≡◌, drop}
use Rattle.look_text.specs.Labels.{label_in}
use Rattle.look_text.proofs.why.find.Given as goal

abbrev pub invariant-loop-label : goal.invariant-loop-label
invariant-loop-label l = label_in (drop l.label-index l.labels) l.text ≡ label_in l.labels l.text
