-- The name is none of the kinds before.
use Rattle.std.proofs.Common.{◌≡◌, drop}
use Rattle.trace_lines.specs.inner.Reading.{kind_in}
use Rattle.trace_lines.proofs.ends.kind_named.Given as goal

abbrev pub invariant-loop-kind : goal.invariant-loop-kind
invariant-loop-kind l = kind_in (drop l.kind-index l.kinds) l.name ≡ kind_in l.kinds l.name
