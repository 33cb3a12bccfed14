use Rattle.std.proofs.Common.{◌≡◌, Ok}
use Rattle.rsrc_fork.specs.inner.References.{with_types}
use Rattle.rsrc_fork.specs.ResourcesClauses.{seen}
use Rattle.rsrc_fork.proofs.references.add_types.Given as goal

abbrev pub invariant-loop-k : goal.invariant-loop-k
invariant-loop-k l = with_types l.bytes l.areas l.list l.k ≡ Ok (seen l.resources.entries)
