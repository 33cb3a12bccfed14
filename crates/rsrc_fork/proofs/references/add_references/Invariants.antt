use Rattle.std.proofs.Common.{◌≡◌, Ok}
use Rattle.rsrc_fork.specs.inner.References.{with_references}
use Rattle.rsrc_fork.specs.ResourcesClauses.{seen}
use Rattle.rsrc_fork.proofs.references.add_references.Given as goal

abbrev pub invariant-loop-j : goal.invariant-loop-j
invariant-loop-j l = with_references l.bytes l.areas l.entry (seen l.initial.resources.entries) l.j ≡ Ok (seen l.resources.entries)
