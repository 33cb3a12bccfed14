use Rattle.std.proofs.Common.{◌≡◌, ℤ, ◌<ℤ◌, ◌≤ℤ◌, None}
use Rattle.rsrc_fork.specs.Resources.{bytes_of, named}
use Rattle.rsrc_fork.specs.ResourcesClauses.{seen}
use Rattle.rsrc_fork.proofs.lookup.next_id.Given as goal

-- no id up to here is one of the type
abbrev pub invariant-loop-before : goal.invariant-loop-before
invariant-loop-before l = record {
  begun : l.after ≤ℤ l.before;
  none : (x : ℤ) → l.after <ℤ x → x ≤ℤ l.before → bytes_of (seen l.resources.entries) (named l.kind x) ≡ None;
}
