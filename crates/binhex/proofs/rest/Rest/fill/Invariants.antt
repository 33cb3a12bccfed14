-- The bytes so far, and those that are left.
use Rattle.std.proofs.Common.{◌≡◌, ◌++◌, take}
use Rattle.binhex.proofs.rest.Rest.fill.Given as goal

abbrev pub invariant-loop-j : goal.invariant-loop-j
invariant-loop-j l = l.initial.self ≡ take l.j l.room ++ l.self
