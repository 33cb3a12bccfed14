-- So many bytes are passed over.
use Rattle.std.proofs.Common.{◌≡◌, drop}
use Rattle.binhex.proofs.rest.Rest.skip.Given as goal

abbrev pub invariant-loop : goal.invariant-loop
invariant-loop l = l.self ≡ drop l.counter l.initial.self
