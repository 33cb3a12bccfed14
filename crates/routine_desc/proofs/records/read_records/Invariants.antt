-- The first k records are read.
use Rattle.std.proofs.Common.{◌≡◌, take, Ok}
use Rattle.routine_desc.specs.Read.{first_records}
use Rattle.routine_desc.proofs.records.read_records.Given as goal

abbrev pub invariant-loop-k : goal.invariant-loop-k
invariant-loop-k l = first_records l.ram l.a l.k ≡ Ok (take l.k l.recs)
