use Rattle.m68_isa.proofs.Used.{keeps}
use Rattle.m68_isa.proofs.Whole.{none_missing}
use Rattle.m68_isa.proofs.ByOperation.{by_operation}
use Rattle.m68_isa.proofs.laws.op_laws.Goals as goal

pub returns : goal.returns
returns c = record { by_operation = by_operation; most_used = λ op f ws. (keeps op f ws ws).0; none_behind = λ op f ws us. (keeps op f ws us).1; none_missing = none_missing }
