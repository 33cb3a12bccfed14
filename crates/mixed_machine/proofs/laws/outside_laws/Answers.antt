use Rattle.mixed_machine.proofs.Over.{since-more, since-none, told-both, told-none, took-append}
use Rattle.mixed_machine.proofs.laws.outside_laws.Goals as goal

pub returns : goal.returns
returns c = record { splits = took-append; joins = told-both; nothing = told-none; none = since-none; more = since-more }
