use Rattle.std.proofs.Common.{refl}
use Rattle.m68_isa.specs.inner.Letters.{lettered}
use Rattle.m68_isa.proofs.operations.all_lettered.Goals as goal

pub returns-clause-is : goal.returns-clause-is
unfolding lettered
returns-clause-is c = refl

pub returns-clause-all : goal.returns-clause-all
returns-clause-all c = refl
