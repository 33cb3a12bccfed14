use Rattle.std.proofs.Common.{refl}
use Rattle.m68_isa.specs.inner.Letters.{letters}
use Rattle.m68_isa.proofs.operations.all_letters.Goals as goal

pub returns-clause-is : goal.returns-clause-is
unfolding letters
returns-clause-is c = refl

pub returns-clause-all : goal.returns-clause-all
returns-clause-all c = refl
