use Rattle.args_m68.proofs.Stacks.{length-stack}
use Rattle.args_m68.proofs.Back.{begins-at-stack, comes-back, selector-comes-back, touches-nothing}
use Rattle.args_m68.proofs.laws.args68_laws.Goals as goal

pub returns-clause-length : goal.returns-clause-length
returns-clause-length c = length-stack

pub returns-clause-comes_back : goal.returns-clause-comes_back
returns-clause-comes_back c = comes-back

pub returns-clause-selector : goal.returns-clause-selector
returns-clause-selector c = selector-comes-back

pub returns-clause-beside : goal.returns-clause-beside
returns-clause-beside c = touches-nothing

pub returns-clause-top : goal.returns-clause-top
returns-clause-top c = begins-at-stack
