use Rattle.args_ppc.proofs.Frames.{length-stack, top-back}
use Rattle.args_ppc.proofs.Back.{comes-back, result-comes-back, selector-comes-back, touches-nothing}
use Rattle.args_ppc.specs.Deliver.{callee_words}
use Rattle.args_ppc.proofs.laws.args_ppc_laws.Goals as goal

pub returns-clause-length : goal.returns-clause-length
returns-clause-length c = length-stack

pub returns-clause-comes_back : goal.returns-clause-comes_back
returns-clause-comes_back c = comes-back

pub returns-clause-selector : goal.returns-clause-selector
returns-clause-selector c = selector-comes-back

pub returns-clause-beside : goal.returns-clause-beside
returns-clause-beside c = touches-nothing

pub returns-clause-top : goal.returns-clause-top
returns-clause-top c sig selector values sp code toc = top-back (callee_words sig selector values) sp code toc

pub returns-clause-result : goal.returns-clause-result
returns-clause-result c = result-comes-back
