use Rattle.args_m68.proofs.Given.{result-comes-back, return-leaves}
use Rattle.args_m68.proofs.laws.result68_laws.Goals as goal

pub returns-clause-comes_back : goal.returns-clause-comes_back
returns-clause-comes_back c = result-comes-back

pub returns-clause-leaves : goal.returns-clause-leaves
returns-clause-leaves c = return-leaves
