use Rattle.mix_text.proofs.Back.{comes_back}
use Rattle.mix_text.proofs.Once.{answers_once}
use Rattle.mix_text.proofs.laws.assembly_laws.Goals as goal

pub returns-clause-once : goal.returns-clause-once
returns-clause-once c = answers_once

pub returns-clause-back : goal.returns-clause-back
returns-clause-back c = comes_back c.text_laws.ensures.names
