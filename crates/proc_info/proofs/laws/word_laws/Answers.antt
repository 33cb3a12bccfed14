use Rattle.proc_info.proofs.Chains.{behind_front, behind_none}
use Rattle.proc_info.proofs.laws.word_laws.Goals as goal

pub returns : goal.returns
returns g c = record { front = behind_front; none = behind_none }
