use Rattle.pef_reloc.proofs.Alike.{has_plan, keeps_size}
use Rattle.pef_reloc.proofs.Refusals.{has_same_refusal}
use Rattle.pef_reloc.proofs.laws.plan_laws.Goals as goal

pub returns : goal.returns
returns c = record { plan = has_plan; size = keeps_size; refusal = has_same_refusal }
