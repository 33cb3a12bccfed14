use Rattle.asm_m68.proofs.FormNames.{is_listed}
use Rattle.asm_m68.proofs.laws.form_laws.Goals as goal

pub returns : goal.returns
returns c = is_listed
