use Rattle.std.proofs.Common.{ap, ◌∙◌}
use Rattle.std.specs.Option.{is_some}
use Rattle.asm_m68.proofs.FormNames.{is_listed}
use Rattle.asm_m68.proofs.table.form_of.Goals as goal

pub returns-clause-listed : goal.returns-clause-listed
returns-clause-listed c = ap is_some c.form_in_tables.ensures ∙ is_listed c.args.name.now
