-- One argument more.
use Rattle.args_m68.proofs.Handed.{arguments-more}
use Rattle.args_m68.proofs.deliver.+put_arguments.Goals as goal

pub returns-in-len1-up-values : goal.returns-in-len1-up-values
returns-in-len1-up-values t c =
    arguments-more c.args.route c.args.params.now c.args.values.now _ _ c.args.regs.now _ _ c.in-len1-up.len_at_least c.in-len1-up-values.len_at_least c.place_for.ensures.place c.put_value.ensures.value c.put_arguments.ensures
