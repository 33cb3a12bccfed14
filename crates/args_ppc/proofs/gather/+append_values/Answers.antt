-- One word more.
use Rattle.std.proofs.Common.{sym}
use Rattle.args_ppc.proofs.Gathered.{appends-word, counts-more}
use Rattle.args_ppc.proofs.gather.+append_values.Goals as goal

pub returns-in_ok-value-in-len1-up : goal.returns-in_ok-value-in-len1-up
returns-in_ok-value-in-len1-up t c =
    let others = c.append_values.ensures in
    record {
      values = appends-word c.append_values.result c.args.regs.now c.args.ram.now c.args.first c.args.params.now _ c.in_ok-value-in-len1-up.field-0 _ _ _ c.in-len1-up.len_at_least (sym c.in_ok-value-in-len1-up.ensures) c.push.ensures.values others.values;
      count = counts-more c.append_values.result c.args.params.now _ _ _ c.in-len1-up.len_at_least c.push.ensures.count others.count;
      rest = others.rest;
    }
