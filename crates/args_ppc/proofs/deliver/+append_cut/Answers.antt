-- One word more.
use Rattle.args_ppc.proofs.Handed.{cut-behind, cut-long}
use Rattle.args_ppc.proofs.deliver.+append_cut.Goals as goal

pub returns-in-len1-up-values : goal.returns-in-len1-up-values
returns-in-len1-up-values t c =
    let words = cut-behind c.args.params.now c.args.values.now _ c.args.words.now.items _ _ _ c.in-len1-up.len_at_least c.in-len1-up-values.len_at_least c.trunc.ensures c.push.ensures.items c.append_cut.ensures.words in
    record { words = words; count = cut-long _ _ _ _ c.requires.count words }
