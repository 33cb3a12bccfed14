-- The first file that was not fetched, or all of them.
use Rattle.mix_top.proofs.Fetching.{adds-rest, missed-first, missed-rest}
use Rattle.mix_top.proofs.files.+add_files.Goals as goal

pub returns-in-Ok-clause-files : goal.returns-in-Ok-clause-files
returns-in-Ok-clause-files g t c =
    adds-rest _ _ _ c.args.command c.args.keys.now _ c.in-Ok.file c.args.files _ _ c.in-len1-up.len_at_least c.in-Ok.ensures.contents c.in-Ok.ensures.file c.with_file-more.ensures c.add_files.ensures.files

pub returns-in-Ok-clause-missing : goal.returns-in-Ok-clause-missing
returns-in-Ok-clause-missing g t c =
    missed-rest _ _ _ c.args.command c.args.keys.now _ c.in-Ok.file _ _ _ _ c.in-len1-up.len_at_least c.in-Ok.ensures.contents c.in-Ok.ensures.file c.in-Ok.ensures.counts c.add_files.ensures.missing

pub returns-in-Err-clause-missing : goal.returns-in-Err-clause-missing
returns-in-Err-clause-missing g t c = missed-first _ _ c.args.command c.args.keys.now _ _ _ c.in-Err.missing c.in-len1-up.len_at_least c.in-Err.ensures.missing
