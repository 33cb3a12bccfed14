-- What the shelf answered decides the way.
use Rattle.std.proofs.Common.{refl}
use Rattle.mix_top.proofs.Ways.{ends-done, ends-of_missing, loadable, short-files}
use Rattle.mix_top.proofs.top.do_command.Goals as goal

pub fetch_files-requires : goal.fetch_files-requires
fetch_files-requires g c = c.requires.proper.files

pub save_name-save-requires : goal.save_name-save-requires
save_name-save-requires g c = c.requires.proper.save

pub do_over_files-requires-clause-job : goal.do_over_files-requires-clause-job
do_over_files-requires-clause-job g c = c.requires.proper.job

pub do_over_files-requires-clause-files : goal.do_over_files-requires-clause-files
do_over_files-requires-clause-files g c = loadable _ _ c.args.command c.in-Ok.files c.requires.proper.job c.in-Ok.ensures.files

pub do_over_files-requires-clause-short : goal.do_over_files-requires-clause-short
do_over_files-requires-clause-short g c = short-files _ _ c.args.command c.in-Ok.files c.in-Ok.ensures.files

pub returns-in-Ok-clause-ends : goal.returns-in-Ok-clause-ends
returns-in-Ok-clause-ends g c =
    ends-done _ _ _ c.args.command c.in-Ok.files _ _ c.requires.command c.save_name-save.ensures c.fetch_files.ensures.contents c.in-Ok.ensures.files c.in-Ok.ensures.counts c.do_over_files.ensures.ends

pub returns-in-Err-clause-ends : goal.returns-in-Err-clause-ends
returns-in-Err-clause-ends g c =
    ends-of_missing _ _ _ c.args.command c.in-Err.missing _ _ c.without_steps.ensures.status c.without_steps.ensures.steps c.requires.command c.fetch_files.ensures.contents c.in-Err.ensures.missing refl refl c.close_unfetched.ensures
