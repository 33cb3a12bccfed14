-- The files of all keys are those of the command.
use Rattle.mix_top.proofs.Fetching.{files-fetched}
use Rattle.mix_top.proofs.files.fetch_files.Goals as goal

pub returns-clause-files : goal.returns-clause-files
returns-clause-files g c = files-fetched _ _ c.args.command _ c.add_files.ensures.files
