-- What holds of a command, and of the place of a bad word, follows from the words alone.
use Rattle.job_words.proofs.Proper.{asked-command, proper-command, refused-place}
use Rattle.job_words.proofs.words.read_words.Goals as goal

pub returns-clause-asked : goal.returns-clause-asked
returns-clause-asked c = asked-command _ _ c.read_all.ensures

pub returns-clause-refused : goal.returns-clause-refused
returns-clause-refused c = refused-place _ _ c.read_all.ensures

pub returns-clause-proper : goal.returns-clause-proper
returns-clause-proper c = proper-command _ _ c.read_all.ensures
