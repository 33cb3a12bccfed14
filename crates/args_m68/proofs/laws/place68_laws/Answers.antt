use Rattle.args_m68.proofs.Spots.{are-read, places-apart}
use Rattle.args_m68.proofs.laws.place68_laws.Goals as goal

pub returns-clause-read : goal.returns-clause-read
returns-clause-read c = are-read

pub returns-clause-apart : goal.returns-clause-apart
returns-clause-apart c = places-apart
