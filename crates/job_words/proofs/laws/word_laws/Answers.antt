use Rattle.std.proofs.Common.{refl}
use Rattle.job_words.proofs.Requested.{command-asked, refusal-first}
use Rattle.job_words.proofs.Moves.{order-free}
use Rattle.job_words.proofs.laws.word_laws.Goals as goal

pub returns : goal.returns
returns c = record { command = command-asked; refusal = refusal-first; order = order-free; keys = refl }
