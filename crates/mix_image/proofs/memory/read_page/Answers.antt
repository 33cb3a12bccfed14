use Rattle.mix_image.proofs.Pagings.{length-blank}
use Rattle.mix_image.proofs.memory.read_page.Goals as goal

pub returns-in-Some-eq0-clause-len : goal.returns-in-Some-eq0-clause-len
returns-in-Some-eq0-clause-len c = length-blank 1024
