use Rattle.mix_top.proofs.Telling.{does-crawl}
use Rattle.mix_top.proofs.play.crawl.Goals as goal

pub returns-clause-does : goal.returns-clause-does
returns-clause-does g c = does-crawl _ _ _ _ _ c.tell_crawl.ensures
