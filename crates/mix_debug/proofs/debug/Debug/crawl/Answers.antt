use Rattle.std.proofs.Common.{subst}
use Rattle.mix_io.specs.Told.{Puts}
use Rattle.mix_debug.specs.CrawlClauses.{crawl_of}
use Rattle.mix_debug.specs.TrailsClauses.{Trail}
use Rattle.mix_debug.proofs.debug.Debug.crawl.Goals as goal

pub returns-clause-text : goal.returns-clause-text
returns-clause-text g c =
    subst (λ (t : Trail). Puts (g.T.Sink.held c.args.trace.now) (g.T.Sink.held c.put_crawl.new.trace) (crawl_of t.machine) c.put_crawl.result) c.self.view_is c.put_crawl.ensures.text
