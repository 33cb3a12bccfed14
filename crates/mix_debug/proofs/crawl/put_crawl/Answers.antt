use Rattle.std.proofs.Common.{◌≡◌, ◌+◌, ◌≤◌, ap, sym, subst, ◌∙◌, arith, length}
use Rattle.std.specs.Io.KnownBytes.{Appends}
use Rattle.switch_frame.specs.Chain.{records}
use Rattle.mixed_machine.specs.Machine.{callers_of}
use Rattle.mix_debug.specs.Crawl.{caller_lines, here_line}
use Rattle.mix_debug.specs.CrawlClauses.{crawl_of}
use Rattle.mix_debug.proofs.Telling.{puts-more, puts-some}
use Rattle.mix_debug.proofs.crawl.put_crawl.Goals as goal

pub put_callers-requires-clause-links : goal.put_callers-requires-clause-links
unfolding callers_of
put_callers-requires-clause-links g c = c.requires.chain.links

pub put_callers-requires-clause-number : goal.put_callers-requires-clause-number
unfolding callers_of
put_callers-requires-clause-number g c =
    let few : length (records c.args.machine.now.body.ram.bytes c.args.machine.now.body.top) ≤ 256 = c.requires.chain.links.few in omega (arith, few)

pub returns-in-Ok-clause-text : goal.returns-in-Ok-clause-text
unfolding callers_of crawl_of
returns-in-Ok-clause-text g c =
    puts-more (g.T.Sink.held c.args.trace.now) (g.T.Sink.held c.put.new.self) (g.T.Sink.held c.put_callers.new.trace) (here_line c.args.machine.now.active)
    (caller_lines 1 (records c.args.machine.now.body.ram.bytes c.args.machine.now.body.top)) c.put_callers.result
    (subst (Appends (g.T.Sink.held c.args.trace.now) (g.T.Sink.held c.put.new.self)) (c.bytes.ensures ∙ c.add_here.ensures) c.in-Ok.ensures.bytes) c.put_callers.ensures.text

pub returns-in-Err-clause-text : goal.returns-in-Err-clause-text
unfolding callers_of crawl_of
returns-in-Err-clause-text g c =
    let text = subst (λ xs. (Rattle.std.proofs.Common.◌≡◌ xs xs) × ((n : Rattle.std.proofs.Common.ℕ) × (n ≤ length xs) × Appends (g.T.Sink.held c.args.trace.now) (g.T.Sink.held c.put.new.self) (Rattle.std.proofs.Common.take n xs)))
    (c.bytes.ensures ∙ c.add_here.ensures) (Rattle.std.proofs.Common.refl, c.in-Err.ensures.bytes) in
    puts-some (g.T.Sink.held c.args.trace.now) (g.T.Sink.held c.put.new.self) (here_line c.args.machine.now.active) (caller_lines 1 (records c.args.machine.now.body.ram.bytes c.args.machine.now.body.top)) text.1.0 text.1.1 text.1.2
