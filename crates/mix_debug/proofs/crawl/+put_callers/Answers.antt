use Rattle.std.proofs.Common.{◌+◌, sym, subst, ◌∙◌}
use Rattle.switch_frame.specs.Chain.{records}
use Rattle.mix_io.specs.Told.{Puts}
use Rattle.mix_debug.specs.Crawl.{caller_lines}
use Rattle.mix_debug.proofs.Telling.{lines-put, lines-some, no-lines}
use Rattle.mix_debug.proofs.crawl.+put_callers.Goals as goal

pub returns-in-None-clause-text : goal.returns-in-None-clause-text
returns-in-None-clause-text g t c = no-lines (g.T.Sink.held c.args.trace.now) c.args.number (records c.args.ram.now.bytes c.args.lo) (sym c.top.ensures.value ∙ c.in-None.is)

pub returns-in-Ok-clause-text : goal.returns-in-Ok-clause-text
returns-in-Ok-clause-text g t c =
    lines-put (g.T.Sink.held c.args.trace.now) (g.T.Sink.held c.put_caller.new.trace) (g.T.Sink.held c.put_callers.new.trace) c.args.number (records c.args.ram.now.bytes c.args.lo) c.in-Some.held c.put_callers.result
    (sym c.top.ensures.value ∙ c.in-Some.is) c.in-Ok.ensures.text
    (subst (λ rs. Puts (g.T.Sink.held c.put_caller.new.trace) (g.T.Sink.held c.put_callers.new.trace) (caller_lines (c.args.number + 1) rs) c.put_callers.result) c.outer_lo.ensures.rest c.put_callers.ensures.text)

pub returns-in-Err-clause-text : goal.returns-in-Err-clause-text
returns-in-Err-clause-text g t c =
    let text = c.in-Err.ensures.text in
    lines-some (g.T.Sink.held c.args.trace.now) (g.T.Sink.held c.put_caller.new.trace) c.args.number (records c.args.ram.now.bytes c.args.lo) c.in-Some.held text.0 (sym c.top.ensures.value ∙ c.in-Some.is) text.1 text.2
