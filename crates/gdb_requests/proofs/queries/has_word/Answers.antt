use Rattle.std.proofs.Common.{sym, ap, ◌∙◌}
use Rattle.gdb_requests.specs.Parts.{begins}
use Rattle.gdb_requests.proofs.Words.{found_at, looks_on}
use Rattle.gdb_requests.proofs.queries.has_word.Goals as goal

pub loop-i-preserved : goal.loop-i-preserved
loop-i-preserved c = c.loop-i.invariant ∙ looks_on c.args.word.now c.args.text.now c.loop-i.i c.loop-i-test.true
    (ap (begins c.args.word.now) (sym c.skip.ensures) ∙ sym c.does_begin.ensures ∙ c.if-does_begin.false)

pub returns-then-does_begin : goal.returns-then-does_begin
returns-then-does_begin c = sym (c.loop-i.invariant ∙ found_at c.args.word.now c.args.text.now c.loop-i.i c.loop-i-test.true
    (ap (begins c.args.word.now) (sym c.skip.ensures) ∙ sym c.does_begin.ensures ∙ c.if-does_begin.true))
