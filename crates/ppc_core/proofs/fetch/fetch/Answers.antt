use Rattle.std.proofs.Common.{sym, ◌∙◌}
use Rattle.ppc_core.proofs.Fetching.{odd, page, refused, word-is}
use Rattle.ppc_core.proofs.fetch.fetch.Goals as goal

pub returns-then-pc-ne0 : goal.returns-then-pc-ne0
returns-then-pc-ne0 c r at = odd c.stop.result c.stop.new.fault c.args.pc r c.args.ram.now at c.if-pc-ne0.true (c.stop.ensures r c.args.ram.now)

pub returns-then-in_gate_page : goal.returns-then-in_gate_page
returns-then-in_gate_page c r at =
    page c.leave_or_stop.result c.leave_or_stop.new.fault c.args.pc r c.args.ram.now at c.if-pc-ne0.false (sym c.in_gate_page.ensures ∙ c.if-in_gate_page.true) (c.leave_or_stop.ensures r c.args.ram.now at)

pub returns-in-Ok : goal.returns-in-Ok
returns-in-Ok c r at =
    word-is c.args.pc r c.args.ram.now c.in-Ok.word at c.if-pc-ne0.false (sym c.in_gate_page.ensures ∙ c.if-in_gate_page.false) (sym c.load_long.ensures ∙ c.in-Ok.is)

pub returns-in-Err : goal.returns-in-Err
returns-in-Err c r at =
    refused c.refuse.result c.refuse.new.fault c.args.pc r c.args.ram.now c.in-Err.access at c.if-pc-ne0.false (sym c.in_gate_page.ensures ∙ c.if-in_gate_page.false) (sym c.load_long.ensures ∙ c.in-Err.is) (c.refuse.ensures r c.args.ram.now)
