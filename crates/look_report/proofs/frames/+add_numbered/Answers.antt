use Rattle.std.proofs.Common.{sym, ◌∙◌}
use Rattle.switch_frame.specs.Chain.{records}
use Rattle.look_report.proofs.Callers.{no-frames, onward}
use Rattle.look_report.proofs.frames.+add_numbered.Goals as goal

pub returns-in-None : goal.returns-in-None
returns-in-None t c = no-frames c.args.text.now.items c.args.untold c.args.number (records c.args.ram.now.bytes c.args.lo) (sym c.top.ensures.value ∙ c.in-None.is)

pub returns-in_ok-add_told-in-Some : goal.returns-in_ok-add_told-in-Some
returns-in_ok-add_told-in-Some t c =
    onward c.add_numbered.result c.args.text.now.items c.add_told.new.text.items c.add_numbered.new.text.items c.args.untold c.args.number (records c.args.ram.now.bytes c.args.lo) (records c.args.ram.now.bytes c.outer_lo.result) c.in-Some.held
    (sym c.top.ensures.value ∙ c.in-Some.is) c.outer_lo.ensures.rest c.in_ok-add_told-in-Some.ensures c.add_numbered.ensures
