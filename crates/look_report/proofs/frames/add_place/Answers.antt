use Rattle.std.proofs.Common.{◌≡◌, ◌++◌, OnOk, ap, subst, ◌∙◌}
use Rattle.call_trace.specs.Names.{set_name}
use Rattle.switch_frame.specs.Files.{pc_of}
use Rattle.look_report.proofs.Callers.{line_with}
use Rattle.look_report.proofs.frames.add_place.Goals as goal

pub returns : goal.returns
returns c =
    let k = c.args.number in
    let held = c.args.held.now in
    let old = c.args.text.now.items in
    let new = c.add_line.new.text.items in
    subst (λ name. OnOk c.add_line.result (new ≡ old ++ line_with k held.lo held.hi name (pc_of held.caller) held.target)) (c.set_name.ensures.name ∙ ap set_name c.isa.ensures)
    (subst (λ pc. OnOk c.add_line.result (new ≡ old ++ line_with k held.lo held.hi c.set_name.result.now pc held.target)) c.pc.ensures c.add_line.ensures)
