-- One more record before the others.
use Rattle.std.proofs.Common.{arith}
use Rattle.routine_desc.specs.inner.Scans.{found, scan}
use Rattle.routine_desc.proofs.ChoiceLemmas.{scan-parts}
use Rattle.routine_desc.proofs.choice.+look.Goals as goal

pub returns-in-len1-up : goal.returns-in-len1-up
returns-in-len1-up t c =
    let caller = c.args.caller in
    let selector = c.args.selector in
    let rest = scan c.look-rest.result in
    scan-parts c.args.recs.now _ caller selector rest c.matches.result c.is_default.result (found c.found_with.result) (found c.found_with-in-len1-up.result)
    (omega (arith, c.in-len1-up.len_at_least)) c.look-rest.ensures
    c.matches.ensures c.found_with.ensures c.is_default.ensures c.found_with-in-len1-up.ensures
