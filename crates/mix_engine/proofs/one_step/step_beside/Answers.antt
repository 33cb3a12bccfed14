use Rattle.std.proofs.Common.{ap, refl, sym}
use Rattle.mix_engine.specs.Ends.{goes_on}
use Rattle.mix_engine.proofs.Once.{once-breaks_out, once-breaks_read, once-breaks_trace, once-exits, once-faults, once-on, single}
use Rattle.mix_engine.proofs.one_step.step_beside.Goals as goal

pub returns-in-Next : goal.returns-in-Next
returns-in-Next g c =
    let acts = single _ _ _ _ c.in-Next.ensures.does in
    let end = once-on _ _ _ _ _ c.requires.cell c.requires.whole tt acts.blames acts in
    record { answer = sym (ap goes_on c.requires.cell); whole = end.whole; run = record { left = 0; fewer = end.fewer; run = end.stops }; blames = end.blames; devices = end.devices; same = c.in-Next.ensures.same }

pub returns-in-Call : goal.returns-in-Call
returns-in-Call g c =
    let acts = single _ _ _ _ c.in-Call.ensures.does in
    let end = once-on _ _ _ _ _ c.requires.cell c.requires.whole tt acts.blames acts in
    record { answer = sym (ap goes_on c.requires.cell); whole = end.whole; run = record { left = 0; fewer = end.fewer; run = end.stops }; blames = end.blames; devices = end.devices; same = c.in-Call.ensures.same }

pub returns-in-Return : goal.returns-in-Return
returns-in-Return g c =
    let acts = single _ _ _ _ c.in-Return.ensures.does in
    let end = once-on _ _ _ _ _ c.requires.cell c.requires.whole tt acts.blames acts in
    record { answer = sym (ap goes_on c.requires.cell); whole = end.whole; run = record { left = 0; fewer = end.fewer; run = end.stops }; blames = end.blames; devices = end.devices; same = c.in-Return.ensures.same }

pub returns-in-Exit : goal.returns-in-Exit
returns-in-Exit g c =
    let acts = single _ _ _ _ c.in-Exit.ensures.does in
    let end = once-exits _ _ _ _ c.requires.whole acts in
    record { answer = refl; whole = end.whole; run = record { left = 0; fewer = end.fewer; run = end.stops }; blames = end.blames; devices = end.devices; same = c.in-Exit.ensures.same }

pub returns-in-Fault : goal.returns-in-Fault
returns-in-Fault g c =
    let acts = single _ _ _ _ c.in-Fault.ensures.does in
    let end = once-faults _ _ _ c.requires.whole acts in
    record { answer = refl; whole = end.whole; run = record { left = 1; fewer = end.fewer; run = end.stops }; blames = end.blames; devices = end.devices; same = c.in-Fault.ensures.same }

pub returns-in-ReadFault : goal.returns-in-ReadFault
returns-in-ReadFault g c =
    let acts = single _ _ _ _ c.in-ReadFault.ensures.does in
    let end = once-breaks_read _ _ _ c.requires.whole acts in
    record { answer = refl; whole = end.whole; run = record { left = 1; fewer = end.fewer; run = end.stops }; blames = end.blames; devices = end.devices; same = c.in-ReadFault.ensures.same }

pub returns-in-OutFault : goal.returns-in-OutFault
returns-in-OutFault g c =
    let acts = single _ _ _ _ c.in-OutFault.ensures.does in
    let end = once-breaks_out _ _ _ c.requires.whole acts in
    record { answer = refl; whole = end.whole; run = record { left = 1; fewer = end.fewer; run = end.stops }; blames = end.blames; devices = end.devices; same = c.in-OutFault.ensures.same }

pub returns-in-TraceFault : goal.returns-in-TraceFault
returns-in-TraceFault g c =
    let acts = single _ _ _ _ c.in-TraceFault.ensures.does in
    let end = once-breaks_trace _ _ _ c.requires.whole acts in
    record { answer = refl; whole = end.whole; run = record { left = 0; fewer = end.fewer; run = end.stops }; blames = end.blames; devices = end.devices; same = c.in-TraceFault.ensures.same }
