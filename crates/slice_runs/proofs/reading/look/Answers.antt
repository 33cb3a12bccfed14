-- What is read of a machine, and where there is none.
use Rattle.std.proofs.Common.{◌≡◌, drop, refl, rules}
use Rattle.slice_runs.specs.Looks.Looks.{refused, seen}
use Rattle.slice_runs.proofs.reading.look.Goals as goal

pub returns-in-Ok-clause-looks : goal.returns-in-Ok-clause-looks
returns-in-Ok-clause-looks c =
    let from : c.behind.result.now ≡ drop c.args.at c.in-Ok.machine.body.ram.bytes = cc in
    seen c.in-Ok.machine c.in-Ok.ensures.whole c.in-Ok.ensures.spelled (cc) c.copy_registers-seen.ensures (rw from at c.copy-seen.ensures) refl

pub returns-in-Err-clause-looks : goal.returns-in-Err-clause-looks
returns-in-Err-clause-looks c =
    refused c.in-Err.error c.in-Err.ensures.exact c.status_of.ensures
    (record { bytes = refl; count = search rules })
    (record { bytes = refl; count = search rules })
