use Rattle.big_memory.specs.Memory.{refusal}
use Rattle.ppc_core.proofs.Whole.{bytes_open, none_refused}
use Rattle.ppc_core.proofs.strings.test_open.Goals as goal

pub returns-in-Ok : goal.returns-in-Ok
returns-in-Ok c =
    bytes_open c.args.ram.now c.args.at c.args.length c.meets_invariant.ensures
    (none_refused (refusal c.args.ram.now c.args.at c.args.length) c.probe.result c.in-Ok.field-0 c.probe.ensures c.in-Ok.is)
