use Rattle.std.proofs.Common.{◌≡◌, None, Some}
use Rattle.big_memory.specs.Memory.{refusal}
use Rattle.big_memory.proofs.Longs.{probe-err, probe-ok}
use Rattle.m68_movement.proofs.Stores.{access_refused, can_store}
use Rattle.m68_movement.proofs.along.can_store.Goals as goal

pub returns-in-Ok : goal.returns-in-Ok
returns-in-Ok c =
    let none : refusal c.args.ram.now c.args.a c.bytes.result ≡ None = probe-ok _ c.probe.result c.probe.ensures c.in-Ok.is in
    can_store _ _ _ _ c.args.fault.now c.memory_laws.ensures.refusals c.memory_laws.ensures.ram c.memory_laws.ensures.joins c.memory_laws.ensures.stores c.meets_invariant.ensures
    (rw c.bytes.ensures at none)

pub returns-in-Err : goal.returns-in-Err
returns-in-Err c =
    let some : refusal c.args.ram.now c.args.a c.bytes.result ≡ Some c.in-Err.access = probe-err _ c.probe.result _ c.probe.ensures c.in-Err.is in
    access_refused _ _ _ _ _ _ c.memory_laws.ensures.refusals (rw c.bytes.ensures at some) c.fault.ensures
