use Rattle.std.proofs.Common.{sym, subst}
use Rattle.switch_frame.specs.Chain.{Links, records}
use Rattle.switch_frame.specs.Records.{isa_of}
use Rattle.mix_engine.specs.declared.machine.Machine.{Machine}
use Rattle.look_gdb.proofs.Chains.{links_of}
use Rattle.look_gdb.proofs.served.ServedTarget.tell.Goals as goal

pub append_answer-requires : goal.append_answer-requires
append_answer-requires g c =
    subst (λ (m : Machine). Links m.body.ram m.body.top (records m.body.ram.bytes m.body.top)) (sym c.machine-machine.ensures.machine)
    (links_of c.self.inside.walker.debug.machine.body (isa_of c.self.inside.walker.debug.machine.active) c.machine-machine.ensures.whole)
