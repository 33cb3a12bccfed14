-- One step by itself.
use Rattle.std.proofs.Common.{◌≡◌, ℕ, arith, subst, sym}
use Rattle.mix_bits.specs.declared.fault.Fault.{Fault}
use Rattle.switch_frame.specs.Records.{isa_of}
use Rattle.mixed_machine.specs.declared.did.Did.{Did}
use Rattle.mixed_machine.specs.declared.did.Did.TheVariants.{Exit, Fault as FaultDid, ReadFault, OutFault, TraceFault}
use Rattle.mixed_machine.specs.declared.stop.Stop.{Stop}
use Rattle.mixed_machine.specs.declared.stop.Stop.TheVariants.{Exit as ExitStop, Fault as FaultStop, Limit, ReadFault as ReadStop, OutFault as OutStop, TraceFault as TraceStop}
use Rattle.mixed_machine.specs.laws.Acts.{Acts}
use Rattle.toolbox.specs.Blames.{Calm}
use Rattle.mixed_machine.specs.CountsClauses.{counts_of}
use Rattle.mixed_machine.specs.laws.Events.{IsDone}
use Rattle.mixed_machine.specs.Machine.{IsWhole}
use Rattle.mixed_machine.specs.OutsideClauses.{At}
use Rattle.mixed_machine.specs.Step.{step}
use Rattle.mix_engine.specs.Advances.{Advances}
use Rattle.mixed_machine.proofs.Machines.{exits-at, faults-at, limit-at, out-breaks-at, read-breaks-at, trace-breaks-at}
use Rattle.mix_engine.proofs.Ways.{Ended, Way, way-ends, way-on, whole-begins}

-- no step before it
pub single : (did : Did) (cell : Fault) (a b : At) → Advances 0 did cell a b → Acts step did cell a b
single did cell a b it = subst (λ x. Acts step did cell x b) it.goes it.acts

-- it is done
pub once-done : (did : Did) (cell : Fault) (a b : At) → IsWhole a.body (isa_of a.active) → IsDone did → Calm (counts_of a) (counts_of b) → Acts step did cell a b
    → Ended 0 1 0 a b Limit
once-done did cell a b whole done calm acts =
    let way : Way 0 1 0 a b = way-on 0 1 1 did cell a a b (omega arith) done (whole-begins 1 a whole) acts calm (omega arith) in
    record { whole = way.whole; fewer = way.fewer; blames = way.calm; devices = way.devices; stops = limit-at 0 1 0 a b (omega arith) way.going }

pub once-on : (did : Did) (cell : Fault) (a b : At) (stop : Stop) → stop ≡ Limit → IsWhole a.body (isa_of a.active) → IsDone did → Calm (counts_of a) (counts_of b) → Acts step did cell a b
    → Ended 0 1 0 a b stop
once-on did cell a b stop is whole done calm acts = subst (Ended 0 1 0 a b) (sym is) (once-done did cell a b whole done calm acts)

-- the ends
pub once-exits : (code : ℕ) (cell : Fault) (a b : At) → IsWhole a.body (isa_of a.active) → Acts step (Exit code) cell a b → Ended 0 1 0 a b (ExitStop code)
once-exits code cell a b whole acts =
    let way = whole-begins 1 a whole in
    way-ends 0 1 1 0 (Exit code) cell a a b (ExitStop code) (omega arith) way acts acts.blames (exits-at 0 1 1 code cell a a b (omega arith) way.devices way.going acts)

pub once-faults : (cell : Fault) (a b : At) → IsWhole a.body (isa_of a.active) → Acts step FaultDid cell a b → Ended 0 1 1 a b (FaultStop cell)
once-faults cell a b whole acts =
    let way = whole-begins 1 a whole in
    way-ends 0 1 1 1 FaultDid cell a a b (FaultStop cell) (omega arith) way acts acts.blames (faults-at 0 1 1 cell a a b (omega arith) way.devices way.going acts)

pub once-breaks_read : (cell : Fault) (a b : At) → IsWhole a.body (isa_of a.active) → Acts step ReadFault cell a b → Ended 0 1 1 a b ReadStop
once-breaks_read cell a b whole acts =
    let way = whole-begins 1 a whole in
    way-ends 0 1 1 1 ReadFault cell a a b ReadStop (omega arith) way acts acts.blames (read-breaks-at 0 1 1 cell a a b (omega arith) way.devices way.going acts)

pub once-breaks_out : (cell : Fault) (a b : At) → IsWhole a.body (isa_of a.active) → Acts step OutFault cell a b → Ended 0 1 1 a b OutStop
once-breaks_out cell a b whole acts =
    let way = whole-begins 1 a whole in
    way-ends 0 1 1 1 OutFault cell a a b OutStop (omega arith) way acts acts.blames (out-breaks-at 0 1 1 cell a a b (omega arith) way.devices way.going acts)

pub once-breaks_trace : (cell : Fault) (a b : At) → IsWhole a.body (isa_of a.active) → Acts step TraceFault cell a b → Ended 0 1 0 a b TraceStop
once-breaks_trace cell a b whole acts =
    let way = whole-begins 1 a whole in
    way-ends 0 1 1 0 TraceFault cell a a b TraceStop (omega arith) way acts acts.blames (trace-breaks-at 0 1 1 cell a a b (omega arith) way.devices way.going acts)
