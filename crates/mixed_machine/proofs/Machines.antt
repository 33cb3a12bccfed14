-- A run of a machine in memory, one event at a time.
use Rattle.std.proofs.Common.{◌≡◌, ℕ, ◌+◌, ◌-◌, ◌<◌, ◌≤◌, nat_lt, true, false, length, arith}
use Rattle.std.proofs.lemmas.Bool.Decides.{nat_tests}
use Rattle.mix_bits.specs.declared.fault.Fault.{Fault as AFault}
use Rattle.mixed_machine.specs.declared.did.Did.{Did}
use Rattle.mixed_machine.specs.declared.did.Did.TheVariants.{Next as IsNext, Call, Return, Exit, Fault, ReadFault, OutFault, TraceFault}
use Rattle.mixed_machine.specs.declared.stop.Stop.TheVariants.{Exit as ExitStop, Fault as FaultStop, Limit, ReadFault as ReadStop, OutFault as OutStop, TraceFault as TraceStop}
use Rattle.mixed_machine.specs.State.{State}
use Rattle.mixed_machine.specs.Next.{Next}
use Rattle.mixed_machine.specs.Step.{step}
use Rattle.mixed_machine.specs.Exec.{GoesTo, line_of, said_of}
use Rattle.mixed_machine.specs.Machine.{callers_of}
use Rattle.mixed_machine.specs.inner.Outside.{state_of}
use Rattle.mixed_machine.specs.laws.Acts.{BothGrow, Done}
use Rattle.mixed_machine.specs.RunsClauses.{CameBack, sinks_of}
use Rattle.mixed_machine.specs.laws.Runs.{Going}
use Rattle.mixed_machine.specs.Runs.{Sinks, Stops}
use Rattle.mixed_machine.specs.laws.Events.{BeginsAt, CalleeCameBack, CalleeStopped, ComesBackAt, CutGoesOn, ExitsAt, FaultsAt, GoesOnAt, IsDone, LimitAt, OutBreaksAt, ReadBreaksAt, StopsImply, TraceBreaksAt}
use Rattle.mixed_machine.specs.laws.Laws.{CutsContinue}
use Rattle.mixed_machine.proofs.Events.{going-none, going-more, back-now, limited-now, exits-now, faults-now, read-broke-now, out-broke-now, trace-broke-now, nested-back, nested-stops, cut-stops}
use Rattle.mixed_machine.proofs.Over.{over-none, over-same, over-more}

not-back : (d count : ℕ) → d ≤ count → nat_lt count d ≡ false
not-back d count deep = grind (arith, nat_tests, deep)

is-back : (d count : ℕ) → count < d → nat_lt count d ≡ true
is-back d count fewer = grind (arith, nat_tests, fewer)

pub begins-at : BeginsAt
begins-at d n a deep =
    over-none (λ s t. Going d n n s t (sinks_of a) (sinks_of a)) a (λ input answers. going-none d n (state_of a input answers) (sinks_of a) (not-back d (length (callers_of a.body)) deep))

-- a step that is done goes to its state, and both sinks took what it puts
record Went (x : Next) (t : State) (old new : Sinks) : Type 0 where
  goes : GoesTo x t
  put : BothGrow old new (said_of x) (line_of x)

went : (x : Next) (did : Did) (cell : AFault) (s t : State) (old new : Sinks) → IsDone did → Done x did cell s t old new → Went x t old new
went x IsNext cell s t old new is done = record { goes = done.state; put = done.put }
went x Call cell s t old new is done = record { goes = done.state; put = done.put }
went x Return cell s t old new is done = record { goes = done.state; put = done.put }
went x (Exit code) cell s t old new is done = absurd is
went x Fault cell s t old new is done = absurd is
went x ReadFault cell s t old new is done = absurd is
went x OutFault cell s t old new is done = absurd is
went x TraceFault cell s t old new is done = absurd is

pub goes-on-at : GoesOnAt
goes-on-at d n left did cell a b c some is noted going acts deep =
    over-more (λ s t. Going d n left s t (sinks_of a) (sinks_of b)) (λ s t. Done (step s) did cell s t (sinks_of b) (sinks_of c))
    (λ s t. Going d n (left - 1) s t (sinks_of a) (sinks_of c)) a b c noted acts.devices
    (λ s t input answers so_far done.
    let it = went (step t) did cell t (state_of c input answers) (sinks_of b) (sinks_of c) is done in
    going-more d n left s t (state_of c input answers) (sinks_of a) (sinks_of b) (sinks_of c) some so_far it.goes (not-back d (length (callers_of c.body)) deep) it.put.out it.put.trace)
    going acts.step

pub comes-back-at : ComesBackAt
comes-back-at d n left did cell a b c some is noted going acts fewer =
    over-more (λ s t. Going d n left s t (sinks_of a) (sinks_of b)) (λ s t. Done (step s) did cell s t (sinks_of b) (sinks_of c))
    (λ s t. CameBack d n (left - 1) s t (sinks_of a) (sinks_of c)) a b c noted acts.devices
    (λ s t input answers so_far done.
    let it = went (step t) did cell t (state_of c input answers) (sinks_of b) (sinks_of c) is done in
    back-now d n left s t (state_of c input answers) (sinks_of a) (sinks_of b) (sinks_of c) some so_far it.goes (is-back d (length (callers_of c.body)) fewer) it.put.out it.put.trace)
    going acts.step

pub limit-at : LimitAt
limit-at d n left a b none going =
    over-same (λ s t. Going d n left s t (sinks_of a) (sinks_of b)) (λ s t. Stops d n left s t (sinks_of a) (sinks_of b) Limit) a b
    (λ s input answers so_far. limited-now d n left s (state_of b input answers) (sinks_of a) (sinks_of b) (omega (arith, none)) so_far) going

pub exits-at : ExitsAt
exits-at d n left code cell a b c some noted going acts =
    over-more (λ s t. Going d n left s t (sinks_of a) (sinks_of b)) (λ s t. Done (step s) (Exit code) cell s t (sinks_of b) (sinks_of c))
    (λ s t. Stops d n (left - 1) s t (sinks_of a) (sinks_of c) (ExitStop code)) a b c noted acts.devices
    (λ s t input answers so_far done.
    exits-now d n left s t (state_of c input answers) code (sinks_of a) (sinks_of b) (sinks_of c) some so_far done.state.0 done.state.1 done.put.out done.put.trace)
    going acts.step

pub faults-at : FaultsAt
faults-at d n left cell a b c some noted going acts =
    over-more (λ s t. Going d n left s t (sinks_of a) (sinks_of b)) (λ s t. Done (step s) Fault cell s t (sinks_of b) (sinks_of c))
    (λ s t. Stops d n left s t (sinks_of a) (sinks_of c) (FaultStop cell)) a b c noted acts.devices
    (λ s t input answers so_far done.
    faults-now d n left s t (state_of c input answers) cell (sinks_of a) (sinks_of b) (sinks_of c) some so_far done.state.0 done.state.1 done.put.out done.put.trace)
    going acts.step

pub read-breaks-at : ReadBreaksAt
read-breaks-at d n left cell a b c some noted going acts =
    over-more (λ s t. Going d n left s t (sinks_of a) (sinks_of b)) (λ s t. Done (step s) ReadFault cell s t (sinks_of b) (sinks_of c))
    (λ s t. Stops d n left s t (sinks_of a) (sinks_of c) ReadStop) a b c noted acts.devices
    (λ s t input answers so_far done.
    read-broke-now d n left s t (state_of c input answers) (sinks_of a) (sinks_of b) (sinks_of c) some so_far done.state.0 done.state.1 done.put.out done.put.trace)
    going acts.step

pub out-breaks-at : OutBreaksAt
out-breaks-at d n left cell a b c some noted going acts =
    over-more (λ s t. Going d n left s t (sinks_of a) (sinks_of b)) (λ s t. Done (step s) OutFault cell s t (sinks_of b) (sinks_of c))
    (λ s t. Stops d n left s t (sinks_of a) (sinks_of c) OutStop) a b c noted acts.devices
    (λ s t input answers so_far done.
    out-broke-now d n left s t (state_of c input answers) (sinks_of a) (sinks_of b) (sinks_of c) some so_far done.state.0 done.state.1 done.put.out done.put.trace)
    going acts.step

pub trace-breaks-at : TraceBreaksAt
trace-breaks-at d n left cell a b c some noted going acts =
    over-more (λ s t. Going d n left s t (sinks_of a) (sinks_of b)) (λ s t. Done (step s) TraceFault cell s t (sinks_of b) (sinks_of c))
    (λ s t. Stops d n (left - 1) s t (sinks_of a) (sinks_of c) TraceStop) a b c noted acts.devices
    (λ s t input answers so_far done.
    trace-broke-now d n left s t (state_of c input answers) (sinks_of a) (sinks_of b) (sinks_of c) some so_far done.state.0 done.state.1 done.put.out done.put.trace)
    going acts.step

pub callee-back : CalleeCameBack
callee-back e d n left l a b c deeper noted then_noted going came deep =
    over-more (λ s t. Going d n left s t (sinks_of a) (sinks_of b)) (λ s t. CameBack e left l s t (sinks_of b) (sinks_of c))
    (λ s t. Going d n l s t (sinks_of a) (sinks_of c)) a b c noted then_noted
    (λ s t input answers so_far back.
    nested-back e d n left l s t (state_of c input answers) (sinks_of a) (sinks_of b) (sinks_of c) deeper so_far back (not-back d (length (callers_of c.body)) deep))
    going came

pub callee-stopped : CalleeStopped
callee-stopped e d n left l a b c stop deeper noted then_noted going stops =
    over-more (λ s t. Going d n left s t (sinks_of a) (sinks_of b)) (λ s t. Stops e left l s t (sinks_of b) (sinks_of c) stop)
    (λ s t. Stops d n l s t (sinks_of a) (sinks_of c) stop) a b c noted then_noted
    (λ s t input answers so_far ended. nested-stops e d n left l s t (state_of c input answers) (sinks_of a) (sinks_of b) (sinks_of c) stop deeper so_far ended)
    going stops

pub cut-goes-on : CutGoesOn
cut-goes-on n m left l a b c stop noted then_noted first then =
    over-more (λ s t. Stops 0 n left s t (sinks_of a) (sinks_of b) Limit) (λ s t. Stops 0 m l s t (sinks_of b) (sinks_of c) stop)
    (λ s t. Stops 0 (n + m) l s t (sinks_of a) (sinks_of c) stop) a b c noted then_noted
    (λ s t input answers cut ended. cut-stops n m left l s t (state_of c input answers) (sinks_of a) (sinks_of b) (sinks_of c) stop cut ended)
    first then

pub stops-imply : StopsImply
stops-imply d n left e m l a b stop implies stops =
    over-same (λ s t. Stops d n left s t (sinks_of a) (sinks_of b) stop) (λ s t. Stops e m l s t (sinks_of a) (sinks_of b) stop) a b
    (λ s input answers it. implies s (state_of b input answers) it) stops

pub cuts-continue : CutsContinue
cuts-continue n m a b c stop noted then_noted first then =
    record {
      left = then.left;
      fewer = let less : then.left ≤ m = then.fewer in omega (arith, less);
      run = cut-goes-on n m first.left then.left a b c stop noted then_noted first.run then.run;
    }
