-- A loop that steps, and at each crossing runs the callee, one event at a time.
use Rattle.std.proofs.Common.{◌≡◌, ℕ, zero, suc, ◌-◌, ◌<◌, ◌≤◌, List, ◌∷◌, length, None, arith, refl, sym, ap, ◌∙◌, subst}
use Rattle.mix_bits.specs.declared.fault.Fault.{Fault}
use Rattle.switch_frame.specs.declared.active.Active.{Active}
use Rattle.switch_frame.specs.Records.{Record, isa_of}
use Rattle.dev_rack.proofs.Steps.{accounts-join}
use Rattle.mixed_machine.specs.declared.did.Did.{Did}
use Rattle.mixed_machine.specs.declared.did.Did.TheVariants.{Next, Call, Return, Exit, Fault as FaultDid, ReadFault, OutFault, TraceFault}
use Rattle.mixed_machine.specs.declared.stop.Stop.{Stop}
use Rattle.mixed_machine.specs.declared.stop.Stop.TheVariants.{Exit as ExitStop, Fault as FaultStop, Limit, ReadFault as ReadStop, OutFault as OutStop, TraceFault as TraceStop}
use Rattle.mixed_machine.specs.laws.Acts.{Acts}
use Rattle.mixed_machine.specs.CountsClauses.{counts_of}
use Rattle.mixed_machine.specs.Machine.{IsWhole, callers_of}
use Rattle.mixed_machine.specs.OutsideClauses.{At}
use Rattle.mixed_machine.specs.Step.{step}
use Rattle.mix_engine.specs.Advances.{Advances, GoesOn}
use Rattle.mixed_machine.proofs.Machines.{comes-back-at, exits-at, faults-at, limit-at, out-breaks-at, read-breaks-at, trace-breaks-at}
use Rattle.toolbox.proofs.Blaming.{blamed-after}
use Rattle.mix_engine.specs.Turns.{Turned}
use Rattle.mix_engine.specs.declared.turn.Turn.TheVariants.{Back, Stop as Stopped}
use Rattle.mix_engine.proofs.Ways.{Ended, Way, way-back, way-begins, way-ends, way-on, way-stopped}

abbrev depth_of : At → ℕ
depth_of a = length (callers_of a.body)

-- the loop: on its way, with the callers at entry
pub record Turning (n left : ℕ) (a b : At) : Type 0 where
  pub callers : callers_of b.body ≡ callers_of a.body
  pub way : Way (length (callers_of a.body)) n left a b

pub begins : (n : ℕ) (a : At) → IsWhole a.body (isa_of a.active) → Turning n n a a
begins n a whole = record { callers = refl; way = way-begins (depth_of a) n a (omega arith) whole }

-- a step in the same set
goes-on : (n left : ℕ) (cell : Fault) (a b c : At) → 0 < left → Turning n left a b → Acts step Next cell b c → Turning n (left - 1) a c
goes-on n left cell a b c some turning acts =
    let kept : callers_of c.body ≡ callers_of a.body = acts.callers ∙ turning.callers in
    let count : length (callers_of c.body) ≡ length (callers_of a.body) = ap length kept in
    record { callers = kept; way = way-on (depth_of a) n left Next cell a b c some tt turning.way acts acts.blames (omega (arith, count)) }

-- several of them
several : (k n left : ℕ) (cell : Fault) (a b c : At) → k < left → Turning n left a b → GoesOn k b c → Turning n (left - k) a c
several zero n left cell a b c some turning goes =
    let none : left ≡ left - 0 = omega arith in subst (λ l. Turning n l a c) none (subst (Turning n left a) (sym goes) turning)
several (suc k) n left cell a b c some turning goes =
    let one : (left - k) - 1 ≡ left - suc k = omega (arith, some) in
    subst (λ l. Turning n l a c) one (goes-on n (left - k) cell a goes.0 c (omega (arith, some)) (several k n left cell a b goes.0 (omega (arith, some)) turning goes.1) (goes.2 cell))

-- until one that may end something
turned : (n left now : ℕ) (did : Did) (cell : Fault) (a b c : At) → 0 < now → now ≤ left → Turning n left a b → (it : Advances (left - now) did cell b c) → Turning n now a it.last
turned n left now did cell a b c some fewer turning it =
    let rest : left - (left - now) ≡ now = omega (arith, fewer) in
    subst (λ l. Turning n l a it.last) rest (several (left - now) n left cell a b it.last (omega (arith, some, fewer)) turning it.goes)

-- one step more in the same set
pub goes-next : (n left now : ℕ) (cell : Fault) (a b c : At) → 0 < now → now ≤ left → Turning n left a b → Advances (left - now) Next cell b c → Turning n (now - 1) a c
goes-next n left now cell a b c some fewer turning it = goes-on n now cell a it.last c some (turned n left now Next cell a b c some fewer turning it) it.acts

-- a crossing
deeper : (a b c : At) (r : Record) → callers_of b.body ≡ callers_of a.body → callers_of c.body ≡ r ∷ callers_of b.body → depth_of c ≡ suc (depth_of a)
deeper a b c r same called = ap length called ∙ ap (λ rs. suc (length rs)) same

-- the callee starts, with one caller more
record Called (n left : ℕ) (a c : At) : Type 0 where
  outer : Record
  callers : callers_of c.body ≡ outer ∷ callers_of a.body
  way : Way (length (callers_of a.body)) n left a c

called : (n left now : ℕ) (cell : Fault) (a b c : At) → 0 < now → now ≤ left → Turning n left a b → Advances (left - now) Call cell b c → Called n (now - 1) a c
called n left now cell a b c some fewer turning it =
    let last = turned n left now Call cell a b c some fewer turning it in
    let acts = it.acts in
    let count : length (callers_of c.body) ≡ suc (length (callers_of a.body)) = deeper a it.last c acts.callers.0 last.callers acts.callers.1 in
    record {
      outer = acts.callers.0;
      callers = acts.callers.1 ∙ ap (λ rs. acts.callers.0 ∷ rs) last.callers;
      way = way-on (depth_of a) n now Call cell a it.last c some tt last.way acts acts.blames (omega (arith, count));
    }

outside-same : (xs ys zs : List Record) (r s : Record) → xs ≡ r ∷ ys → xs ≡ s ∷ zs → zs ≡ ys
outside-same xs ys zs r s first then = cc

-- the callee came back
pub calls-back : (n left now l : ℕ) (cell : Fault) (a b c e : At) (file : Active) → 0 < now → now ≤ left → Turning n left a b → Advances (left - now) Call cell b c
    → Turned (now - 1) l c e (Back file) → Turning n l a e
calls-back n left now l cell a b c e file some fewer turning it came =
    let call = called n left now cell a b c some fewer turning it in
    let kept : callers_of e.body ≡ callers_of a.body = outside-same (callers_of c.body) (callers_of a.body) (callers_of e.body) call.outer came.callers.0 call.callers came.callers.1 in
    let count : length (callers_of c.body) ≡ suc (length (callers_of a.body)) = ap length call.callers in
    let back : length (callers_of e.body) ≡ length (callers_of a.body) = ap length kept in
    record { callers = kept; way = way-back (depth_of a) n (now - 1) l a c e file (omega (arith, count)) call.way came (omega (arith, back)) }

-- a run that stopped, with the registers of its end
stops : (n left : ℕ) (a b : At) (file : Active) (stop : Stop) → Ended (length (callers_of a.body)) n left a b stop → Turned n left a b (Stopped file stop)
stops n left a b file stop end =
    record { whole = end.whole; callers = tt; run = end.stops; fewer = end.fewer; blames = end.blames; devices = end.devices }

-- the callee stopped
pub calls-stop : (n left now l : ℕ) (cell : Fault) (a b c e : At) (file : Active) (stop : Stop) → 0 < now → now ≤ left → Turning n left a b → Advances (left - now) Call cell b c
    → Turned (now - 1) l c e (Stopped file stop) → Turned n l a e (Stopped file stop)
calls-stop n left now l cell a b c e file stop some fewer turning it turn =
    let call = called n left now cell a b c some fewer turning it in
    let count : length (callers_of c.body) ≡ suc (length (callers_of a.body)) = ap length call.callers in
    stops n l a e file stop (way-stopped (depth_of a) n (now - 1) l a c e file stop (omega (arith, count)) call.way turn)

-- a return
pub returns : (n left now : ℕ) (cell : Fault) (a b c : At) (file : Active) → 0 < now → now ≤ left → Turning n left a b → Advances (left - now) Return cell b c
    → Turned n (now - 1) a c (Back file)
returns n left now cell a b c file some fewer turning it =
    let last = turned n left now Return cell a b c some fewer turning it in
    let acts = it.acts in
    let below : now ≤ n = last.way.fewer in
    let one : length (callers_of a.body) ≡ suc (length (callers_of c.body)) = ap length (sym last.callers ∙ acts.callers.1) in
    record {
      whole = acts.whole;
      callers = (acts.callers.0, sym last.callers ∙ acts.callers.1);
      run = comes-back-at (depth_of a) n now Return cell a it.last c some tt last.way.devices last.way.going acts (omega (arith, one));
      fewer = omega (arith, below);
      blames = blamed-after None (counts_of a) (counts_of it.last) (counts_of c) last.way.calm acts.blames;
      devices = accounts-join a.outside.rack it.last.outside.rack c.outside.rack last.way.devices acts.devices;
    }

-- the ends
pub limits : (n left : ℕ) (a b : At) (file : Active) → left ≤ 0 → Turning n left a b → Turned n left a b (Stopped file Limit)
limits n left a b file none turning =
    stops n left a b file Limit (record {
      whole = turning.way.whole;
      fewer = turning.way.fewer;
      blames = turning.way.calm;
      devices = turning.way.devices;
      stops = limit-at (depth_of a) n left a b none turning.way.going;
    })

pub exits : (n left now code : ℕ) (cell : Fault) (a b c : At) (file : Active) → 0 < now → now ≤ left → Turning n left a b → Advances (left - now) (Exit code) cell b c
    → Turned n (now - 1) a c (Stopped file (ExitStop code))
exits n left now code cell a b c file some fewer turning it =
    let last = turned n left now (Exit code) cell a b c some fewer turning it in
    stops n (now - 1) a c file (ExitStop code) (way-ends (depth_of a) n now (now - 1) (Exit code) cell a it.last c (ExitStop code) (omega arith) last.way it.acts it.acts.blames
    (exits-at (depth_of a) n now code cell a it.last c some last.way.devices last.way.going it.acts))

pub faults : (n left now : ℕ) (cell : Fault) (a b c : At) (file : Active) → 0 < now → now ≤ left → Turning n left a b → Advances (left - now) FaultDid cell b c
    → Turned n now a c (Stopped file (FaultStop cell))
faults n left now cell a b c file some fewer turning it =
    let last = turned n left now FaultDid cell a b c some fewer turning it in
    stops n now a c file (FaultStop cell) (way-ends (depth_of a) n now now FaultDid cell a it.last c (FaultStop cell) (omega arith) last.way it.acts it.acts.blames
    (faults-at (depth_of a) n now cell a it.last c some last.way.devices last.way.going it.acts))

pub breaks-read : (n left now : ℕ) (cell : Fault) (a b c : At) (file : Active) → 0 < now → now ≤ left → Turning n left a b → Advances (left - now) ReadFault cell b c
    → Turned n now a c (Stopped file ReadStop)
breaks-read n left now cell a b c file some fewer turning it =
    let last = turned n left now ReadFault cell a b c some fewer turning it in
    stops n now a c file ReadStop (way-ends (depth_of a) n now now ReadFault cell a it.last c ReadStop (omega arith) last.way it.acts it.acts.blames
    (read-breaks-at (depth_of a) n now cell a it.last c some last.way.devices last.way.going it.acts))

pub breaks-out : (n left now : ℕ) (cell : Fault) (a b c : At) (file : Active) → 0 < now → now ≤ left → Turning n left a b → Advances (left - now) OutFault cell b c
    → Turned n now a c (Stopped file OutStop)
breaks-out n left now cell a b c file some fewer turning it =
    let last = turned n left now OutFault cell a b c some fewer turning it in
    stops n now a c file OutStop (way-ends (depth_of a) n now now OutFault cell a it.last c OutStop (omega arith) last.way it.acts it.acts.blames
    (out-breaks-at (depth_of a) n now cell a it.last c some last.way.devices last.way.going it.acts))

pub breaks-trace : (n left now : ℕ) (cell : Fault) (a b c : At) (file : Active) → 0 < now → now ≤ left → Turning n left a b → Advances (left - now) TraceFault cell b c
    → Turned n (now - 1) a c (Stopped file TraceStop)
breaks-trace n left now cell a b c file some fewer turning it =
    let last = turned n left now TraceFault cell a b c some fewer turning it in
    stops n (now - 1) a c file TraceStop (way-ends (depth_of a) n now (now - 1) TraceFault cell a it.last c TraceStop (omega arith) last.way it.acts it.acts.blames
    (trace-breaks-at (depth_of a) n now cell a it.last c some last.way.devices last.way.going it.acts))
