-- A run that is on its way, and what runs of callees make of it.
use Rattle.std.proofs.Common.{ℕ, ◌-◌, ◌<◌, ◌≤◌, length, None, arith}
use Rattle.mix_bits.specs.declared.fault.Fault.{Fault}
use Rattle.switch_frame.specs.declared.active.Active.{Active}
use Rattle.switch_frame.specs.Records.{isa_of}
use Rattle.dev_rack.specs.Accounts.{Accounts}
use Rattle.dev_rack.proofs.Steps.{accounts-join, accounts-none}
use Rattle.mixed_machine.specs.declared.did.Did.{Did}
use Rattle.mixed_machine.specs.declared.stop.Stop.{Stop}
use Rattle.mixed_machine.specs.laws.Acts.{Acts}
use Rattle.toolbox.specs.Blames.{Calm}
use Rattle.mixed_machine.specs.CountsClauses.{Blames, counts_of}
use Rattle.mixed_machine.specs.Counts.{broken_at}
use Rattle.mixed_machine.specs.laws.Events.{GoingAt, IsDeep, IsDone}
use Rattle.mixed_machine.specs.Events.{StopsAt}
use Rattle.mixed_machine.specs.Machine.{IsWhole, callers_of}
use Rattle.mixed_machine.specs.OutsideClauses.{At}
use Rattle.mixed_machine.specs.Step.{step}
use Rattle.mixed_machine.proofs.Machines.{begins-at, callee-back, callee-stopped, goes-on-at}
use Rattle.toolbox.proofs.Blaming.{blamed-after, calm-first}
use Rattle.mix_engine.specs.Turns.{Turned}
use Rattle.mix_engine.specs.declared.turn.Turn.TheVariants.{Back, Stop as Stopped}

-- a run down to d callers, on its way from a to b with `left` of n steps left
pub record Way (d n left : ℕ) (a b : At) : Type 0 where
  pub whole : IsWhole b.body (isa_of b.active)
  pub fewer : left ≤ n
  pub calm : Calm (counts_of a) (counts_of b)
  pub devices : Accounts a.outside.rack b.outside.rack
  pub going : GoingAt d n left a b

-- one that stopped
pub record Ended (d n left : ℕ) (a b : At) (stop : Stop) : Type 0 where
  pub whole : IsWhole b.body (isa_of b.active)
  pub fewer : left ≤ n
  pub blames : Blames stop (counts_of a) (counts_of b)
  pub devices : Accounts a.outside.rack b.outside.rack
  pub stops : StopsAt d n left a b stop

pub way-begins : (d n : ℕ) (a : At) → IsDeep d a → IsWhole a.body (isa_of a.active) → Way d n n a a
way-begins d n a deep whole =
    record { whole = whole; fewer = omega arith; calm = calm-first (counts_of a); devices = accounts-none a.outside.rack; going = begins-at d n a deep }

-- a step is done
pub way-on : (d n left : ℕ) (did : Did) (cell : Fault) (a b c : At) → 0 < left → IsDone did → Way d n left a b → Acts step did cell b c
    → Calm (counts_of b) (counts_of c) → IsDeep d c → Way d n (left - 1) a c
way-on d n left did cell a b c some done way acts calm deep =
    let fewer : left ≤ n = way.fewer in
    record {
      whole = acts.whole;
      fewer = omega (arith, fewer);
      calm = blamed-after None (counts_of a) (counts_of b) (counts_of c) way.calm calm;
      devices = accounts-join a.outside.rack b.outside.rack c.outside.rack way.devices acts.devices;
      going = goes-on-at d n left did cell a b c some done way.devices way.going acts deep;
    }

-- a run that was part of it came back
pub way-back : (d n left l : ℕ) (a b c : At) (file : Active) → d ≤ length (callers_of b.body) → Way d n left a b → Turned left l b c (Back file) → IsDeep d c → Way d n l a c
way-back d n left l a b c file deeper way came deep =
    let fewer : left ≤ n = way.fewer in
    let less : l ≤ left = came.fewer in
    record {
      whole = came.whole;
      fewer = omega (arith, fewer, less);
      calm = blamed-after None (counts_of a) (counts_of b) (counts_of c) way.calm came.blames;
      devices = accounts-join a.outside.rack b.outside.rack c.outside.rack way.devices came.devices;
      going = callee-back (length (callers_of b.body)) d n left l a b c deeper way.devices came.devices way.going came.run deep;
    }

-- or stopped
pub way-stopped : (d n left l : ℕ) (a b c : At) (file : Active) (stop : Stop) → d ≤ length (callers_of b.body) → Way d n left a b → Turned left l b c (Stopped file stop) → Ended d n l a c stop
way-stopped d n left l a b c file stop deeper way turn =
    let fewer : left ≤ n = way.fewer in
    let less : l ≤ left = turn.fewer in
    record {
      whole = turn.whole;
      fewer = omega (arith, fewer, less);
      blames = blamed-after (broken_at stop) (counts_of a) (counts_of b) (counts_of c) way.calm turn.blames;
      devices = accounts-join a.outside.rack b.outside.rack c.outside.rack way.devices turn.devices;
      stops = callee-stopped (length (callers_of b.body)) d n left l a b c stop deeper way.devices turn.devices way.going turn.run;
    }

-- the step after it stopped it
pub way-ends : (d n left l : ℕ) (did : Did) (cell : Fault) (a b c : At) (stop : Stop) → l ≤ left → Way d n left a b → Acts step did cell b c
    → Blames stop (counts_of b) (counts_of c) → StopsAt d n l a c stop → Ended d n l a c stop
way-ends d n left l did cell a b c stop less way acts blames stops =
    let fewer : left ≤ n = way.fewer in
    record {
      whole = acts.whole;
      fewer = omega (arith, fewer, less);
      blames = blamed-after (broken_at stop) (counts_of a) (counts_of b) (counts_of c) way.calm blames;
      devices = accounts-join a.outside.rack b.outside.rack c.outside.rack way.devices acts.devices;
      stops = stops;
    }

-- a run of the whole machine, down to no caller
pub whole-begins : (n : ℕ) (a : At) → IsWhole a.body (isa_of a.active) → Way 0 n n a a
whole-begins n a whole = way-begins 0 n a (omega arith) whole

pub whole-back : (n left l : ℕ) (a b c : At) (file : Active) → Way 0 n left a b → Turned left l b c (Back file) → Way 0 n l a c
whole-back n left l a b c file way came = way-back 0 n left l a b c file (omega arith) way came (omega arith)

pub whole-stopped : (n left l : ℕ) (a b c : At) (file : Active) (stop : Stop) → Way 0 n left a b → Turned left l b c (Stopped file stop) → Ended 0 n l a c stop
whole-stopped n left l a b c file stop way turn = way-stopped 0 n left l a b c file stop (omega arith) way turn
