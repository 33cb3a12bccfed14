-- Runs of one step each, one after the other, are one run.
use Rattle.std.proofs.Common.{◌≡◌, ◌≢◌, ℕ, suc, ◌+◌, ◌-◌, ◌<◌, ◌≤◌, Bool, true, false, None, arith, sym, subst, refl}
use Rattle.std.specs.Int.{from_bool}
use Rattle.mix_bits.specs.declared.fault.Fault.{Fault as AFault}
use Rattle.switch_frame.specs.Records.{isa_of}
use Rattle.dev_rack.specs.Accounts.{Accounts}
use Rattle.dev_rack.proofs.Steps.{accounts-join, accounts-none}
use Rattle.toolbox.specs.Blames.{Calm}
use Rattle.toolbox.proofs.Blaming.{blamed-after, calm-first}
use Rattle.mixed_machine.specs.declared.stop.Stop.{Stop}
use Rattle.mixed_machine.specs.declared.stop.Stop.TheVariants.{Exit, Fault, Limit, ReadFault, OutFault, TraceFault}
use Rattle.mixed_machine.specs.State.{State}
use Rattle.mixed_machine.specs.Next.{Next}
use Rattle.mixed_machine.specs.Next.Next.{Exits, Faults, Goes}
use Rattle.mixed_machine.specs.Step.{step}
use Rattle.mixed_machine.specs.Exec.{How, Leads, exec_to, goes_on, is_back, rests}
use Rattle.mixed_machine.specs.Exec.End.{Ended}
use Rattle.mixed_machine.specs.Exec.How.{Exited, Faulted, Limited}
use Rattle.mixed_machine.specs.Machine.{IsWhole}
use Rattle.mixed_machine.specs.CountsClauses.{Blames, counts_of}
use Rattle.mixed_machine.specs.Events.{StopsAt}
use Rattle.mixed_machine.specs.OutsideClauses.{At}
use Rattle.mixed_machine.specs.Runs.{OutBroke, Ran, ReadBroke, Sinks, SinksTook, Stops, TraceBroke}
use Rattle.mixed_machine.specs.RunsClauses.{Runs, sinks_of}
use Rattle.mixed_machine.proofs.Machines.{begins-at, cut-goes-on, limit-at, stops-imply}
use Rattle.mixed_machine.proofs.Runs.{exec-stays, limits-last}
use Rattle.look_commands.specs.inner.Counted.{ends, is_done}
use Rattle.look_commands.specs.Runs.{RanSteps}

-- a run of one step that ended with an exit has no step left, and one with a fault has it left
rests-exit : (b : Bool) (s t : State) (left code : ℕ) → rests b s ≡ Ended (Exited code) t left → left ≡ 0
rests-exit true s t left code ends = cc
rests-exit false s t left code ends = cc

once-exit : (b : Bool) (x : Next) (s t : State) (left code : ℕ) → goes_on b x s 0 (λ u. rests (is_back 0 u) u) ≡ Ended (Exited code) t left → left ≡ 0
once-exit true x s t left code ends = cc
once-exit false (Goes u effects) s t left code ends = rests-exit (is_back 0 u) u t left code ends
once-exit false (Exits c) s t left code ends = cc
once-exit false (Faults f) s t left code ends = cc

rests-fault : (b : Bool) (s t : State) (left : ℕ) (fault : AFault) → rests b s ≡ Ended (Faulted fault) t left → left ≡ 1
rests-fault true s t left fault ends = cc
rests-fault false s t left fault ends = cc

once-fault : (b : Bool) (x : Next) (s t : State) (left : ℕ) (fault : AFault) → goes_on b x s 0 (λ u. rests (is_back 0 u) u) ≡ Ended (Faulted fault) t left → left ≡ 1
once-fault true x s t left fault ends = cc
once-fault false (Goes u effects) s t left fault ends = rests-fault (is_back 0 u) u t left fault ends
once-fault false (Exits c) s t left fault ends = cc
once-fault false (Faults f) s t left fault ends = cc

exit-left : (s t : State) (left code : ℕ) → exec_to 0 1 s ≡ Ended (Exited code) t left → left ≡ 0
unfolding exec_to
exit-left s t left code ends = once-exit (is_back 0 s) (step s) s t left code ends

fault-left : (s t : State) (left : ℕ) (fault : AFault) → exec_to 0 1 s ≡ Ended (Faulted fault) t left → left ≡ 1
unfolding exec_to
fault-left s t left fault ends = once-fault (is_back 0 s) (step s) s t left fault ends

-- how many steps a run of one step has left
one-left : (left : ℕ) (s t : State) (old new : Sinks) (stop : Stop) → Stops 0 1 left s t old new stop → left ≡ 1 - from_bool (is_done stop)
one-left left s t old new (Exit code) stops = let ran : Ran 0 1 left s t (Exited code) old new = stops in exit-left s t left code ran.ends
one-left left s t old new (Fault fault) stops = let ran : Ran 0 1 left s t (Faulted fault) old new = stops in fault-left s t left fault ran.ends
one-left left s t old new Limit stops = let ran : Ran 0 1 left s t Limited old new = stops in limits-last 0 1 left s t ran.ends
one-left left s t old new ReadFault stops =
    let broke : ReadBroke 0 1 left s t old new = stops in let some : 0 < left = broke.some in let fewer : left ≤ 1 = broke.fewer in omega (arith, some, fewer)
one-left left s t old new OutFault stops =
    let broke : OutBroke 0 1 left s t old new = stops in let some : 0 < left = broke.some in let fewer : left ≤ 1 = broke.fewer in omega (arith, some, fewer)
one-left left s t old new TraceFault stops = let broke : TraceBroke 0 1 left s t old new = stops in let fewer : left < 1 = broke.fewer in omega (arith, fewer)

-- a run that stopped before its limit, with more steps allowed
ran-more : (m left : ℕ) (how : How) (s t : State) (old new : Sinks) → how ≢ Limited → Ran 0 1 left s t how old new → Ran 0 (1 + m) (left + m) s t how old new
ran-more m left how s t old new ended ran =
    let fewer : left ≤ 1 = ran.fewer in
    let same : 1 - left ≡ (1 + m) - (left + m) = omega (arith, fewer) in
    record {
      fewer = omega (arith, fewer);
      ends = exec-stays 0 1 m left how s t ended ran.ends;
      took = subst (λ j. SinksTook j s old new) same ran.took;
    }

read-more : (m left : ℕ) (s t : State) (old new : Sinks) → ReadBroke 0 1 left s t old new → ReadBroke 0 (1 + m) (left + m) s t old new
read-more m left s t old new broke =
    let some : 0 < left = broke.some in
    let fewer : left ≤ 1 = broke.fewer in
    let same : 1 - left ≡ (1 + m) - (left + m) = omega (arith, fewer) in
    record {
      some = omega (arith, some);
      fewer = omega (arith, fewer);
      leads = subst (λ j. Leads 0 j s t) same broke.leads;
      reads = broke.reads;
      took = subst (λ j. SinksTook j s old new) same broke.took;
    }

out-more : (m left : ℕ) (s t : State) (old new : Sinks) → OutBroke 0 1 left s t old new → OutBroke 0 (1 + m) (left + m) s t old new
out-more m left s t old new broke =
    let some : 0 < left = broke.some in
    let fewer : left ≤ 1 = broke.fewer in
    let same : (1 + m) - (left + m) ≡ 1 - left = omega (arith, fewer) in
    record {
      some = omega (arith, some);
      fewer = omega (arith, fewer);
      leads = rw same broke.leads;
      says = broke.says;
      said = rw same broke.said;
      traced = rw same broke.traced;
    }

trace-more : (m left : ℕ) (s t : State) (old new : Sinks) → TraceBroke 0 1 left s t old new → TraceBroke 0 (1 + m) (left + m) s t old new
trace-more m left s t old new broke =
    let fewer : left < 1 = broke.fewer in
    let same : (1 + m) - (left + m) ≡ 1 - left = omega (arith, fewer) in
    let last : (1 + m) - suc (left + m) ≡ 1 - suc left = omega (arith, fewer) in
    record {
      last = broke.last;
      fewer = omega (arith, fewer);
      leads = rw last broke.leads;
      goes = broke.goes;
      tells = broke.tells;
      said = rw same broke.said;
      traced = rw last broke.traced;
    }

stops-more : (m left : ℕ) (s t : State) (old new : Sinks) (stop : Stop) → stop ≢ Limit → Stops 0 1 left s t old new stop → Stops 0 (1 + m) (left + m) s t old new stop
stops-more m left s t old new (Exit code) ended stops = ran-more m left (Exited code) s t old new (λ is. cc) stops
stops-more m left s t old new (Fault fault) ended stops = ran-more m left (Faulted fault) s t old new (λ is. cc) stops
stops-more m left s t old new Limit ended stops = absurd (ended refl)
stops-more m left s t old new ReadFault ended stops = read-more m left s t old new stops
stops-more m left s t old new OutFault ended stops = out-more m left s t old new stops
stops-more m left s t old new TraceFault ended stops = trace-more m left s t old new stops

-- so many steps, each a run by itself, led from one machine to another
pub record Cut (n : ℕ) (a b : At) : Type 0 where
  pub whole : IsWhole b.body (isa_of b.active)
  pub calm : Calm (counts_of a) (counts_of b)
  pub devices : Accounts a.outside.rack b.outside.rack
  pub run : StopsAt 0 n 0 a b Limit

pub cut-begins : (a : At) → IsWhole a.body (isa_of a.active) → Cut 0 a a
cut-begins a whole =
    record {
      whole = whole;
      calm = calm-first (counts_of a);
      devices = accounts-none a.outside.rack;
      run = limit-at 0 0 0 a a (omega arith) (begins-at 0 0 a (omega arith));
    }

-- two runs, the second of which stopped
join : (n m left : ℕ) (a b c : At) (stop : Stop) → Cut n a b → Accounts b.outside.rack c.outside.rack → StopsAt 0 m left b c stop → StopsAt 0 (n + m) left a c stop
join n m left a b c stop cut noted then = cut-goes-on n m 0 left a b c stop cut.devices noted cut.run then

-- the same of one step, with what it has left
one : (b c : At) (stop : Stop) → Runs 1 b c stop → StopsAt 0 1 (1 - from_bool (is_done stop)) b c stop
one b c stop runs =
    stops-imply 0 1 runs.left 0 1 (1 - from_bool (is_done stop)) b c stop
    (λ s t stops. subst (λ l. Stops 0 1 l s t (sinks_of b) (sinks_of c) stop) (one-left runs.left s t (sinks_of b) (sinks_of c) stop stops) stops)
    runs.run

-- one step more
cut-goes : (n : ℕ) (a b c : At) (stop : Stop) → stop ≡ Limit → Cut n a b → IsWhole c.body (isa_of c.active) → Runs 1 b c stop → Blames stop (counts_of b) (counts_of c)
    → Accounts b.outside.rack c.outside.rack → Cut (n + 1) a c
cut-goes n a b c stop is cut whole runs blames noted =
    record {
      whole = whole;
      calm = blamed-after None (counts_of a) (counts_of b) (counts_of c) cut.calm (subst (λ s. Blames s (counts_of b) (counts_of c)) is blames);
      devices = accounts-join a.outside.rack b.outside.rack c.outside.rack cut.devices noted;
      run = join n 1 0 a b c Limit cut noted (one b c Limit (subst (λ s. Runs 1 b c s) is runs));
    }

left-is : (b : Bool) (n i done : ℕ) → i < n → done ≡ i + from_bool b → (1 - from_bool b) + (n - suc i) ≡ n - done
left-is true n i done fewer is = omega (arith, fewer, is)
left-is false n i done fewer is = omega (arith, fewer, is)

few-are : (b : Bool) (n i done : ℕ) → i < n → done ≡ i + from_bool b → done ≤ n
few-are true n i done fewer is = omega (arith, fewer, is)
few-are false n i done fewer is = omega (arith, fewer, is)

-- the step at which the run stopped, where more steps are allowed
more : (m : ℕ) (b c : At) (stop : Stop) → stop ≢ Limit → StopsAt 0 1 (1 - from_bool (is_done stop)) b c stop → StopsAt 0 (1 + m) ((1 - from_bool (is_done stop)) + m) b c stop
more m b c stop ended stops =
    stops-imply 0 1 (1 - from_bool (is_done stop)) 0 (1 + m) ((1 - from_bool (is_done stop)) + m) b c stop
    (λ s t it. stops-more m (1 - from_bool (is_done stop)) s t (sinks_of b) (sinks_of c) stop ended it) stops

cut-stops_at : (n i done : ℕ) (a b c : At) (stop : Stop) → i < n → done ≡ i + from_bool (is_done stop) → stop ≢ Limit → Cut i a b → Runs 1 b c stop
    → Accounts b.outside.rack c.outside.rack → RanSteps n done a c stop
cut-stops_at n i done a b c stop fewer done_is ended cut runs noted =
    let m = n - suc i in
    let all : i + (1 + m) ≡ n = omega (arith, fewer) in
    let left : (1 - from_bool (is_done stop)) + m ≡ n - done = left-is (is_done stop) n i done fewer done_is in
    let whole : StopsAt 0 (i + (1 + m)) ((1 - from_bool (is_done stop)) + m) a c stop =
    join i (1 + m) ((1 - from_bool (is_done stop)) + m) a b c stop cut noted (more m b c stop ended (one b c stop runs)) in
    record {
      few = few-are (is_done stop) n i done fewer done_is;
      run = subst (λ k. StopsAt 0 k (n - done) a c stop) all (subst (λ l. StopsAt 0 (i + (1 + m)) l a c stop) left whole);
    }

-- how the step ended is told by whether it ended the run
ended-other : (stop : Stop) → true ≡ ends stop → stop ≢ Limit
ended-other (Exit code) is = λ same. cc
ended-other (Fault fault) is = λ same. cc
ended-other Limit is = λ same. cc
ended-other ReadFault is = λ same. cc
ended-other OutFault is = λ same. cc
ended-other TraceFault is = λ same. cc

limit-is : (stop : Stop) → false ≡ ends stop → stop ≡ Limit
limit-is (Exit code) is = cc
limit-is (Fault fault) is = cc
limit-is Limit is = refl
limit-is ReadFault is = cc
limit-is OutFault is = cc
limit-is TraceFault is = cc

pub stopped : (n i done : ℕ) (a b c : At) (stop told : Stop) → i < n → done ≡ i + from_bool (is_done stop) → told ≡ stop → true ≡ ends stop → Cut i a b → Runs 1 b c stop
    → Accounts b.outside.rack c.outside.rack → RanSteps n done a c told
stopped n i done a b c stop told fewer done_is same is cut runs noted =
    subst (λ s. RanSteps n done a c s) (sym same) (cut-stops_at n i done a b c stop fewer done_is (ended-other stop is) cut runs noted)

pub went-on : (n : ℕ) (a b c : At) (stop : Stop) → false ≡ ends stop → Cut n a b → IsWhole c.body (isa_of c.active) → Runs 1 b c stop → Blames stop (counts_of b) (counts_of c)
    → Accounts b.outside.rack c.outside.rack → Cut (n + 1) a c
went-on n a b c stop is cut whole runs blames noted = cut-goes n a b c stop (limit-is stop is) cut whole runs blames noted
