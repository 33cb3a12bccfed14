-- A run of the machine over an output and a trace. The input, the output or the trace may stop it.
use Rattle.std.specs.Prelude.{◌≡◌, ℕ, suc, ◌-◌, ◌<◌, ◌≤◌, length}
use Rattle.mix_io.specs.Streams.{Output, Grows, Breaks}
use Rattle.mixed_machine.specs.declared.stop.Stop.{Stop}
use Rattle.mixed_machine.specs.declared.stop.Stop.TheVariants.{Exit, Fault, Limit, ReadFault, OutFault, TraceFault}
use Rattle.mixed_machine.specs.State.{State}
use Rattle.mixed_machine.specs.Step.{step}
use Rattle.mixed_machine.specs.Exec.{How, Leads, GoesTo, Reads, exec_to, log, said_of, line_of}
use Rattle.mixed_machine.specs.Exec.How.{Limited, Exited, Faulted}
use Rattle.mixed_machine.specs.Exec.End.{Ended}

-- the two sinks of a run
pub record Sinks : Type 0 where
  pub out : Output
  pub trace : Output

-- both took what j steps from a state put
pub record SinksTook (j : ℕ) (s : State) (old new : Sinks) : Type 0 where
  pub said : Grows old.out new.out (log said_of j s)
  pub traced : Grows old.trace new.trace (log line_of j s)

-- a run of at most n steps from s, down to d callers, that ended in t with `left` steps left
pub record Ran (d n left : ℕ) (s t : State) (how : How) (old new : Sinks) : Type 0 where
  pub fewer : left ≤ n
  pub ends : exec_to d n s ≡ Ended how t left
  pub took : SinksTook (n - left) s old new

-- one that the input stopped: the next step is one of those allowed, and reads the input
pub record ReadBroke (d n left : ℕ) (s t : State) (old new : Sinks) : Type 0 where
  pub some : 0 < left
  pub fewer : left ≤ n
  pub leads : Leads d (n - left) s t
  pub reads : Reads (step t)
  pub took : SinksTook (n - left) s old new

-- one that the output stopped: the next step is one of those allowed, and puts something, of which the output
-- took some front
pub record OutBroke (d n left : ℕ) (s t : State) (old new : Sinks) : Type 0 where
  pub some : 0 < left
  pub fewer : left ≤ n
  pub leads : Leads d (n - left) s t
  pub says : 0 < length (said_of (step t))
  pub said : Breaks old.out new.out (log said_of (n - left) s) (said_of (step t))
  pub traced : Grows old.trace new.trace (log line_of (n - left) s)

-- one that the trace stopped: the last step is done, and has a line, of which the trace took some front
pub record TraceBroke (d n left : ℕ) (s t : State) (old new : Sinks) : Type 0 where
  pub last : State
  pub fewer : left < n
  pub leads : Leads d (n - suc left) s last
  pub goes : GoesTo (step last) t
  pub tells : 0 < length (line_of (step last))
  pub said : Grows old.out new.out (log said_of (n - left) s)
  pub traced : Breaks old.trace new.trace (log line_of (n - suc left) s) (line_of (step last))

-- a run that stopped
abbrev pub Stops : ℕ → ℕ → ℕ → State → State → Sinks → Sinks → Stop → Type 0
Stops d n left s t old new (Exit code) = Ran d n left s t (Exited code) old new
Stops d n left s t old new (Fault fault) = Ran d n left s t (Faulted fault) old new
Stops d n left s t old new Limit = Ran d n left s t Limited old new
Stops d n left s t old new ReadFault = ReadBroke d n left s t old new
Stops d n left s t old new OutFault = OutBroke d n left s t old new
Stops d n left s t old new TraceFault = TraceBroke d n left s t old new
