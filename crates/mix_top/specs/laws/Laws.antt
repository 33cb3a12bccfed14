-- A run that was cut, kept and continued is the uncut run.
use Rattle.std.specs.Prelude.{◌≡◌, ℕ, ◌+◌, ◌-◌, ◌≤◌, ◌⊎◌, List, [], ◌++◌, Option, Some, IsSomeAnd}
use Rattle.mix_io.specs.Streams.{Output, Grows}
use Rattle.switch_frame.specs.Records.{isa_of}
use Rattle.toolbox.specs.Calls.{Taken}
use Rattle.toolbox.specs.Effects.{Around}
use Rattle.call_trace.specs.Lines.{end_line}
use Rattle.call_trace.specs.declared.end.End.TheVariants.{Limit}
use Rattle.mixed_machine.specs.State.{State}
use Rattle.mixed_machine.specs.Exec.{How, exec, log, said_of, line_of}
use Rattle.mixed_machine.specs.Exec.End.{Ended}
use Rattle.mixed_machine.specs.Outside.{TookAll, ToldAll}
use Rattle.toolbox.specs.Calls.{around_at}
use Rattle.mix_top.specs.World.{Beside}
use Rattle.mix_top.specs.Running.{MachineRan, status_of}
use Rattle.mix_top.specs.laws.Running.{answers_given}
use Rattle.mixed_machine.specs.Endings.{end_of}
use Rattle.mix_top.specs.Continuing.{ContinueWay}
use Rattle.mix_top.specs.declared.ending.Ending.{Ending}

-- between two calls: what the first kept under a name, which had nothing before, is an image; and the second begins with
-- the input and the devices as the first left them
pub record IsBetween (name image : List ℕ) (before after next : Beside) : Type 0 where
  pub unused : IsSomeAnd before.keep.kept (λ kept. kept name ≡ [])
  pub kept : IsSomeAnd after.keep.kept (λ kept. kept name ≡ image)
  pub input : next.outside.input.left ≡ after.outside.input.left
  pub rack : next.outside.rack ≡ after.outside.rack

-- two sinks took these bytes, one after the other, each with a last line of its own
pub record TookBoth (bytes line last_line : List ℕ) (a b c d : Output) : Type 0 where
  pub front : List ℕ
  pub back : List ℕ
  pub order : bytes ≡ front ++ back
  pub first : Grows a b (front ++ line)
  pub second : Grows c d (back ++ last_line)

-- two calls together did what one run of so many steps does: the steps that were done of both are those of the run, their
-- outputs one after the other, and their traces without the first `limit` line, are its own, and the status of the second
-- is that of its end
pub record AreOneRun (steps done : ℕ) (start : State) (after : Around) (a b c d : Beside) (result : ℕ) : Type 0 where
  pub last : State
  pub how : How
  pub fewer : done ≤ steps
  pub ends : exec steps start ≡ Ended how last (steps - done)
  pub around : last.around ≡ after
  pub out : TookBoth (log said_of done start) [] [] a.outside.out b.outside.out c.outside.out d.outside.out
  pub trace : TookBoth (log line_of done start) (end_line Limit) (end_line (end_of (isa_of last.active) how)) a.trace b.trace c.trace d.trace
  pub status : result ≡ status_of how

-- and that for every input that fits what both took, with the answers that the devices gave in both, one after the other
pub record RanAsOne (start : Around → State) (steps done : ℕ) (a b c d : Beside) (result : ℕ) : Type 0 where
  pub taken : List Taken
  pub told : ToldAll taken a.outside.input.left d.outside.input.left
  pub each : (before after : List ℕ) (rest : List (Option ℕ)) → TookAll taken before after
      → AreOneRun steps done (start (around_at a.outside before (answers_given a b ++ (answers_given c d ++ rest)))) (around_at d.outside after rest) a b c d result

-- the status of a run that came to its end
abbrev pub IsEnd : ℕ → Type 0
IsEnd result = (result ≡ 0) ⊎ ((result ≡ 1) ⊎ ((result ≡ 10) ⊎ (result ≡ 11)))

-- where a run of n steps reached its limit, and its image was continued for m steps to an end, both are one run of n + m
abbrev pub ContinuedRunsAreOne : Type 0
ContinuedRunsAreOne =
    (name image : List ℕ) (save : Option (List ℕ)) (start : Around → State) (n m : ℕ) (a b c d : Beside) (first result : Ending)
    → MachineRan (Some name) start n a b first → first.status ≡ 11 → IsBetween name image a b c
    → ContinueWay save m image c d result → IsEnd result.status
    → RanAsOne start (n + m) (first.steps + result.steps) a b c d result.status
