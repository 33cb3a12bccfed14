-- Laws of a run that is done a step at a time, with the frames that its steps make and give up.
use Rattle.std.specs.Prelude.{◌≡◌, ℕ, ◌+◌, ◌-◌, ◌<◌}
use Rattle.std.specs.Int.{from_bool}
use Rattle.mix_bits.specs.declared.fault.Fault.{Fault}
use Rattle.mixed_machine.specs.State.{State}
use Rattle.mixed_machine.specs.Exec.{exec}
use Rattle.mixed_machine.specs.Exec.How.{Limited, Exited, Faulted}
use Rattle.mixed_machine.specs.Exec.End.{Ended}
use Rattle.mixed_machine.specs.Crossings.{Counted}
use Rattle.mixed_machine.specs.StepClauses.{gives_up_frame, makes_frame}
use Rattle.mixed_machine.specs.laws.Crossings.{Counting}

abbrev pub CountBegins : Type 0
CountBegins = (n : ℕ) (s : State) → Counting n n s s 0 0

-- one more step was done
abbrev pub CountGoesOn : Type 0
CountGoesOn =
    (n left l calls returns : ℕ) (s t u : State) → 0 < left → Counting n left s t calls returns → exec 1 t ≡ Ended Limited u l
    → Counting n (left - 1) s u (calls + from_bool (makes_frame t u)) (returns + from_bool (gives_up_frame t u))

-- the next step is an exit, which is done; or a fault, which is not
abbrev pub CountExits : Type 0
CountExits =
    (n left l calls returns code : ℕ) (s t u : State) → 0 < left → Counting n left s t calls returns → exec 1 t ≡ Ended (Exited code) u l
    → Counted n (left - 1) s u (Exited code) calls returns

abbrev pub CountFaults : Type 0
CountFaults =
    (n left l calls returns : ℕ) (fault : Fault) (s t u : State) → 0 < left → Counting n left s t calls returns → exec 1 t ≡ Ended (Faulted fault) u l
    → Counted n left s u (Faulted fault) calls returns

-- no step is left
abbrev pub CountLimit : Type 0
CountLimit = (n calls returns : ℕ) (s t : State) → Counting n 0 s t calls returns → Counted n 0 s t Limited calls returns
