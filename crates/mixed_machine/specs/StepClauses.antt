-- Kinds of steps, as laws name them.
use Rattle.std.specs.Prelude.{◌<◌, nat_lt, Bool, length}
use Rattle.mixed_machine.specs.State.{State}
use Rattle.mixed_machine.specs.Next.{Next}
use Rattle.mixed_machine.specs.Exec.{said_of, line_of}

-- whether more callers are suspended after a step from one state to another than before it, or fewer
abbrev pub makes_frame : State → State → Bool
makes_frame s t = nat_lt (length s.callers) (length t.callers)

abbrev pub gives_up_frame : State → State → Bool
gives_up_frame s t = nat_lt (length t.callers) (length s.callers)

-- a step that puts something on the output, and one that puts something on the trace
abbrev pub Says : Next → Type 0
Says x = 0 < length (said_of x)

abbrev pub Tells : Next → Type 0
Tells x = 0 < length (line_of x)
