-- One step of the machine: the first rule that applies.
use Rattle.std.specs.Prelude.{◌%◌, ◌==◌, not, if◌then◌else◌}
use Rattle.mix_bits.specs.declared.fault.FaultKind.TheVariants.{Odd, GateFetch}
use Rattle.m68_isa.specs.declared.registers.Regs68.{Regs68}
use Rattle.ppc_isa.specs.declared.registers.RegsPpc.{RegsPpc}
use Rattle.big_memory.specs.Map.{is_gate, in_gate_page}
use Rattle.big_memory.specs.Steps.{After}
use Rattle.big_memory.specs.Steps.After.{Goes as GoesOn, Leaves, Stops}
use Rattle.m68_effects.specs.Step.{stepped as stepped_68k}
use Rattle.ppc_integer.specs.Effects.{stepped as stepped_ppc}
use Rattle.switch_frame.specs.declared.active.Active.{Active}
use Rattle.switch_frame.specs.declared.active.Active.TheVariants.{M68, Ppc}
use Rattle.mixed_machine.specs.State.{State, seen, with_seen, with_active}
use Rattle.mixed_machine.specs.Next.{Next, faults, quiet}
use Rattle.mixed_machine.specs.Next.Next.{Goes, Faults}
use Rattle.mixed_machine.specs.Leave.{at_gate}
use Rattle.mixed_machine.specs.Host.{traps, hosts}

-- an instruction of 68K code, which may be a word of line A
abbrev pub after_68k : State → Regs68 → After Regs68 → Next
after_68k s r (GoesOn next memory) = Goes (with_seen memory (with_active (M68 next) s)) quiet
after_68k s r (Leaves word) = traps s r word
after_68k s r (Stops fault) = Faults fault

-- PowerPC code, an instruction or the code address of a host function
abbrev pub after_ppc : State → RegsPpc → After RegsPpc → Next
after_ppc s r (GoesOn next memory) = Goes (with_seen memory (with_active (Ppc next) s)) quiet
after_ppc s r (Leaves index) = hosts s index
after_ppc s r (Stops fault) = Faults fault

-- 68K code; the instruction's own step tests that its words lie in RAM
unfoldable pub step_68k : State → Regs68 → Next
step_68k s r =
    if r.pc % 2 == 1 then faults s Odd r.pc 0
    else (if is_gate r.pc then at_gate s
    else (if in_gate_page r.pc then faults s GateFetch r.pc 0
    else after_68k s r (stepped_68k r (seen s))))

-- PowerPC code; the instruction's own step tests the rest of the gate page, where the host functions have their code
-- addresses, and that its word lies in RAM
unfoldable pub step_ppc : State → RegsPpc → Next
step_ppc s r =
    if not (r.pc % 4 == 0) then faults s Odd r.pc 0
    else (if is_gate r.pc then at_gate s
    else after_ppc s r (stepped_ppc r (seen s)))

abbrev pub step_of : State → Active → Next
step_of s (M68 r) = step_68k s r
step_of s (Ppc r) = step_ppc s r

unfoldable pub step : State → Next
step s = step_of s s.active
