-- Host calls and traps in a run.
use Rattle.std.specs.Prelude.{ℕ, ◌==◌, if◌then◌else◌, [], Option, Some, None}
use Rattle.std.specs.Option.{option_map_or}
use Rattle.mix_bits.specs.declared.fault.FaultKind.TheVariants.{NoTrap}
use Rattle.m68_isa.specs.declared.registers.Regs68.{Regs68}
use Rattle.switch_frame.specs.declared.active.Active.{Active}
use Rattle.switch_frame.specs.declared.active.Active.TheVariants.{M68, Ppc}
use Rattle.routine_desc.specs.Layout.{mixed_mode_magic}
use Rattle.toolbox.specs.Effects.{Effects as HostEffects}
use Rattle.toolbox.specs.Functions.{trap_number}
use Rattle.toolbox.specs.Host.{Host, Hosted, host}
use Rattle.toolbox.specs.Host.Hosted.{Goes as GoesOn, Crosses, Leaves, Stops}
use Rattle.mode_switch.specs.Wanted.{wants_68k, wants_ppc}
use Rattle.mode_switch.specs.Wanted.Want.{Jumps}
use Rattle.call_trace.specs.Lines.{ask_line}
use Rattle.mixed_machine.specs.State.{State, seen, with_seen}
use Rattle.mixed_machine.specs.Next.{Next, Effects, faults}
use Rattle.mixed_machine.specs.Next.Next.{Goes, Exits, Faults}
use Rattle.mixed_machine.specs.Enter.{crosses}

-- what a host call sees of a state
abbrev pub host_of : State → Host
host_of s = record { active = s.active; resources = record { memory = seen s; heap = s.heap; around = s.around } }

-- an ask has a line of the trace
abbrev pub effects_of : HostEffects → Effects
effects_of e =
    record { said = e.said; line = option_map_or (λ a. ask_line a.slot a.word a.answer) e.asked []; reads = e.reads }

-- the state after a host call
abbrev pub after_host : State → Host → State
after_host s h = record (with_seen h.resources.memory s) { active = h.active; heap = h.resources.heap; around = h.resources.around }

-- code of a set goes on at a universal pointer, with a procInfo: PowerPC code by a call, and 68K code as at any code of
-- its own. No trap asks for that
abbrev pub universal : State → Active → ℕ → ℕ → Next
universal s (M68 r) pointer info = crosses s (Jumps pointer)
universal s (Ppc r) pointer info = crosses s (wants_ppc (seen s) r pointer info)

-- a host call, by what it does where it crosses
abbrev pub hosted_by : (ℕ → ℕ → Next) → State → Hosted → Next
hosted_by crossing s (GoesOn h effects) = Goes (after_host s h) (effects_of effects)
hosted_by crossing s (Crosses pointer info) = crossing pointer info
hosted_by crossing s (Leaves code) = Exits code
hosted_by crossing s (Stops fault) = Faults fault

-- a call of the host function with this number
unfoldable pub hosts : State → ℕ → Next
hosts s index = hosted_by (universal s s.active) s (host index (host_of s))

abbrev pub traps_to : State → ℕ → Option ℕ → Next
traps_to s word (Some index) = hosts s index
traps_to s word None = faults s NoTrap word 0

-- a word of line A in 68K code: a crossing at a routine descriptor, or a trap
unfoldable pub traps : State → Regs68 → ℕ → Next
traps s r word = if word == mixed_mode_magic then crosses s (wants_68k (seen s) r) else traps_to s word (trap_number word)
