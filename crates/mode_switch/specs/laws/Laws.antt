-- Laws of mode switches.
use Rattle.std.specs.Prelude.{◌≡◌, ℕ, is_some, List, length, Option}
use Rattle.mix_bits.specs.declared.isa.Isa.{Isa}
use Rattle.mix_bits.specs.declared.isa.Isa.TheVariants.{M68 as set_m68, Ppc as set_ppc}
use Rattle.big_memory.specs.Memory.{Memory}
use Rattle.proc_info.specs.Signature.{Signature}
use Rattle.m68_isa.specs.declared.registers.Regs68.{Regs68}
use Rattle.ppc_isa.specs.declared.registers.RegsPpc.{RegsPpc}
use Rattle.switch_frame.specs.Files.{sp_of}
use Rattle.switch_frame.specs.Records.{isa_of}
use Rattle.mode_switch.specs.declared.passed.Entry.{Entry}
use Rattle.mode_switch.specs.laws.Wanted.{Means}
use Rattle.mode_switch.specs.Wanted.{wants_68k, wants_ppc}
use Rattle.mode_switch.specs.Callee.{below, fresh, stack_of}

-- a wanted call is of the set's code, its procInfo has its signature, and there is a selector where one is due
abbrev pub MeansWhatItWants : Type 0
MeansWhatItWants =
    ((m : Memory) (r : Regs68) → Means set_m68 (wants_68k m r))
    × ((m : Memory) (r : RegsPpc) (pointer info : ℕ) → Means set_ppc (wants_ppc m r pointer info))

-- a callee's stack has as many bytes as it is said to take
abbrev pub FillsItsStack : Type 0
FillsItsStack =
    (set : Isa) (sig : Signature) (selector : Option ℕ) (values : List ℕ) → length values ≡ length sig.params
    → length (stack_of set sig selector values) ≡ below set sig (is_some selector)

-- its registers are of its set, with the stack pointer that it was given
abbrev pub IsOfItsSet : Type 0
IsOfItsSet =
    (set : Isa) (sig : Signature) (selector : Option ℕ) (values : List ℕ) (sp : ℕ) (entry : Entry)
    → isa_of (fresh set sig selector values sp entry) ≡ set

abbrev pub BeginsAtItsStack : Type 0
BeginsAtItsStack =
    (set : Isa) (sig : Signature) (selector : Option ℕ) (values : List ℕ) (sp : ℕ) (entry : Entry)
    → sp_of (fresh set sig selector values sp entry) ≡ sp
