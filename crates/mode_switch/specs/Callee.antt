-- What a callee of a set is handed.
use Rattle.std.specs.Prelude.{ℕ, ◌+◌, ◌-◌, Bool, is_some, List, Option}
use Rattle.mix_bits.specs.declared.isa.Isa.{Isa}
use Rattle.mix_bits.specs.declared.isa.Isa.TheVariants.{M68 as set_m68, Ppc as set_ppc}
use Rattle.proc_info.specs.Signature.{Signature}
use Rattle.args_m68.specs.Deliver.{below as below_68k, callee_registers as registers_68k, stack_of as stack_68k}
use Rattle.args_m68.specs.Results.{removed as removed_68k}
use Rattle.args_ppc.specs.Deliver.{below as below_ppc, callee_registers as registers_ppc, callee_words, frame_of}
use Rattle.switch_frame.specs.declared.active.Active.{Active}
use Rattle.switch_frame.specs.declared.active.Active.TheVariants.{M68, Ppc}
use Rattle.mode_switch.specs.declared.passed.Entry.{Entry}

-- how many bytes of stack it is given; `passed` says whether it gets a selector
abbrev pub below : Isa → Signature → Bool → ℕ
below set_m68 sig passed = below_68k sig passed
below set_ppc sig passed = below_ppc sig passed

-- its stack pointer, where its stack ends at lo
abbrev pub callee_sp : Isa → Signature → Option ℕ → ℕ → ℕ
callee_sp set sig selector lo = lo - below set sig (is_some selector)

-- the bytes of its stack from there on
abbrev pub stack_of : Isa → Signature → Option ℕ → List ℕ → List ℕ
stack_of set_m68 sig selector values = stack_68k sig selector values
stack_of set_ppc sig selector values = frame_of (callee_words sig selector values)

-- its registers: the address of its data is in A5, or, as its TOC, in r2
abbrev pub fresh : Isa → Signature → Option ℕ → List ℕ → ℕ → Entry → Active
fresh set_m68 sig selector values sp entry = M68 (registers_68k sig selector values entry.globals sp entry.code)
fresh set_ppc sig selector values sp entry = Ppc (registers_ppc sig selector values sp entry.code entry.globals)

-- the stack pointer at which it is expected to return, from the one that it was given
abbrev pub return_sp : Isa → Signature → Option ℕ → ℕ → ℕ
return_sp set_m68 sig selector sp = sp + removed_68k sig (is_some selector)
return_sp set_ppc sig selector sp = sp
