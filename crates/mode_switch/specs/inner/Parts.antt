-- Parts of what code wants.
use Rattle.std.specs.Prelude.{ℕ, List, Option, Result}
use Rattle.std.specs.Result.{result_map_both}
use Rattle.mix_bits.specs.declared.fault.Fault.{Fault}
use Rattle.mix_bits.specs.declared.fault.FaultKind.TheVariants.{Info as IsInfo}
use Rattle.big_memory.specs.declared.refusals.Access.{Access}
use Rattle.big_memory.specs.Faults.{fault_of}
use Rattle.big_memory.specs.Memory.{Memory}
use Rattle.proc_info.specs.declared.bad_info.BadInfo.{BadInfo}
use Rattle.proc_info.specs.Codes.{bad_info_code}
use Rattle.proc_info.specs.Signature.{Signature}
use Rattle.routine_desc.specs.declared.record.Rec.{Rec}
use Rattle.routine_desc.specs.declared.record.BadDesc.{BadDesc}
use Rattle.ppc_isa.specs.declared.registers.RegsPpc.{RegsPpc}
use Rattle.mode_switch.specs.Wanted.{Want, bad_desc, takes_ppc, wants_desc}

-- the records of the descriptor at an address
abbrev pub described : ℕ → ℕ → Result (List Rec) BadDesc → Result (List Rec) Fault
described pc at read = result_map_both (λ records. records) (bad_desc pc at) read

abbrev pub loaded_or_fault : ℕ → Result (Option ℕ) Access → Result (Option ℕ) Fault
loaded_or_fault pc loaded = result_map_both (λ selector. selector) (fault_of pc) loaded

abbrev pub raw_signature : ℕ → ℕ → Result Signature BadInfo → Result Signature Fault
raw_signature pc info read =
    result_map_both (λ sig. sig) (λ bad. record { kind = IsInfo; pc = pc; detail = info; also = bad_info_code bad }) read

abbrev pub wants_desc_ppc : Memory → RegsPpc → ℕ → ℕ → Result Want Fault
wants_desc_ppc m r pointer info = wants_desc m r.pc pointer (takes_ppc r info)
