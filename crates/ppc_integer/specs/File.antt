-- The register file, as instructions read and write it
-- (PowerPC 601 RISC Microprocessor User's Manual, chapters 2 and 10).
use Rattle.std.specs.Prelude.{ℕ, ◌-◌, ◌^◌, ◌==◌, Bool, true, if◌then◌else◌, slice_index, slice_set}
use Rattle.mix_bits.specs.Addresses.{onward}
use Rattle.ppc_isa.specs.declared.registers.RegsPpc.{RegsPpc}
use Rattle.ppc_alu.specs.ConditionBits.{compared}
use Rattle.ppc_integer.specs.Condition.{with_field}
use Rattle.ppc_integer.specs.Xer.{so_of}

abbrev pub gpr_of : RegsPpc → ℕ → ℕ
gpr_of r n = slice_index r.gpr n

-- (A|0): in an address register 0 is no register, but the number 0
abbrev pub base_of : RegsPpc → ℕ → ℕ
base_of r a = if a == 0 then 0 else gpr_of r a

abbrev pub with_gpr : RegsPpc → ℕ → ℕ → RegsPpc
with_gpr r n v = record r { gpr = slice_set r.gpr n v }

-- the ones' complement of a word
abbrev pub complement : ℕ → ℕ
complement v = 2 ^ 32 - 1 - v

-- with Rc, field 0 of the condition register takes the result's signed comparison with 0, and SO
abbrev pub recorded : Bool → ℕ → RegsPpc → RegsPpc
recorded rc v r = if rc then record r { cr = with_field r.cr 0 (compared true v 0 (so_of r.xer)) } else r

-- a result in a register, recorded where Rc is set
abbrev pub with_result : RegsPpc → ℕ → Bool → ℕ → RegsPpc
with_result r n rc v = recorded rc v (with_gpr r n v)

-- at the next instruction
abbrev pub onto_next : RegsPpc → RegsPpc
onto_next r = record r { pc = onward r.pc 4 }
