-- The registers that gdb sees of a process: whose they are, in which order they stand, and their digits.
-- Source: GDB manual, appendix 'GDB Remote Serial Protocol', section 'Packets', `g` and `p`, and appendix 'Target Descriptions'; gdb's own numbers of PowerPC registers are those of its rs6000 target.
use Rattle.std.specs.Prelude.{ℕ, ◌-◌, nat_le, nat_lt, List, [], ◌∷◌, ◌++◌, length, slice_index, if◌then◌else◌}
use Rattle.std.specs.Int.{to_be_bytes, w32}
use Rattle.std.specs.List.{flat_map}
use Rattle.mix_bits.specs.declared.isa.Isa.{Isa}
use Rattle.mix_bits.specs.declared.isa.Isa.TheVariants.{M68 as set_m68, Ppc as set_ppc}
use Rattle.mix_bits.specs.Isas.{is_isa}
use Rattle.m68_isa.specs.Registers.{ccr_bits, cleared_registers as cleared_m68}
use Rattle.ppc_isa.specs.Registers.{cleared_registers as cleared_ppc}
use Rattle.switch_frame.specs.declared.active.Active.{Active}
use Rattle.switch_frame.specs.declared.active.Active.TheVariants.{M68, Ppc}
use Rattle.switch_frame.specs.Records.{Record, isa_of}
use Rattle.gdb_packets.specs.Hex.{pair_of}
use Rattle.gdb_answers.specs.Stops.{error_text}

abbrev pub cleared : Isa → Active
cleared set_m68 = M68 cleared_m68
cleared set_ppc = Ppc cleared_ppc

-- those of the innermost suspended caller of a set, which go on behind its call; zeros where there is none
abbrev pub suspended : Isa → List Record → Active
suspended set [] = cleared set
suspended set (r ∷ rs) = if is_isa (isa_of r.caller) set then r.caller else suspended set rs

-- the registers of the process of a set: its own where it runs
abbrev pub shown : Isa → Active → List Record → Active
shown set active callers = if is_isa (isa_of active) set then active else suspended set callers

-- in the order of the description: the 68000's `ps` is the condition codes, and a PowerPC program has no `msr`
abbrev pub in_order : Active → List ℕ
in_order (M68 file) = file.d ++ (file.a ++ (ccr_bits file.ccr ∷ file.pc ∷ []))
in_order (Ppc file) = file.gpr ++ (file.pc ∷ 0 ∷ file.cr ∷ file.lr ∷ file.ctr ∷ file.xer ∷ [])

-- the eight digits of a register
abbrev pub long_text : ℕ → List ℕ
long_text n = flat_map pair_of (to_be_bytes w32 n)

abbrev pub registers_text : Active → List ℕ
registers_text file = flat_map long_text (in_order file)

-- where the register with a number stands. Until gdb has read the description, it numbers the PowerPC's pc, msr, cr, lr, ctr and xer from 64 on
abbrev pub place_of : Isa → ℕ → ℕ
place_of set_m68 n = n
place_of set_ppc n = if nat_le 64 n then n - 32 else n

abbrev pub long_there : List ℕ → ℕ → List ℕ
long_there longs place = if nat_lt place (length longs) then long_text (slice_index longs place) else error_text

abbrev pub register_text : ℕ → Active → List ℕ
register_text n file = long_there (in_order file) (place_of (isa_of file) n)
