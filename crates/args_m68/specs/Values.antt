-- A value at its place: the low bytes of a register, a condition bit as 1 or 0, or bytes of memory
-- (M68000 Family Programmer's Reference Manual, section 1.1).
use Rattle.std.specs.Prelude.{ℕ, ◌==◌, Bool, not, slice_index, slice_set, Result, Ok}
use Rattle.std.specs.Int.{from_bool}
use Rattle.mix_bits.specs.Results.{◌>>=◌}
use Rattle.mix_bits.specs.Sizes.{truncated, low_replaced}
use Rattle.mix_bits.specs.declared.size.Size.{Size}
use Rattle.big_memory.specs.declared.refusals.Access.{Access}
use Rattle.mix_bits.specs.Addresses.{onward}
use Rattle.big_memory.specs.Stores.{stored_value}
use Rattle.big_memory.specs.Memory.{Memory, loaded}
use Rattle.m68_isa.specs.declared.registers.Ccr.{Ccr}
use Rattle.m68_isa.specs.declared.registers.Regs68.{Regs68}
use Rattle.args_m68.specs.declared.places.Flag.{Flag}
use Rattle.args_m68.specs.declared.places.Flag.TheVariants.{Carry, Overflow, IsZero, Negative, Extend}
use Rattle.args_m68.specs.declared.places.Place.{Place}
use Rattle.args_m68.specs.declared.places.Place.TheVariants.{Stack, Data, Address, Condition}

-- a condition bit
abbrev pub flag_in : Flag → Ccr → Bool
flag_in Carry ccr = ccr.c
flag_in Overflow ccr = ccr.v
flag_in IsZero ccr = ccr.z
flag_in Negative ccr = ccr.n
flag_in Extend ccr = ccr.x

abbrev pub with_flag : Flag → Bool → Ccr → Ccr
with_flag Carry on ccr = record ccr { c = on }
with_flag Overflow on ccr = record ccr { v = on }
with_flag IsZero on ccr = record ccr { z = on }
with_flag Negative on ccr = record ccr { n = on }
with_flag Extend on ccr = record ccr { x = on }

-- the address so many bytes above A7
abbrev pub above_sp : Regs68 → ℕ → ℕ
above_sp r from = onward (slice_index r.a 7) from

-- what stands at a place, or the refusal of its bytes
abbrev pub value_at : Regs68 → Memory → Place → Size → Result ℕ Access
value_at r m (Stack from) s = loaded m (above_sp r from) s
value_at r m (Data n) s = Ok (truncated (slice_index r.d n) s)
value_at r m (Address n) s = Ok (truncated (slice_index r.a n) s)
value_at r m (Condition flag) s = Ok (from_bool (flag_in flag r.ccr))

-- the registers with a value at a place: its low bytes replace a register's, and a condition bit becomes 1 where the cut
-- value is not 0
abbrev pub with_value : Place → Size → ℕ → Regs68 → Regs68
with_value (Stack from) s v r = r
with_value (Data n) s v r = record r { d = slice_set r.d n (low_replaced (slice_index r.d n) v s) }
with_value (Address n) s v r = record r { a = slice_set r.a n (low_replaced (slice_index r.a n) v s) }
with_value (Condition flag) s v r = record r { ccr = with_flag flag (not (truncated v s == 0)) r.ccr }

-- registers and memory
pub record Given : Type 0 where
  pub regs : Regs68
  pub memory : Memory

-- registers and memory with a value at a place, or the refusal of a store there
abbrev pub put_at : Place → Size → ℕ → Regs68 → Memory → Result Given Access
put_at (Stack from) s v r m = stored_value m (above_sp r from) s v >>= λ n. Ok (record { regs = r; memory = n })
put_at place s v r m = Ok (record { regs = with_value place s v r; memory = m })
