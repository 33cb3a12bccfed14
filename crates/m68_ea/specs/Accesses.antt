-- Reading and writing a place. A word or a long may lie at an odd address
-- (MC68020 User's Manual, section 5.2.2, misaligned operands).
use Rattle.std.specs.Prelude.{ℕ, slice_index, Result, Ok, Err}
use Rattle.mix_bits.specs.declared.size.Size.{Size}
use Rattle.mix_bits.specs.declared.fault.Fault.{Fault}
use Rattle.mix_bits.specs.Sizes.{truncated, sign_extended, low_replaced}
use Rattle.mix_bits.specs.Results.{◌>>=◌}
use Rattle.m68_isa.specs.declared.registers.Regs68.{Regs68}
use Rattle.big_memory.specs.declared.refusals.Access.{Access}
use Rattle.big_memory.specs.Memory.{Memory, loaded}
use Rattle.m68_ea.specs.declared.places.Place68.{Place68}
use Rattle.m68_ea.specs.declared.places.Place68.TheVariants.{Dn, An, Mem, Imm}
use Rattle.m68_ea.specs.Places.{with_data, with_address}
use Rattle.big_memory.specs.Stores.{stored_value}
use Rattle.big_memory.specs.Faults.{fault_of}

-- the value at a place, cut to the size
abbrev pub read_at : Regs68 → Memory → Place68 → Size → Result ℕ Access
read_at r m (Dn n) s = Ok (truncated (slice_index r.d n) s)
read_at r m (An n) s = Ok (truncated (slice_index r.a n) s)
read_at r m (Mem a) s = loaded m a s
read_at r m (Imm v) s = Ok (truncated v s)

-- registers and memory with a value at a place: the low bytes of a data register, all of an address
-- register, into which a word goes with its sign; nothing is written into an immediate value
abbrev pub write_at : Regs68 → Memory → Place68 → Size → ℕ → Result (Regs68 × Memory) Access
write_at r m (Dn n) s v = Ok (with_data r n (low_replaced (slice_index r.d n) v s), m)
write_at r m (An n) s v = Ok (with_address r n (sign_extended v s), m)
write_at r m (Mem a) s v = stored_value m a s v >>= λ done. Ok (r, done)
write_at r m (Imm w) s v = Ok (r, m)

-- the fault of an instruction at `pc` whose access is refused
abbrev pub or_fault : {T : Type 0} → ℕ → Result T Access → Result T Fault
or_fault pc (Ok x) = Ok x
or_fault pc (Err access) = Err (fault_of pc access)
