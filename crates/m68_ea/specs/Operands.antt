-- Operands of an instruction, each found and then read or written. The registers' `pc` is the address of
-- the instruction's first word, by which a refused access is a fault
-- (M68000 Family Programmer's Reference Manual, section 2.2).
use Rattle.std.specs.Prelude.{ℕ, Result, Ok, Err}
use Rattle.mix_bits.specs.declared.size.Size.{Size}
use Rattle.mix_bits.specs.declared.fault.Fault.{Fault}
use Rattle.mix_bits.specs.Results.{◌>>=◌}
use Rattle.m68_isa.specs.declared.registers.Regs68.{Regs68}
use Rattle.m68_isa.specs.declared.ea.Ea.{Ea}
use Rattle.big_memory.specs.Memory.{Memory, loaded}
use Rattle.big_memory.specs.Stores.{stored_value}
use Rattle.m68_ea.specs.declared.places.Place68.{Place68}
use Rattle.m68_ea.specs.Places.{placed}
use Rattle.m68_ea.specs.Accesses.{read_at, write_at, or_fault}

-- the value at an address, and memory with a value stored there, for an instruction at `pc`
abbrev pub loaded_at : ℕ → Memory → ℕ → Size → Result ℕ Fault
loaded_at pc m a s = or_fault pc (loaded m a s)

abbrev pub stored_at : ℕ → Memory → ℕ → Size → ℕ → Result Memory Fault
stored_at pc m a s v = or_fault pc (stored_value m a s v)

-- the same at a place
abbrev pub value_at : Regs68 → Memory → Place68 → Size → Result ℕ Fault
value_at r m p s = or_fault r.pc (read_at r m p s)

abbrev pub written_at : Regs68 → Memory → Place68 → Size → ℕ → Result (Regs68 × Memory) Fault
written_at r m p s v = or_fault r.pc (write_at r m p s v)

-- the registers once a source is found, and its value
abbrev pub sourced : Regs68 → Memory → Size → Ea → Result (Regs68 × ℕ) Fault
sourced r m s e = let p = placed r e s in value_at p.0 m p.1 s >>= λ v. Ok (p.0, v)

-- registers and memory once a destination is found and a value is written there
abbrev pub put_into : Regs68 → Memory → Size → Ea → ℕ → Result (Regs68 × Memory) Fault
put_into r m s e v = let p = placed r e s in written_at p.0 m p.1 s v
