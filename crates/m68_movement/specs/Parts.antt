-- What the parts of these instructions' code answer (M68000 Family Programmer's Reference Manual, section 4).
use Rattle.std.specs.Prelude.{◌≡◌, ℕ, Bool, true, false, Ok, Err}
use Rattle.mix_bits.specs.declared.size.Size.{Size}
use Rattle.mix_bits.specs.declared.fault.Fault.{Fault}
use Rattle.m68_isa.specs.declared.registers.Regs68.{Regs68}
use Rattle.m68_isa.specs.declared.operand.Operand.{Operand}
use Rattle.big_memory.specs.Memory.{Memory}
use Rattle.big_memory.specs.StoresClauses.{OnlyFree}
use Rattle.m68_ea.specs.Operands.{put_into}
use Rattle.m68_ea.specs.Finds.{unless_illegal}

-- an operand e that is found, and a value that is written there; what can't be done has changed nothing
abbrev pub Writes : Regs68 → Memory → ℕ → Size → Operand → ℕ → Bool → ℕ → Fault → Regs68 → Memory → Type 0
Writes r m first s e v true next cell q n =
    (e.good ≡ true) × (put_into r m s e.ea v ≡ Ok (q, n)) × (next ≡ e.next) × (q.pc ≡ r.pc) × (q.ccr ≡ r.ccr) × OnlyFree m n
Writes r m first s e v false next cell q n = (unless_illegal r.pc first e.good (put_into r m s e.ea v) ≡ Err cell) × (q ≡ r) × (n ≡ m)
