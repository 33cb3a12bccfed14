-- Parts that many instructions share. An effect is the registers and the memory behind an instruction, or
-- its fault; its accesses follow one another, and the first one that is refused is the fault. The
-- registers' `pc` is the address of the instruction until the program goes on
-- (M68000 Family Programmer's Reference Manual, section 4).
use Rattle.std.specs.Prelude.{ℕ, Bool, if◌then◌else◌, slice_index, Result, Ok, Err}
use Rattle.mix_bits.specs.declared.size.Size.{Size}
use Rattle.mix_bits.specs.declared.size.Size.TheVariants.{Four}
use Rattle.mix_bits.specs.declared.fault.Fault.{Fault}
use Rattle.mix_bits.specs.declared.fault.FaultKind.TheVariants.{Vector}
use Rattle.mix_bits.specs.Sizes.{low_replaced}
use Rattle.mix_bits.specs.Results.{◌>>=◌}
use Rattle.m68_isa.specs.declared.registers.Ccr.{Ccr}
use Rattle.m68_isa.specs.declared.registers.Regs68.{Regs68}
use Rattle.m68_isa.specs.declared.ea.Ea.{Ea}
use Rattle.m68_isa.specs.declared.ea.Ea.TheVariants.{Dn, Post, Pre}
use Rattle.m68_alu.specs.declared.sums.Out.{Out}
use Rattle.big_memory.specs.Memory.{Memory}
use Rattle.mix_bits.specs.Faults.{fault_at}
use Rattle.big_memory.specs.Steps.{After}
use Rattle.big_memory.specs.Steps.After.{Goes, Stops}
use Rattle.m68_ea.specs.Places.{placed, with_data}
use Rattle.m68_ea.specs.Operands.{value_at, written_at, sourced, put_into}

abbrev pub Effect : Type 0
Effect = Result (Regs68 × Memory) Fault

-- the step that an effect is: the program goes on, or stops with its fault
abbrev pub after : Effect → After Regs68
after (Ok (r, m)) = Goes r m
after (Err fault) = Stops fault

-- the program goes on at an address
abbrev pub goes_on : ℕ → Regs68 → Memory → Effect
goes_on next r m = Ok (record r { pc = next }, m)

-- the exception with this vector
abbrev pub vector : Regs68 → ℕ → Fault
vector r number = fault_at r.pc Vector number

abbrev pub with_ccr : Regs68 → Ccr → Regs68
with_ccr r ccr = record r { ccr = ccr }

-- the low bytes of a data register are replaced
abbrev pub with_low_data : Regs68 → ℕ → Size → ℕ → Regs68
with_low_data r n size v = with_data r n (low_replaced (slice_index r.d n) v size)

-- a data register and the condition codes take a result
abbrev pub with_result : Regs68 → ℕ → Size → Out → Regs68
with_result r n size out = with_ccr (with_low_data r n size out.value) out.ccr

-- source op Dn → Dn
abbrev pub into_data : Regs68 → Memory → ℕ → Size → Ea → ℕ → (ℕ → ℕ → Out) → Effect
into_data r m next size from n op =
    sourced r m size from >>= λ (q, s).
    goes_on next (with_result q n size (op (slice_index q.d n) s)) m

-- op destination → destination: it is found once, read, and written
abbrev pub changed : Regs68 → Memory → ℕ → Size → Ea → (ℕ → Out) → Effect
changed r m next size to op =
    let p = placed r to size in
    value_at p.0 m p.1 size >>= λ d.
    written_at p.0 m p.1 size (op d).value >>= λ (q, n).
    goes_on next (with_ccr q (op d).ccr) n

-- the two ways of an instruction between a data register and an operand
abbrev pub either_way : Regs68 → Memory → ℕ → Size → Bool → ℕ → Ea → (ℕ → ℕ → Out) → Effect
either_way r m next size to_memory n operand op =
    if to_memory then changed r m next size operand (λ d. op d (slice_index r.d n)) else into_data r m next size operand n op

-- Dx, Dy or -(Ax), -(Ay): the source is found and read first
abbrev pub partner : Bool → ℕ → Ea
partner memory n = if memory then Pre n else Dn n

abbrev pub pairwise : Regs68 → Memory → ℕ → Size → Bool → ℕ → ℕ → (ℕ → ℕ → Out) → Effect
pairwise r m next size memory from to op =
    sourced r m size (partner memory from) >>= λ (q, s).
    changed q m next size (partner memory to) (λ d. op d s)

-- SP - 4 → SP; long → (SP)
abbrev pub pushed : Regs68 → Memory → ℕ → Effect
pushed r m v = put_into r m Four (Pre 7) v

-- (SP) → long; SP + size → SP
abbrev pub popped : Regs68 → Memory → Size → Result (Regs68 × ℕ) Fault
popped r m size = sourced r m size (Post 7)
