-- Laws of instructions that undo one another, by what each does to registers and memory
-- (M68000 Family Programmer's Reference Manual, section 4).
use Rattle.std.specs.Prelude.{◌≡◌, ℕ, ◌^◌, ◌<◌, slice_index, Ok}
use Rattle.mix_bits.specs.declared.size.Size.{Size}
use Rattle.mix_bits.specs.declared.size.Size.TheVariants.{Four}
use Rattle.mix_bits.specs.Results.{◌>>=◌}
use Rattle.m68_isa.specs.declared.registers.Regs68.{Regs68}
use Rattle.m68_isa.specs.declared.ea.Ea.{Ea}
use Rattle.m68_isa.specs.declared.ea.Ea.TheVariants.{Dn, An, Post, Pre}
use Rattle.m68_isa.specs.declared.instructions.Exchange.{Exchange}
use Rattle.m68_isa.specs.declared.instructions.PlainOp.TheVariants.{Rts}
use Rattle.m68_isa.specs.declared.instructions.JumpOp.TheVariants.{Jsr}
use Rattle.m68_isa.specs.declared.instructions.Instr68.{Instr68}
use Rattle.m68_isa.specs.declared.instructions.Instr68.TheVariants.{Move, Movea, Swap, Pea, Link, LinkLong, Unlk, Plain, Jump, Bcc, BccLong, Exg}
use Rattle.m68_alu.specs.Sizes.{result_flags}
use Rattle.big_memory.specs.Memory.{Memory, loaded}
use Rattle.big_memory.specs.Numbers.{AreLongs}
use Rattle.m68_ea.specs.Places.{address_of, with_address}
use Rattle.m68_effects.specs.Parts.{Effect, goes_on, with_ccr}
use Rattle.m68_effects.specs.Rows.{effect}

-- eight data registers and eight address registers of 32 bits
pub record IsFile (r : Regs68) : Type 0 where
  pub data_registers : AreLongs 8 r.d
  pub address_registers : AreLongs 8 r.a

-- one instruction, whose words end at `next`, and then another, whose words end at `last`
abbrev pub in_turn : Regs68 → Memory → ℕ → Instr68 → ℕ → Instr68 → Effect
in_turn r m next first last second = effect r m next first >>= λ (q, n). effect q n last second

-- two registers that are exchanged twice are as they were, and so are all others
abbrev pub ExchangesBack : Type 0
ExchangesBack =
    (r : Regs68) (m : Memory) (next last : ℕ) (kind : Exchange) (x y : ℕ) → IsFile r → x < 8 → y < 8
    → in_turn r m next (Exg kind x y) last (Exg kind x y) ≡ goes_on last r m

-- a register whose halves are swapped twice is as it was; the condition codes tell its sign, and whether it is 0
abbrev pub SwapsBack : Type 0
SwapsBack =
    (r : Regs68) (m : Memory) (next last n : ℕ) → IsFile r → n < 8
    → in_turn r m next (Swap n) last (Swap n) ≡ goes_on last (with_ccr r (result_flags Four (slice_index r.d n) r.ccr)) m

-- a data register that is moved to -(An), and then from (An)+, is as it was, and so is An
abbrev pub PopsData : Type 0
PopsData =
    (r q : Regs68) (m n : Memory) (next last k base : ℕ) (size : Size) → IsFile r → k < 8 → base < 8
    → effect r m next (Move size (Dn k) (Pre base)) ≡ Ok (q, n)
    → effect q n last (Move size (Post base) (Dn k)) ≡ goes_on last (with_ccr r q.ccr) n

-- so is an address register of which all is moved, also the stack pointer itself
abbrev pub PopsAddress : Type 0
PopsAddress =
    (r q : Regs68) (m n : Memory) (next last k base : ℕ) → IsFile r → k < 8 → base < 8
    → effect r m next (Move Four (An k) (Pre base)) ≡ Ok (q, n)
    → effect q n last (Movea Four (Post base) k) ≡ goes_on last (with_ccr r q.ccr) n

-- an address that PEA pushes is what a pop into an address register gives it, and all other registers are as they were
abbrev pub PopsEffective : Type 0
PopsEffective =
    (r q : Regs68) (m n : Memory) (next last k : ℕ) (from : Ea) → IsFile r → address_of r from < 2 ^ 32
    → effect r m next (Pea from) ≡ Ok (q, n)
    → effect q n last (Movea Four (Post 7) k) ≡ goes_on last (with_address r k (address_of r from)) n

-- JSR and BSR
abbrev pub IsCall : Instr68 → Type 0
IsCall (Jump Jsr to) = Unit {0}
IsCall (Bcc condition displacement) = condition ≡ 1
IsCall (BccLong condition displacement) = condition ≡ 1
IsCall _ = ⊥

-- registers p and memory k, which came from q and n, have an address register as it was, and the long there
pub record LeavesLong (register : ℕ) (q : Regs68) (n : Memory) (p : Regs68) (k : Memory) : Type 0 where
  pub pointer : slice_index p.a register ≡ slice_index q.a register
  pub long : loaded k (slice_index q.a register) Four ≡ loaded n (slice_index q.a register) Four

-- a call, and at once the return from it, only go on behind the call
abbrev pub ReturnsAtOnce : Type 0
ReturnsAtOnce =
    (r q : Regs68) (m n : Memory) (next last : ℕ) (call : Instr68) → IsFile r → next < 2 ^ 32 → IsCall call
    → effect r m next call ≡ Ok (q, n)
    → effect q n last (Plain Rts) ≡ goes_on next r n

-- whatever a subroutine does that leaves the stack pointer as it found it, and the long there, its return goes on
-- behind the call with the stack pointer that the caller had
abbrev pub Returns : Type 0
Returns =
    (r q p : Regs68) (m n k : Memory) (next last : ℕ) (call : Instr68) → IsFile r → next < 2 ^ 32 → IsCall call
    → effect r m next call ≡ Ok (q, n) → LeavesLong 7 q n p k
    → effect p k last (Plain Rts) ≡ goes_on next (with_address p 7 (slice_index r.a 7)) k

-- LINK of this register, with a displacement of a word or of a long
abbrev pub IsLink : Instr68 → ℕ → Type 0
IsLink (Link register displacement) frame = register ≡ frame
IsLink (LinkLong register displacement) frame = register ≡ frame
IsLink _ frame = ⊥

-- LINK, and at once UNLK of the same register, give back that register and the stack pointer
abbrev pub UnlinksAtOnce : Type 0
UnlinksAtOnce =
    (r q : Regs68) (m n : Memory) (next last frame : ℕ) (first : Instr68) → IsFile r → frame < 7 → IsLink first frame
    → effect r m next first ≡ Ok (q, n)
    → effect q n last (Unlk frame) ≡ goes_on last r n

-- so they do whatever stands between them that leaves the register, which is not the stack pointer, and the long there
abbrev pub Unlinks : Type 0
Unlinks =
    (r q p : Regs68) (m n k : Memory) (next last frame : ℕ) (first : Instr68) → IsFile r → IsFile p → frame < 7 → IsLink first frame
    → effect r m next first ≡ Ok (q, n) → LeavesLong frame q n p k
    → effect p k last (Unlk frame) ≡ goes_on last (with_address (with_address p 7 (slice_index r.a 7)) frame (slice_index r.a frame)) k
