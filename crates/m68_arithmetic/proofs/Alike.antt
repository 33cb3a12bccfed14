-- Quick instructions on anything but an address register are those with immediate data.
use Rattle.std.proofs.Common.{◌≡◌, ◌≢◌, ℕ, List, refl, arith}
use Rattle.std.proofs.lemmas.Bool.Decides.{nat_tests}
use Rattle.mix_bits.specs.declared.size.Size.{Size}
use Rattle.m68_isa.specs.declared.registers.Regs68.{Regs68}
use Rattle.m68_isa.specs.declared.ea.Ea.{Ea}
use Rattle.m68_isa.specs.declared.ea.Ea.TheVariants.{Dn, An, Ind, Post, Pre, Disp, Indexed, AbsWord, AbsLong, PcDisp, PcIndexed, Imm}
use Rattle.m68_isa.specs.declared.instructions.Instr68.TheVariants.{Quick}
use Rattle.m68_isa.specs.declared.instructions.QuickOp.TheVariants.{Addq, Subq}
use Rattle.m68_isa.specs.Operands.{operand_at}
use Rattle.big_memory.specs.Memory.{Memory}
use Rattle.m68_effects.specs.Rows.{effect}
use Rattle.m68_effects.specs.inner.Rows.{addi, subi}

pub no_address : (ws : List ℕ) (at mode lower n : ℕ) (s : Size) → mode ≢ 1 → (operand_at ws at s mode lower).ea ≢ An n
no_address ws at mode lower n s other = grind (arith, nat_tests)

pub addq_as_addi : (r : Regs68) (m : Memory) (next k : ℕ) (s : Size) (e : Ea) → ((n : ℕ) → e ≢ An n) → effect r m next (Quick Addq s k e) ≡ addi r m next s k e
addq_as_addi r m next k s (An n) other = absurd (other n refl)
addq_as_addi r m next k s (Dn n) other = refl
addq_as_addi r m next k s (Ind n) other = refl
addq_as_addi r m next k s (Post n) other = refl
addq_as_addi r m next k s (Pre n) other = refl
addq_as_addi r m next k s (Disp n d) other = refl
addq_as_addi r m next k s (Indexed n i) other = refl
addq_as_addi r m next k s (AbsWord a) other = refl
addq_as_addi r m next k s (AbsLong a) other = refl
addq_as_addi r m next k s (PcDisp at d) other = refl
addq_as_addi r m next k s (PcIndexed at i) other = refl
addq_as_addi r m next k s (Imm v) other = refl

pub subq_as_subi : (r : Regs68) (m : Memory) (next k : ℕ) (s : Size) (e : Ea) → ((n : ℕ) → e ≢ An n) → effect r m next (Quick Subq s k e) ≡ subi r m next s k e
subq_as_subi r m next k s (An n) other = absurd (other n refl)
subq_as_subi r m next k s (Dn n) other = refl
subq_as_subi r m next k s (Ind n) other = refl
subq_as_subi r m next k s (Post n) other = refl
subq_as_subi r m next k s (Pre n) other = refl
subq_as_subi r m next k s (Disp n d) other = refl
subq_as_subi r m next k s (Indexed n i) other = refl
subq_as_subi r m next k s (AbsWord a) other = refl
subq_as_subi r m next k s (AbsLong a) other = refl
subq_as_subi r m next k s (PcDisp at d) other = refl
subq_as_subi r m next k s (PcIndexed at i) other = refl
subq_as_subi r m next k s (Imm v) other = refl

pub addq_else : (r : Regs68) (m : Memory) (next k : ℕ) (ws : List ℕ) (at mode lower : ℕ) (s : Size) → mode ≢ 1 → effect r m next (Quick Addq s k (operand_at ws at s mode lower).ea) ≡ addi r m next s k (operand_at ws at s mode lower).ea
addq_else r m next k ws at mode lower s other = addq_as_addi r m next k s (operand_at ws at s mode lower).ea (λ n. no_address ws at mode lower n s other)

pub subq_else : (r : Regs68) (m : Memory) (next k : ℕ) (ws : List ℕ) (at mode lower : ℕ) (s : Size) → mode ≢ 1 → effect r m next (Quick Subq s k (operand_at ws at s mode lower).ea) ≡ subi r m next s k (operand_at ws at s mode lower).ea
subq_else r m next k ws at mode lower s other = subq_as_subi r m next k s (operand_at ws at s mode lower).ea (λ n. no_address ws at mode lower n s other)
