-- movem with an address that no register counts.
use Rattle.std.proofs.Common.{◌≡◌, ◌≢◌, ℕ, ◌*◌, Bool, true, false, ◌==◌, List, Some, refl, arith}
use Rattle.std.specs.Prelude.{if◌then◌else◌}
use Rattle.std.proofs.lemmas.Bool.Decides.{nat_tests}
use Rattle.mix_bits.specs.declared.size.Size.{Size}
use Rattle.mix_bits.specs.declared.size.Size.TheVariants.{Two, Four}
use Rattle.mix_bits.specs.declared.fault.Fault.{Fault}
use Rattle.mix_bits.specs.Addresses.{onward}
use Rattle.m68_isa.specs.declared.instructions.Instr68.TheVariants.{MovemFromMemory, MovemToMemory}
use Rattle.m68_isa.specs.First.{long_or_word}
use Rattle.m68_isa.specs.Rows.{taken}
use Rattle.big_memory.specs.declared.steps.Did.{Did}
use Rattle.big_memory.specs.StepsClauses.{Does}
use Rattle.m68_isa.specs.declared.ea.Ea.{Ea}
use Rattle.m68_isa.specs.declared.operand.Operand.{Operand}
use Rattle.m68_isa.specs.declared.registers.Regs68.{Regs68}
use Rattle.m68_isa.specs.Operands.{operand_at}
use Rattle.big_memory.specs.Memory.{Memory}
use Rattle.m68_ea.specs.Places.{address_of}
use Rattle.m68_ea.specs.FindsClauses.{FindsControl}
use Rattle.m68_effects.specs.Rows.{effect}
use Rattle.m68_effects.specs.inner.Rows.{movem_onto, movem_out_of}
use Rattle.m68_effects.specs.laws.Ops.{runs_made}
use Rattle.m68_effects.specs.Parts.{after}

apart : (n k : ℕ) → n ≢ k → (n == k) ≡ false
apart n k other = grind (arith, nat_tests, other)

-- one way or the other
either : (P : Ea → Type 0) (b : Bool) (x y : Operand) → P x.ea → P y.ea → P (if b then x else y).ea
either P true x y left right = left
either P false x y left right = right

pub onto_memory : (r : Regs68) (m : Memory) (next : ℕ) (s : Size) (mask at mode lower : ℕ) (ws : List ℕ) → mode ≢ 4
    → effect r m next (MovemToMemory s mask (operand_at ws at s mode lower).ea) ≡ movem_onto r m next s mask (address_of r (operand_at ws at s mode lower).ea)
onto_memory r m next s mask at mode lower ws other =
    let P : Ea → Type 0 = λ e. effect r m next (MovemToMemory s mask e) ≡ movem_onto r m next s mask (address_of r e) in
    rw (apart mode 4 other)
    (either P (mode == 0) _ _ refl (either P (mode == 1) _ _ refl (either P (mode == 2) _ _ refl (either P (mode == 3) _ _ refl
    (either P (mode == 5) _ _ refl (either P (mode == 6) _ _ refl
    (either P (lower == 0) _ _ refl (either P (lower == 1) _ _ refl (either P (lower == 2) _ _ refl (either P (lower == 3) _ _ refl refl))))))))))

-- of two sizes
at-either : (P : Size → Type 0) (b : Bool) → P Two → P Four → P (if b then Two else Four)
at-either P true word long = word
at-either P false word long = long

onto-of : (r q : Regs68) (m n : Memory) (first : ℕ) (s : Size) (mask at mode lower a next : ℕ) (ws : List ℕ) (did : Did) (old cell : Fault) → mode ≢ 4
    → FindsControl r first (operand_at ws at s mode lower) (Some a) next old
    → Does (after (movem_onto r m (onward r.pc (2 * next)) s mask a)) did cell r q m n
    → Does (runs_made r m first (taken (MovemToMemory s mask (operand_at ws at s mode lower).ea) (operand_at ws at s mode lower))) did cell r q m n
onto-of r q m n first s mask at mode lower a next ws did old cell other found done =
    rw (found.0, onto_memory r m (onward r.pc (2 * (operand_at ws at s mode lower).next)) s mask at mode lower ws other, found.1, ← found.2) done

pub onto_found : (r q : Regs68) (m n : Memory) (first bit mask at mode lower a next : ℕ) (ws : List ℕ) (did : Did) (old cell : Fault) → mode ≢ 4
    → FindsControl r first (operand_at ws at Two mode lower) (Some a) next old
    → FindsControl r first (operand_at ws at Four mode lower) (Some a) next old
    → Does (after (movem_onto r m (onward r.pc (2 * next)) (long_or_word bit) mask a)) did cell r q m n
    → Does (runs_made r m first (taken (MovemToMemory (long_or_word bit) mask (operand_at ws at (long_or_word bit) mode lower).ea) (operand_at ws at (long_or_word bit) mode lower))) did cell r q m n
onto_found r q m n first bit mask at mode lower a next ws did old cell other word long done =
    onto-of r q m n first (long_or_word bit) mask at mode lower a next ws did old cell other
    (at-either (λ s. FindsControl r first (operand_at ws at s mode lower) (Some a) next old) (bit == 0) word long) done

-- the same from memory
pub out_of_memory : (r : Regs68) (m : Memory) (next : ℕ) (s : Size) (mask at mode lower : ℕ) (ws : List ℕ) → mode ≢ 3
    → effect r m next (MovemFromMemory s mask (operand_at ws at s mode lower).ea) ≡ movem_out_of r m next s mask (address_of r (operand_at ws at s mode lower).ea)
out_of_memory r m next s mask at mode lower ws other =
    let P : Ea → Type 0 = λ e. effect r m next (MovemFromMemory s mask e) ≡ movem_out_of r m next s mask (address_of r e) in
    rw (apart mode 3 other)
    (either P (mode == 0) _ _ refl (either P (mode == 1) _ _ refl (either P (mode == 2) _ _ refl (either P (mode == 4) _ _ refl
    (either P (mode == 5) _ _ refl (either P (mode == 6) _ _ refl
    (either P (lower == 0) _ _ refl (either P (lower == 1) _ _ refl (either P (lower == 2) _ _ refl (either P (lower == 3) _ _ refl refl))))))))))

out-of : (r q : Regs68) (m n : Memory) (first : ℕ) (s : Size) (mask at mode lower a next : ℕ) (ws : List ℕ) (did : Did) (old cell : Fault) → mode ≢ 3
    → FindsControl r first (operand_at ws at s mode lower) (Some a) next old
    → Does (after (movem_out_of r m (onward r.pc (2 * next)) s mask a)) did cell r q m n
    → Does (runs_made r m first (taken (MovemFromMemory s mask (operand_at ws at s mode lower).ea) (operand_at ws at s mode lower))) did cell r q m n
out-of r q m n first s mask at mode lower a next ws did old cell other found done =
    rw (found.0, out_of_memory r m (onward r.pc (2 * (operand_at ws at s mode lower).next)) s mask at mode lower ws other, found.1, ← found.2) done

pub out_of_found : (r q : Regs68) (m n : Memory) (first bit mask at mode lower a next : ℕ) (ws : List ℕ) (did : Did) (old cell : Fault) → mode ≢ 3
    → FindsControl r first (operand_at ws at Two mode lower) (Some a) next old
    → FindsControl r first (operand_at ws at Four mode lower) (Some a) next old
    → Does (after (movem_out_of r m (onward r.pc (2 * next)) (long_or_word bit) mask a)) did cell r q m n
    → Does (runs_made r m first (taken (MovemFromMemory (long_or_word bit) mask (operand_at ws at (long_or_word bit) mode lower).ea) (operand_at ws at (long_or_word bit) mode lower))) did cell r q m n
out_of_found r q m n first bit mask at mode lower a next ws did old cell other word long done =
    out-of r q m n first (long_or_word bit) mask at mode lower a next ws did old cell other
    (at-either (λ s. FindsControl r first (operand_at ws at s mode lower) (Some a) next old) (bit == 0) word long) done
