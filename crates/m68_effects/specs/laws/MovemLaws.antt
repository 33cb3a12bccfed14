-- MOVEM to -(An) and MOVEM from (An)+ of one list of registers
-- (M68000 Family Programmer's Reference Manual, section 4, MOVEM).
use Rattle.std.specs.Prelude.{◌≡◌, ◌≢◌, ℕ, ◌+◌, ◌-◌, ◌<◌, ◌≤◌, slice_index, Ok}
use Rattle.mix_bits.specs.declared.size.Size.{Size}
use Rattle.mix_bits.specs.declared.size.Size.TheVariants.{Two, Four}
use Rattle.mix_bits.specs.Digits.{digit_of}
use Rattle.mix_bits.specs.Sizes.{bytes_of, sign_extended}
use Rattle.m68_isa.specs.declared.registers.Regs68.{Regs68}
use Rattle.m68_isa.specs.declared.ea.Ea.TheVariants.{Post, Pre}
use Rattle.m68_isa.specs.declared.instructions.Instr68.TheVariants.{MovemToMemory, MovemFromMemory}
use Rattle.big_memory.specs.Memory.{IsRam, Memory, loaded}
use Rattle.m68_effects.specs.laws.Laws.{IsFile}
use Rattle.m68_effects.specs.Multiple.{register_of}
use Rattle.m68_effects.specs.Parts.{goes_on}
use Rattle.m68_effects.specs.Rows.{effect}

-- two masks of the same registers: that for -(An) counts from A7 down, the other from D0 up
abbrev pub NameTheSame : ℕ → ℕ → Type 0
NameTheSame down up = (k : ℕ) → k < 16 → digit_of down k 1 ≡ digit_of up (15 - k) 1

-- from registers p, the registers t that a mask names have what became of their values in r; the base has its old
-- value, also where the mask names it; and all others are as in p
pub record IsRestored (became : ℕ → ℕ) (mask base : ℕ) (r p t : Regs68) : Type 0 where
  pub named : (k : ℕ) → k < 16 → k ≢ 8 + base → digit_of mask k 1 ≡ 1 → register_of t k ≡ became (register_of r k)
  pub others : (k : ℕ) → k < 16 → k ≢ 8 + base → digit_of mask k 1 ≢ 1 → register_of t k ≡ register_of p k
  pub pointer : register_of t (8 + base) ≡ register_of r (8 + base)
  pub codes : t.ccr ≡ p.ccr

-- memory k, which came from n, has the numbers that lie whole between two addresses as they were
abbrev pub LeavesNumbers : Size → ℕ → ℕ → Memory → Memory → Type 0
LeavesNumbers size from end n k = (a : ℕ) → from ≤ a → a + bytes_of size ≤ end → loaded k a size ≡ loaded n a size

-- for every mask: registers that are moved to -(An) come back from (An)+, whatever stands between the two that leaves
-- the base register and what was stored
abbrev pub Restores : Size → (ℕ → ℕ) → Type 0
Restores size became =
    (r q p : Regs68) (m n k : Memory) (next last down up base : ℕ) → IsFile r → IsFile p → IsRam m → base < 8 → NameTheSame down up
    → effect r m next (MovemToMemory size down (Pre base)) ≡ Ok (q, n)
    → slice_index p.a base ≡ slice_index q.a base
    → LeavesNumbers size (slice_index q.a base) (slice_index r.a base) n k
    → (t : Regs68) × ((effect p k last (MovemFromMemory size up (Post base)) ≡ goes_on last t k) × IsRestored became up base r p t)

-- a long comes back as it was
abbrev pub RestoresLongs : Type 0
RestoresLongs = Restores Four (λ v. v)

-- a word comes back with its sign in the high half
abbrev pub RestoresWords : Type 0
RestoresWords = Restores Two (λ v. sign_extended v Two)
