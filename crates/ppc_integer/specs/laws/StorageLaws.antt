-- What loads and stores of strings do, register by register, and what bytes in the other order are
-- (PowerPC 601 RISC Microprocessor User's Manual, chapter 10, lswi, lswx, stswi, stswx and the instructions from lhbrx to stwbrx).
use Rattle.std.specs.Prelude.{◌≡◌, ◌≢◌, ℕ, ◌+◌, ◌-◌, ◌*◌, ◌/◌, ◌%◌, ◌^◌, ◌<◌, ◌≤◌, List, [], ◌∷◌}
use Rattle.mix_bits.specs.Sizes.{bytes_of, truncated}
use Rattle.big_memory.specs.Lists.{part}
use Rattle.big_memory.specs.Memory.{IsRam, Memory}
use Rattle.big_memory.specs.Numbers.{AreBytes, AreLongs, number_at}
use Rattle.big_memory.specs.Steps.After.{Goes}
use Rattle.big_memory.specs.laws.Stores.{IsSameBeside}
use Rattle.ppc_isa.specs.declared.registers.RegsPpc.{RegsPpc}
use Rattle.ppc_isa.specs.declared.instruction.InstrPpc.TheVariants.{Reversed, StringImmediate, StringIndexed}
use Rattle.ppc_isa.specs.declared.instruction.ReversedAccess.TheVariants.{LoadReversed, StoreReversed}
use Rattle.ppc_isa.specs.declared.instruction.StringImmediateAccess.TheVariants.{LoadStringImmediate, StoreStringImmediate}
use Rattle.ppc_isa.specs.declared.instruction.StringIndexedAccess.TheVariants.{LoadStringIndexed, StoreStringIndexed}
use Rattle.ppc_isa.specs.declared.instruction.ReversedKind.{ReversedKind}
use Rattle.ppc_isa.specs.Operands.{string_length}
use Rattle.ppc_integer.specs.Xer.{string_length_of}
use Rattle.ppc_integer.specs.Effects.{runs}
use Rattle.ppc_integer.specs.File.{base_of, gpr_of, onto_next, with_gpr}
use Rattle.ppc_integer.specs.Storage.{index_address, reversed_size}

-- a string of n bytes at an address fills registers from d on, where register 0 follows on register 31: each has the
-- big-endian number of the string's next four bytes, a last, short one with zeros at its low end; and all others stay
pub record IsFilled (r q : RegsPpc) (m : Memory) (d at n : ℕ) : Type 0 where
  pub filled : (j : ℕ) → 4 * j < n → gpr_of q ((d + j) % 32) ≡ number_at (4 * j) 4 (part at n m.bytes)
  pub others : (x : ℕ) → ((j : ℕ) → 4 * j < n → x ≢ (d + j) % 32) → gpr_of q x ≡ gpr_of r x

-- lswi, whose length is its field, and lswx, whose length is in XER
abbrev pub StringsFill : Type 0
StringsFill =
    (r q : RegsPpc) (m k : Memory) (word d a nb : ℕ) → IsRam m → AreLongs 32 r.gpr → nb < 32
    → runs r m word (StringImmediate (LoadStringImmediate d a nb)) ≡ Goes q k → IsFilled r q m d (base_of r a) (string_length nb)

abbrev pub IndexedStringsFill : Type 0
IndexedStringsFill =
    (r q : RegsPpc) (m k : Memory) (word d a b : ℕ) → IsRam m → AreLongs 32 r.gpr
    → runs r m word (StringIndexed (LoadStringIndexed d a b)) ≡ Goes q k → IsFilled r q m d (index_address r a b) (string_length_of r.xer)

-- a string of n bytes stored at an address from registers s on, where register 0 follows on register 31: the first e
-- bytes of each register, its high ones, stand in its place of the string, as a big-endian number, as far as the string
-- goes; memory stays beside the string; and registers are at the next instruction
pub record IsStored (r q : RegsPpc) (m k : Memory) (s at n : ℕ) : Type 0 where
  pub stored : (j e : ℕ) → e ≤ 4 → 4 * j + e ≤ n → number_at (at + 4 * j) e k.bytes ≡ gpr_of r ((s + j) % 32) / 256 ^ (4 - e)
  pub beside : IsSameBeside at (at + n) m k
  pub next : q ≡ onto_next r

-- stswi, whose length is its field, and stswx, whose length is in XER
abbrev pub StringsStore : Type 0
StringsStore =
    (r q : RegsPpc) (m k : Memory) (word s a nb : ℕ) → IsRam m → AreLongs 32 r.gpr
    → runs r m word (StringImmediate (StoreStringImmediate s a nb)) ≡ Goes q k → IsStored r q m k s (base_of r a) (string_length nb)

abbrev pub IndexedStringsStore : Type 0
IndexedStringsStore =
    (r q : RegsPpc) (m k : Memory) (word s a b : ℕ) → IsRam m → AreLongs 32 r.gpr
    → runs r m word (StringIndexed (StoreStringIndexed s a b)) ≡ Goes q k → IsStored r q m k s (index_address r a b) (string_length_of r.xer)

-- the number of bytes of which the first is the lowest
abbrev pub little_number : List ℕ → ℕ
little_number [] = 0
little_number (byte ∷ bytes) = byte + 256 * little_number bytes

-- lwbrx and lhbrx give the little-endian number of the bytes at their address
abbrev pub LoadsLittle : Type 0
LoadsLittle =
    (r q : RegsPpc) (m k : Memory) (word d a b : ℕ) (kind : ReversedKind) → AreBytes m.bytes → AreLongs 32 r.gpr → d < 32
    → runs r m word (Reversed (LoadReversed kind d a b)) ≡ Goes q k
    → gpr_of q d ≡ little_number (part (index_address r a b) (bytes_of (reversed_size kind)) m.bytes)

-- what stwbrx or sthbrx stores, lwbrx or lhbrx gives back: all of a word, or the low half
abbrev pub ReversesBack : Type 0
ReversesBack =
    (r q : RegsPpc) (m n : Memory) (word other s d a b : ℕ) (kind : ReversedKind)
    → runs r m word (Reversed (StoreReversed kind s a b)) ≡ Goes q n
    → runs q n other (Reversed (LoadReversed kind d a b)) ≡ Goes (onto_next (with_gpr q d (truncated (gpr_of r s) (reversed_size kind)))) n
