-- What a string's store leaves in memory.
use Rattle.std.proofs.Common.{◌≡◌, ◌⊎◌, ℕ, zero, suc, ◌+◌, ◌-◌, ◌*◌, ◌/◌, ◌%◌, ◌^◌, ◌<◌, ◌≤◌, ◌∙◌, List, length, get_or, Option, None, Some, Result, Ok, Err, inl, inr, ⊎_elim, refl, sym, ap, subst, arith}
use Rattle.std.proofs.lemmas.List.{get_or-drop}
use Rattle.std.proofs.lemmas.Bool.{cases_lt}
use Rattle.byteorder.specs.Endian.{big_bytes}
use Rattle.mix_bits.specs.declared.size.Size.TheVariants.{One}
use Rattle.mix_bits.specs.Addresses.{onward}
use Rattle.mix_bits.specs.Digits.{digit_of}
use Rattle.mix_bits.specs.Results.{◌>>=◌}
use Rattle.mix_bits.specs.Sizes.{truncated}
use Rattle.big_memory.specs.declared.refusals.Access.{Access}
use Rattle.big_memory.specs.Memory.{IsRam, Memory, loaded, refusal, stored}
use Rattle.big_memory.specs.Numbers.{AreLongs, number_at}
use Rattle.big_memory.specs.Steps.After.{Goes}
use Rattle.big_memory.specs.laws.Stores.{IsSameBeside}
use Rattle.big_memory.specs.Stores.{stored_unless, stored_value}
use Rattle.big_memory.proofs.Guarded.{passes}
use Rattle.big_memory.proofs.Longs.{stored_loads}
use Rattle.big_memory.proofs.Rams.{stay_beside}
use Rattle.ppc_isa.specs.declared.registers.RegsPpc.{RegsPpc}
use Rattle.ppc_isa.specs.Operands.{string_length}
use Rattle.ppc_integer.specs.Xer.{string_length_of}
use Rattle.ppc_integer.specs.File.{base_of, gpr_of, onto_next}
use Rattle.ppc_integer.specs.Storage.{index_address}
use Rattle.ppc_integer.specs.laws.StorageLaws.{IndexedStringsStore, IsStored, StringsStore}
use Rattle.ppc_integer.specs.Strings.{in_order, store_byte, store_string, string_byte}
use Rattle.ppc_integer.proofs.Filled.{at-byte, base-fits, bound}
use Rattle.ppc_integer.proofs.Reversed.{stored-then}

-- a byte that is stored
done-is : (reason : Option Access) (m n : Memory) → stored_unless reason m ≡ Ok n → (reason ≡ None) × (n ≡ m)
done-is None m n is = (refl, cc)
done-is (Some e) m n is = absurd (cc)

byte-low : (x : ℕ) → truncated (x % 256) One ≡ x % 256
byte-low x = omega arith

record IsByte (m n : Memory) (a b : ℕ) : Type 0 where
  within : a + 1 ≤ length m.bytes
  beside : IsSameBeside a (a + 1) m n
  byte : get_or n.bytes a 0 ≡ truncated b One

byte-stored : (m n : Memory) (a b : ℕ) → stored_value m a One b ≡ Ok n → IsByte m n a b
unfolding stored_value
byte-stored m n a b is =
    let done = done-is (refusal m a 1) (stored m a One b) n is in
    let inside : a + 1 ≤ length m.bytes = (passes m a 1 (omega arith) done.0).within in
    let same : IsSameBeside a (a + 1) m (stored m a One b) = stay_beside m a (a + 1) (big_bytes 1 b) refl inside in
    record {
      within = inside;
      beside = subst (λ k. IsSameBeside a (a + 1) m k) (sym done.1) same;
      byte = (at-byte n a (truncated b One) (stored_loads m n a One b is)).1;
    }

-- a change behind another one
beside-more : (m x y : Memory) (at k : ℕ) → IsSameBeside at (at + k) m x → IsSameBeside (at + k) (at + k + 1) x y → IsSameBeside at (at + suc k) m y
beside-more m x y at k first second = record {
  marks = second.marks ∙ first.marks;
  long = second.long ∙ first.long;
  bytes = λ a out.
      ⊎_elim (λ below. second.bytes a (inl (omega (arith, below))) ∙ first.bytes a (inl below))
      (λ above. second.bytes a (inr (omega (arith, above))) ∙ first.bytes a (inr (omega (arith, above)))) out;
}

-- memory that has the first k bytes of a string
record Has (gpr : List ℕ) (m n : Memory) (s at k : ℕ) : Type 0 where
  fits : at + k < 2 ^ 32
  beside : IsSameBeside at (at + k) m n
  bytes : (i : ℕ) → i < k → get_or n.bytes (at + i) 0 ≡ string_byte gpr s i

byte-more : (gpr : List ℕ) (m x y : Memory) (s at k : ℕ) → length m.bytes ≤ 2 ^ 24 → Has gpr m x s at k → IsByte x y (at + k) (string_byte gpr s k) → Has gpr m y s at (suc k)
byte-more gpr m x y s at k small has one = record {
  fits = let long : length x.bytes ≡ length m.bytes = has.beside.long in omega (arith, long, small, one.within);
  beside = beside-more m x y at k has.beside one.beside;
  bytes = λ i below.
      ⊎_elim (λ before. one.beside.bytes (at + i) (inl (omega (arith, before))) ∙ has.bytes i before)
      (λ after.
      let same : i ≡ k = omega (arith, below, after) in
      ap (λ n. get_or y.bytes (at + n) 0) same ∙ one.byte ∙ byte-low _ ∙ ap (string_byte gpr s) (sym same)) (cases_lt i k);
}

all-bytes : (n : ℕ) (gpr : List ℕ) (m k : Memory) (s at : ℕ) → at < 2 ^ 32 → length m.bytes ≤ 2 ^ 24 → in_order (store_byte gpr s at) m n ≡ Ok k → Has gpr m k s at n
unfolding in_order
all-bytes zero gpr m k s at fits small is =
    let same : m ≡ k = cc in
    subst (λ x. Has gpr m x s at 0) same (record { fits = omega (arith, fits); beside = record { marks = refl; long = refl; bytes = λ a out. refl }; bytes = λ i below. absurd (omega (arith, below)) })
all-bytes (suc n) gpr m k s at fits small is =
    let first = bound (in_order (store_byte gpr s at) m n) (λ left. store_byte gpr s at left n) k is in
    let has = all-bytes n gpr m first.0 s at fits small first.1.0 in
    let so-far : at + n < 2 ^ 32 = has.fits in
    let place : onward at n ≡ at + n = omega (arith, so-far) in
    let one : stored_value first.0 (at + n) One (string_byte gpr s n) ≡ Ok k = subst (λ a. stored_value first.0 a One (string_byte gpr s n) ≡ Ok k) place first.1.1 in
    byte-more gpr m first.0 k s at n small has (byte-stored first.0 k (at + n) (string_byte gpr s n) one)

-- a register's bytes in their place
record Bytes (gpr bytes : List ℕ) (s at j e : ℕ) : Type 0 where
  each : (i : ℕ) → i < e → get_or bytes (at + 4 * j + i) 0 ≡ digit_of (get_or gpr ((s + j) % 32) 0) (24 - 8 * i) 8

of-register : (gpr bytes : List ℕ) (s at j e n : ℕ) → ((i : ℕ) → i < n → get_or bytes (at + i) 0 ≡ string_byte gpr s i) → e ≤ 4 → 4 * j + e ≤ n → Bytes gpr bytes s at j e
of-register gpr bytes s at j e n all four within = record {
  each = λ i below.
      let sum : at + 4 * j + i ≡ at + (4 * j + i) = omega arith in
      let quotient : (4 * j + i) / 4 ≡ j = omega (arith, below, four) in
      let rest : (4 * j + i) % 4 ≡ i = omega (arith, below, four) in
      ap (λ a. get_or bytes a 0) sum ∙ all (4 * j + i) (omega (arith, below, within))
      ∙ ap (λ q. digit_of (get_or gpr ((s + q) % 32) 0) (24 - 8 * ((4 * j + i) % 4)) 8) quotient
      ∙ ap (λ p. digit_of (get_or gpr ((s + j) % 32) 0) (24 - 8 * p) 8) rest;
}

-- numbers of one to four bytes
number-1 : (p : ℕ) (xs : List ℕ) → number_at p 1 xs ≡ get_or xs (p + 0) 0
number-1 p xs = rw (get_or-drop p xs 0 0) (grind arith)

number-2 : (p : ℕ) (xs : List ℕ) → number_at p 2 xs ≡ get_or xs (p + 0) 0 * 256 + get_or xs (p + 1) 0
number-2 p xs = rw (get_or-drop p xs 0 0, get_or-drop p xs 1 0) (grind arith)

number-3 : (p : ℕ) (xs : List ℕ) → number_at p 3 xs ≡ get_or xs (p + 0) 0 * 65536 + get_or xs (p + 1) 0 * 256 + get_or xs (p + 2) 0
number-3 p xs = rw (get_or-drop p xs 0 0, get_or-drop p xs 1 0, get_or-drop p xs 2 0) (grind arith)

number-4 : (p : ℕ) (xs : List ℕ) → number_at p 4 xs ≡ get_or xs (p + 0) 0 * 16777216 + get_or xs (p + 1) 0 * 65536 + get_or xs (p + 2) 0 * 256 + get_or xs (p + 3) 0
number-4 p xs = rw (get_or-drop p xs 0 0, get_or-drop p xs 1 0, get_or-drop p xs 2 0, get_or-drop p xs 3 0) (grind arith)

-- the high bytes of a word
high-0 : (v : ℕ) → v < 2 ^ 32 → 0 ≡ v / 256 ^ 4
high-0 v fits = omega (arith, fits)

high-1 : (v w : ℕ) → v < 2 ^ 32 → w ≡ v / 16777216 % 256 → w ≡ v / 256 ^ 3
high-1 v w fits first = omega (arith, fits, first)

high-2 : (v w x : ℕ) → v < 2 ^ 32 → w ≡ v / 16777216 % 256 → x ≡ v / 65536 % 256 → w * 256 + x ≡ v / 256 ^ 2
high-2 v w x fits first second = omega (arith, fits, first, second)

high-3 : (v w x y : ℕ) → v < 2 ^ 32 → w ≡ v / 16777216 % 256 → x ≡ v / 65536 % 256 → y ≡ v / 256 % 256 → w * 65536 + x * 256 + y ≡ v / 256 ^ 1
high-3 v w x y fits first second third = omega (arith, fits, first, second, third)

high-4 : (v w x y z : ℕ) → v < 2 ^ 32 → w ≡ v / 16777216 % 256 → x ≡ v / 65536 % 256 → y ≡ v / 256 % 256 → z ≡ v / 1 % 256
    → w * 16777216 + x * 65536 + y * 256 + z ≡ v / 256 ^ 0
high-4 v w x y z fits first second third fourth = omega (arith, fits, first, second, third, fourth)

register-part : (gpr bytes : List ℕ) (s at j e : ℕ) → AreLongs 32 gpr → e ≤ 4 → Bytes gpr bytes s at j e → number_at (at + 4 * j) e bytes ≡ get_or gpr ((s + j) % 32) 0 / 256 ^ (4 - e)
register-part gpr bytes s at j zero file four has = high-0 (get_or gpr ((s + j) % 32) 0) (file.each ((s + j) % 32))
register-part gpr bytes s at j (suc zero) file four has =
    number-1 (at + 4 * j) bytes ∙ high-1 (get_or gpr ((s + j) % 32) 0) _ (file.each ((s + j) % 32)) (has.each 0 (omega arith))
register-part gpr bytes s at j (suc (suc zero)) file four has =
    number-2 (at + 4 * j) bytes ∙ high-2 (get_or gpr ((s + j) % 32) 0) _ _ (file.each ((s + j) % 32)) (has.each 0 (omega arith)) (has.each 1 (omega arith))
register-part gpr bytes s at j (suc (suc (suc zero))) file four has =
    number-3 (at + 4 * j) bytes ∙ high-3 (get_or gpr ((s + j) % 32) 0) _ _ _ (file.each ((s + j) % 32)) (has.each 0 (omega arith)) (has.each 1 (omega arith)) (has.each 2 (omega arith))
register-part gpr bytes s at j (suc (suc (suc (suc zero)))) file four has =
    number-4 (at + 4 * j) bytes
    ∙ high-4 (get_or gpr ((s + j) % 32) 0) _ _ _ _ (file.each ((s + j) % 32)) (has.each 0 (omega arith)) (has.each 1 (omega arith)) (has.each 2 (omega arith)) (has.each 3 (omega arith))
register-part gpr bytes s at j (suc (suc (suc (suc (suc e))))) file four has = absurd (omega (arith, four))

-- the instructions
string-stores : (r q : RegsPpc) (m k : Memory) (s at n : ℕ) → IsRam m → AreLongs 32 r.gpr → at < 2 ^ 32 → store_string r m s at n ≡ Goes q k → IsStored r q m k s at n
string-stores r q m k s at n ram file fits is =
    let done = stored-then (in_order (store_byte r.gpr s at) m n) r.pc (onto_next r) q k is in
    let has = all-bytes n r.gpr m k s at fits ram.most done.0 in
    record {
      stored = λ j e four within. register-part r.gpr k.bytes s at j e file four (of-register r.gpr k.bytes s at j e n has.bytes four within);
      beside = has.beside;
      next = done.1;
    }

pub strings_store : StringsStore
strings_store r q m k word s a nb ram file is = string-stores r q m k s (base_of r a) (string_length nb) ram file (base-fits r a file) is

pub indexed_strings_store : IndexedStringsStore
indexed_strings_store r q m k word s a b ram file is = string-stores r q m k s (index_address r a b) (string_length_of r.xer) ram file (omega arith) is
