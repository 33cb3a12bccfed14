-- What a string leaves in registers.
use Rattle.std.proofs.Common.{◌≡◌, ◌≢◌, ◌⊎◌, ℕ, zero, suc, ◌+◌, ◌-◌, ◌*◌, ◌/◌, ◌%◌, ◌^◌, ◌<◌, ◌≤◌, ◌∙◌, Bool, true, false, List, length, drop, get_or, Result, Ok, Err, inl, inr, ⊎_elim, refl, sym, ap, subst, arith, get_or-set_same, get_or-set_other}
use Rattle.std.specs.Prelude.{◌==◌, ◌||◌, if◌then◌else◌}
use Rattle.std.proofs.Math.ListN.{set}
use Rattle.std.proofs.lemmas.List.{get_or-drop, get_or-take, get_or_past, length-set, length-take}
use Rattle.std.proofs.lemmas.Bool.{cases_lt}
use Rattle.mix_bits.specs.declared.size.Size.TheVariants.{One}
use Rattle.mix_bits.specs.declared.fault.FaultKind.TheVariants.{BadInstr}
use Rattle.mix_bits.specs.Addresses.{onward}
use Rattle.mix_bits.specs.Digits.{digit_replaced}
use Rattle.mix_bits.specs.Faults.{fault_at}
use Rattle.mix_bits.specs.Results.{◌>>=◌}
use Rattle.big_memory.specs.declared.refusals.Access.{Access}
use Rattle.big_memory.specs.Lists.{part}
use Rattle.big_memory.specs.Memory.{IsRam, Memory, in_memory, loaded}
use Rattle.big_memory.specs.Numbers.{AreLongs, number_at}
use Rattle.big_memory.specs.Steps.{After}
use Rattle.big_memory.specs.Steps.After.{Goes, Stops}
use Rattle.ppc_isa.specs.declared.registers.RegsPpc.{RegsPpc}
use Rattle.ppc_isa.specs.Operands.{string_length}
use Rattle.ppc_integer.specs.Xer.{string_length_of}
use Rattle.ppc_integer.specs.File.{base_of, gpr_of, onto_next}
use Rattle.ppc_integer.specs.Storage.{index_address}
use Rattle.ppc_integer.specs.laws.StorageLaws.{IndexedStringsFill, IsFilled, StringsFill}
use Rattle.ppc_integer.specs.Strings.{fills, in_order, load_byte, load_string, with_string_byte}
use Rattle.ppc_integer.proofs.Reversed.{lies-within, loaded-then, number-of}

-- four elements of a list as digits to the base 256
abbrev word_in : List ℕ → ℕ → ℕ
word_in xs j = get_or xs (4 * j) 0 * 16777216 + get_or xs (4 * j + 1) 0 * 65536 + get_or xs (4 * j + 2) 0 * 256 + get_or xs (4 * j + 3) 0

word-is : (xs : List ℕ) (j : ℕ) → number_at (4 * j) 4 xs ≡ word_in xs j
word-is xs j = rw (get_or-drop (4 * j) xs 0 0, get_or-drop (4 * j) xs 1 0, get_or-drop (4 * j) xs 2 0, get_or-drop (4 * j) xs 3 0) (grind arith)

-- a byte more of a string
inside : (at k i : ℕ) (bytes : List ℕ) → i < k → get_or (part at k bytes) i 0 ≡ get_or bytes (at + i) 0
inside at k i bytes below = get_or-take k (drop at bytes) i 0 below ∙ get_or-drop at bytes i 0

outside : (at k i : ℕ) (bytes : List ℕ) → k ≤ i → get_or (part at k bytes) i 0 ≡ 0
outside at k i bytes above = get_or_past (part at k bytes) i 0 (omega (arith, length-take k (drop at bytes)))

same-inside : (at k i : ℕ) (bytes : List ℕ) → i ≢ k → get_or (part at (suc k) bytes) i 0 ≡ get_or (part at k bytes) i 0
same-inside at k i bytes other =
    ⊎_elim (λ below. inside at (suc k) i bytes (omega arith) ∙ sym (inside at k i bytes below))
    (λ above. outside at (suc k) i bytes (omega arith) ∙ sym (outside at k i bytes above)) (cases_lt i k)

-- where it stands in its register
place-0 : (b : ℕ) → digit_replaced 0 24 8 b ≡ b * 16777216
place-0 b = omega arith

place-1 : (w b : ℕ) → digit_replaced (w * 16777216) 16 8 b ≡ w * 16777216 + b * 65536
place-1 w b = omega arith

place-2 : (w x b : ℕ) → digit_replaced (w * 16777216 + x * 65536) 8 8 b ≡ w * 16777216 + x * 65536 + b * 256
place-2 w x b = omega arith

place-3 : (w x y b : ℕ) → digit_replaced (w * 16777216 + x * 65536 + y * 256) 0 8 b ≡ w * 16777216 + x * 65536 + y * 256 + b
place-3 w x y b = omega arith

-- the register of byte k, with it
abbrev added : ℕ → ℕ → ℕ → ℕ
added e old b = digit_replaced (if e == 0 then 0 else old) (24 - 8 * e) 8 b

-- four bytes, of which the first e stand, and one more
more-0 : (v0 v1 v2 v3 w0 w1 w2 w3 old b : ℕ) → w0 ≡ b → w1 ≡ 0 → w2 ≡ 0 → w3 ≡ 0 → added 0 old b ≡ w0 * 16777216 + w1 * 65536 + w2 * 256 + w3
more-0 v0 v1 v2 v3 w0 w1 w2 w3 old b first second third fourth = place-0 b ∙ omega arith

more-1 : (v0 v1 v2 v3 w0 w1 w2 w3 old b : ℕ) → old ≡ v0 * 16777216 + v1 * 65536 + v2 * 256 + v3 → v1 ≡ 0 → v2 ≡ 0 → v3 ≡ 0
    → w0 ≡ v0 → w1 ≡ b → w2 ≡ 0 → w3 ≡ 0 → added 1 old b ≡ w0 * 16777216 + w1 * 65536 + w2 * 256 + w3
more-1 v0 v1 v2 v3 w0 w1 w2 w3 old b is n1 n2 n3 first second third fourth =
    let whole : old ≡ v0 * 16777216 = omega arith in ap (λ x. added 1 x b) whole ∙ place-1 v0 b ∙ omega arith

more-2 : (v0 v1 v2 v3 w0 w1 w2 w3 old b : ℕ) → old ≡ v0 * 16777216 + v1 * 65536 + v2 * 256 + v3 → v2 ≡ 0 → v3 ≡ 0
    → w0 ≡ v0 → w1 ≡ v1 → w2 ≡ b → w3 ≡ 0 → added 2 old b ≡ w0 * 16777216 + w1 * 65536 + w2 * 256 + w3
more-2 v0 v1 v2 v3 w0 w1 w2 w3 old b is n2 n3 first second third fourth =
    let whole : old ≡ v0 * 16777216 + v1 * 65536 = omega arith in ap (λ x. added 2 x b) whole ∙ place-2 v0 v1 b ∙ omega arith

more-3 : (v0 v1 v2 v3 w0 w1 w2 w3 old b : ℕ) → old ≡ v0 * 16777216 + v1 * 65536 + v2 * 256 + v3 → v3 ≡ 0
    → w0 ≡ v0 → w1 ≡ v1 → w2 ≡ v2 → w3 ≡ b → added 3 old b ≡ w0 * 16777216 + w1 * 65536 + w2 * 256 + w3
more-3 v0 v1 v2 v3 w0 w1 w2 w3 old b is n3 first second third fourth =
    let whole : old ≡ v0 * 16777216 + v1 * 65536 + v2 * 256 = omega arith in ap (λ x. added 3 x b) whole ∙ place-3 v0 v1 v2 b ∙ omega arith

-- registers that k bytes of a string have filled
record Holds (gpr all bytes : List ℕ) (d at k : ℕ) : Type 0 where
  fits : at + k < 2 ^ 32
  count : length all ≡ 32
  filled : (j : ℕ) → 4 * j < k → get_or all ((d + j) % 32) 0 ≡ word_in (part at k bytes) j
  others : (x : ℕ) → ((j : ℕ) → 4 * j < k → x ≢ (d + j) % 32) → get_or all x 0 ≡ get_or gpr x 0

quarter : (e : ℕ) → e < 4 → (e ≡ 0) ⊎ ((e ≡ 1) ⊎ ((e ≡ 2) ⊎ (e ≡ 3)))
quarter zero below = inl refl
quarter (suc zero) below = inr (inl refl)
quarter (suc (suc zero)) below = inr (inr (inl refl))
quarter (suc (suc (suc zero))) below = inr (inr (inr refl))
quarter (suc (suc (suc (suc e)))) below = absurd (omega (arith, below))

-- byte k = 4 * j + e goes to its register
at-its-place : (gpr all bytes : List ℕ) (d at k j b : ℕ) → Holds gpr all bytes d at k → get_or (part at (suc k) bytes) k 0 ≡ b → j ≡ k / 4
    → added (k % 4) (get_or all ((d + j) % 32) 0) b ≡ word_in (part at (suc k) bytes) j
at-its-place gpr all bytes d at k j b holds is same =
    let old = part at k bytes in
    let new = part at (suc k) bytes in
    let stays = λ (i : ℕ) (other : i ≢ k). same-inside at k i bytes other in
    let none = λ (i : ℕ) (above : k ≤ i). outside at k i bytes above in
    let past = λ (i : ℕ) (above : suc k ≤ i). outside at (suc k) i bytes above in
    let o : ℕ = get_or all ((d + j) % 32) 0 in
    let four : (k % 4 ≡ 0) ⊎ ((k % 4 ≡ 1) ⊎ ((k % 4 ≡ 2) ⊎ (k % 4 ≡ 3))) = quarter (k % 4) (omega arith) in
    let here = λ (e : ℕ) (k-is : k ≡ 4 * j + e). ap (λ i. get_or new i 0) (sym k-is) ∙ is in
    ⊎_elim
    (λ e0. rw e0 (more-0 0 0 0 0 (get_or new (4 * j) 0) (get_or new (4 * j + 1) 0) (get_or new (4 * j + 2) 0) (get_or new (4 * j + 3) 0) o b
    (ap (λ i. get_or new i 0) (omega arith) ∙ is) (past (4 * j + 1) (omega arith)) (past (4 * j + 2) (omega arith)) (past (4 * j + 3) (omega arith))))
    (⊎_elim
    (λ e1. rw e1 (more-1 (get_or old (4 * j) 0) (get_or old (4 * j + 1) 0) (get_or old (4 * j + 2) 0) (get_or old (4 * j + 3) 0) (get_or new (4 * j) 0) (get_or new (4 * j + 1) 0) (get_or new (4 * j + 2) 0) (get_or new (4 * j + 3) 0) o b
    (holds.filled j (omega arith)) (none (4 * j + 1) (omega arith)) (none (4 * j + 2) (omega arith)) (none (4 * j + 3) (omega arith))
    (stays (4 * j) (omega arith)) (here 1 (omega arith)) (past (4 * j + 2) (omega arith)) (past (4 * j + 3) (omega arith))))
    (⊎_elim
    (λ e2. rw e2 (more-2 (get_or old (4 * j) 0) (get_or old (4 * j + 1) 0) (get_or old (4 * j + 2) 0) (get_or old (4 * j + 3) 0) (get_or new (4 * j) 0) (get_or new (4 * j + 1) 0) (get_or new (4 * j + 2) 0) (get_or new (4 * j + 3) 0) o b
    (holds.filled j (omega arith)) (none (4 * j + 2) (omega arith)) (none (4 * j + 3) (omega arith))
    (stays (4 * j) (omega arith)) (stays (4 * j + 1) (omega arith)) (here 2 (omega arith)) (past (4 * j + 3) (omega arith))))
    (λ e3. rw e3 (more-3 (get_or old (4 * j) 0) (get_or old (4 * j + 1) 0) (get_or old (4 * j + 2) 0) (get_or old (4 * j + 3) 0) (get_or new (4 * j) 0) (get_or new (4 * j + 1) 0) (get_or new (4 * j + 2) 0) (get_or new (4 * j + 3) 0) o b
    (holds.filled j (omega arith)) (none (4 * j + 3) (omega arith))
    (stays (4 * j) (omega arith)) (stays (4 * j + 1) (omega arith)) (stays (4 * j + 2) (omega arith)) (here 3 (omega arith)))))) four

-- the registers before it stay
before-it : (gpr all bytes : List ℕ) (d at k j v : ℕ) → Holds gpr all bytes d at k → k < 128 → 4 * j + 4 ≤ k
    → get_or (set all ((d + k / 4) % 32) v) ((d + j) % 32) 0 ≡ word_in (part at (suc k) bytes) j
before-it gpr all bytes d at k j v holds few done =
    let apart : (d + j) % 32 ≢ (d + k / 4) % 32 = omega arith in
    let stays = λ (i : ℕ) (other : i ≢ k). sym (same-inside at k i bytes other) in
    let e0 = stays (4 * j) (omega arith) in
    let e1 = stays (4 * j + 1) (omega arith) in
    let e2 = stays (4 * j + 2) (omega arith) in
    let e3 = stays (4 * j + 3) (omega arith) in
    get_or-set_other all ((d + k / 4) % 32) ((d + j) % 32) v 0 apart ∙ holds.filled j (omega arith) ∙ omega (arith, e0, e1, e2, e3)

byte-more : (gpr all bytes : List ℕ) (d at k b : ℕ) → Holds gpr all bytes d at k → k < 128 → at + suc k < 2 ^ 32 → get_or bytes (at + k) 0 ≡ b
    → Holds gpr (with_string_byte all d k b) bytes d at (suc k)
byte-more gpr all bytes d at k b holds few fits is =
    let reg : ℕ = (d + k / 4) % 32 in
    let v : ℕ = added (k % 4) (get_or all reg 0) b in
    let new-byte : get_or (part at (suc k) bytes) k 0 ≡ b = inside at (suc k) k bytes (omega arith) ∙ is in
    let there : reg < length all = rw (holds.count) (omega arith) in
    record {
      fits = fits;
      count = length-set all reg v ∙ holds.count;
      filled = λ j below.
          ⊎_elim
          (λ before. before-it gpr all bytes d at k j v holds few (omega arith))
          (λ after.
          let same : j ≡ k / 4 = omega arith in
          ap (λ i. get_or (set all reg v) ((d + i) % 32) 0) same ∙ get_or-set_same all reg v 0 there
          ∙ at-its-place gpr all bytes d at k (k / 4) b holds new-byte refl ∙ ap (word_in (part at (suc k) bytes)) (sym same))
          (cases_lt j (k / 4));
      others = λ x other.
          get_or-set_other all reg x v 0 (other (k / 4) (omega arith)) ∙ holds.others x (λ j below. other j (omega arith));
    }

-- all bytes
abbrev to_register : List ℕ → ℕ → ℕ → ℕ → Result (List ℕ) Access
to_register all d k byte = Ok (with_string_byte all d k byte)

pub bound : {A B : Type 0} (x : Result A Access) (f : A → Result B Access) (y : B) → (x >>= f) ≡ Ok y → (v : A) × ((x ≡ Ok v) × (f v ≡ Ok y))
bound (Ok v) f y is = (v, (refl, is))
bound (Err e) f y is = absurd (cc)

pub at-byte : (m : Memory) (a b : ℕ) → loaded m a One ≡ Ok b → (a + 1 ≤ length m.bytes) × (get_or m.bytes a 0 ≡ b)
at-byte m a b is =
    let number = number-of (in_memory m a 1) a (number_at a 1 m.bytes) b is in
    let one : number_at a 1 m.bytes ≡ get_or m.bytes (a + 0) 0 = rw (get_or-drop a m.bytes 0 0) (grind arith) in
    let same : a + 0 ≡ a = omega arith in
    (lies-within m a 1 (omega arith) number.0, ap (λ i. get_or m.bytes i 0) (sym same) ∙ sym one ∙ number.1)

in-registers : (n : ℕ) (gpr all : List ℕ) (m : Memory) (d at : ℕ) → length gpr ≡ 32 → at < 2 ^ 32 → length m.bytes ≤ 2 ^ 24 → n ≤ 128
    → in_order (load_byte m at d) gpr n ≡ Ok all → Holds gpr all m.bytes d at n
unfolding in_order
in-registers zero gpr all m d at count fits small few is =
    let same : gpr ≡ all = cc in
    subst (λ xs. Holds gpr xs m.bytes d at 0) same (record { fits = omega arith; count = count; filled = λ j below. absurd (omega (arith, below)); others = λ x other. refl })
in-registers (suc k) gpr all m d at count fits small few is =
    let first = bound (in_order (load_byte m at d) gpr k) (λ left. load_byte m at d left k) all is in
    let holds = in-registers k gpr first.0 m d at count fits small (omega arith) first.1.0 in
    let second = bound (loaded m (onward at k) One) (to_register first.0 d k) all first.1.1 in
    let byte = at-byte m (onward at k) second.0 second.1.0 in
    let so-far : at + k < 2 ^ 32 = holds.fits in
    let place : onward at k ≡ at + k = omega arith in
    let within : onward at k + 1 ≤ length m.bytes = byte.0 in
    let next : at + suc k < 2 ^ 32 = omega (arith, place, within, small) in
    let same : with_string_byte first.0 d k second.0 ≡ all = cc (second.1.1) in
    subst (λ xs. Holds gpr xs m.bytes d at (suc k)) same (byte-more gpr first.0 m.bytes d at k second.0 holds (omega arith) next (ap (λ i. get_or m.bytes i 0) (sym place) ∙ byte.1))

-- the instructions
string-fills : (r q : RegsPpc) (m k : Memory) (d at n : ℕ) → IsRam m → AreLongs 32 r.gpr → at < 2 ^ 32 → n ≤ 128 → load_string r m d at n ≡ Goes q k → IsFilled r q m d at n
string-fills r q m k d at n ram file fits few is =
    let next : List ℕ → RegsPpc = λ gpr. onto_next (record r { gpr = gpr }) in
    let step = loaded-then {T = List ℕ} (in_order (load_byte m at d) r.gpr n) r.pc next m k q is in
    let holds = in-registers n r.gpr step.0 m d at file.count fits ram.most few step.1.0 in
    record {
      filled = λ j below. ap (λ (t : RegsPpc). gpr_of t ((d + j) % 32)) step.1.1 ∙ holds.filled j below ∙ sym (word-is (part at n m.bytes) j);
      others = λ x other. ap (λ (t : RegsPpc). gpr_of t x) step.1.1 ∙ holds.others x other;
    }

pub base-fits : (r : RegsPpc) (a : ℕ) → AreLongs 32 r.gpr → base_of r a < 2 ^ 32
base-fits r a file = elim (a == 0) as (λ b. (if b then 0 else gpr_of r a) < 2 ^ 32) [ true ↦ omega arith | false ↦ file.each a ]

length-fits : (nb : ℕ) → nb < 32 → string_length nb ≤ 128
length-fits nb few = elim (nb == 0) as (λ b. (if b then 32 else nb) ≤ 128) [ true ↦ omega arith | false ↦ omega arith ]

pub strings_fill : StringsFill
strings_fill r q m k word d a nb ram file few is = string-fills r q m k d (base_of r a) (string_length nb) ram file (base-fits r a file) (length-fits nb few) is

goes-on : (stops : Bool) (pc word : ℕ) (step : After RegsPpc) (q : RegsPpc) (k : Memory) → (if stops then Stops (fault_at pc BadInstr word) else step) ≡ Goes q k → step ≡ Goes q k
goes-on true pc word step q k is = absurd (cc)
goes-on false pc word step q k is = is

pub indexed_strings_fill : IndexedStringsFill
indexed_strings_fill r q m k word d a b ram file is =
    let n : ℕ = string_length_of r.xer in
    let at : ℕ = index_address r a b in
    string-fills r q m k d at n ram file (omega arith) (omega arith) (goes-on (fills a d n || fills b d n) r.pc word (load_string r m d at n) q k is)
