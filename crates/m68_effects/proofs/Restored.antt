-- MOVEM to memory and back.
use Rattle.std.proofs.Common.{◌≡◌, ◌≢◌, ℕ, ◌+◌, ◌-◌, ◌*◌, ◌^◌, ◌<◌, ◌≤◌, ◌∙◌, Bool, true, false, List, [], ◌∷◌, length, get_or, map, filter, Result, Ok, refl, sym, ap, subst, arith, lit<}
use Rattle.std.specs.Prelude.{◌==◌, nat_lt, if◌then◌else◌, slice_index}
use Rattle.std.specs.List.{list_any}
use Rattle.std.proofs.lemmas.List.{length-map}
use Rattle.mix_bits.specs.declared.size.Size.{Size}
use Rattle.mix_bits.specs.declared.size.Size.TheVariants.{Two, Four}
use Rattle.mix_bits.specs.declared.fault.Fault.{Fault}
use Rattle.mix_bits.specs.Addresses.{onward}
use Rattle.mix_bits.specs.Digits.{digit_of}
use Rattle.mix_bits.specs.Results.{◌>>=◌}
use Rattle.mix_bits.specs.Sizes.{bytes_of, modulus, sign_extended, signed_below, truncated}
use Rattle.std.specs.Int.{cast_unsigned, w32}
use Rattle.m68_isa.specs.declared.registers.Regs68.{Regs68}
use Rattle.m68_isa.specs.declared.ea.Ea.TheVariants.{Post, Pre}
use Rattle.m68_isa.specs.declared.instructions.Instr68.TheVariants.{MovemFromMemory, MovemToMemory}
use Rattle.big_memory.specs.Memory.{IsRam, Memory}
use Rattle.mix_bits.specs.Addresses.{backward}
use Rattle.m68_ea.specs.Places.{with_address}
use Rattle.m68_effects.specs.laws.Laws.{IsFile}
use Rattle.m68_effects.specs.laws.MovemLaws.{IsRestored, LeavesNumbers, NameTheSame, RestoresLongs, RestoresWords}
use Rattle.m68_effects.specs.Multiple.{listed, loaded_along, register_of, span_of, stored_down}
use Rattle.m68_effects.specs.inner.Rows.{sixteen}
use Rattle.m68_effects.specs.Parts.{Effect, goes_on}
use Rattle.m68_effects.specs.Rows.{effect}
use Rattle.m68_effects.proofs.Called.{behind-one}
use Rattle.m68_effects.proofs.Pushed.{top, twice-truncated, whole-extended, whole-truncated}
use Rattle.m68_effects.proofs.Refilled.{AreRegisters, HasEight, address_written, all_loaded, as_loaded, eight_refilled, high-of, other-test, picked, refilled, refilled_holds, registers_picked, same-test, same_codes}
use Rattle.m68_effects.proofs.Stood.{Stand, all_saved, onto, still_saved}

-- whether a mask has a register
abbrev has : ℕ → ℕ → Bool
has mask k = digit_of mask k 1 == 1

all-listed : (mask : ℕ) → listed mask ≡ filter (has mask) sixteen
unfolding listed
all-listed mask = refl

-- registers that two masks name, from either end
abbrev AreTurned : (ℕ → Bool) → (ℕ → Bool) → List ℕ → Type 0
AreTurned p q [] = Unit {0}
AreTurned p q (k ∷ ks) = (p k ≡ q (15 - k)) × AreTurned p q ks

onto-if : (b c : Bool) (v w : ℕ) (xs ys : List ℕ) (f g : ℕ → ℕ) → b ≡ c → f v ≡ g w
    → onto (map f (if b then v ∷ xs else xs)) (map g ys) ≡ onto (map f xs) (map g (if c then w ∷ ys else ys))
onto-if true true v w xs ys f g same value = ap (λ x. onto (map f xs) (x ∷ map g ys)) value
onto-if true false v w xs ys f g same value = absurd (cc)
onto-if false true v w xs ys f g same value = absurd (cc)
onto-if false false v w xs ys f g same value = refl

turned : (ks js : List ℕ) (p q : ℕ → Bool) (g : ℕ → ℕ) → AreTurned p q ks
    → onto (map (λ k. g (15 - k)) (filter p ks)) (map g (filter q js)) ≡ map g (filter q (onto (map (λ k. 15 - k) ks) js))
turned [] js p q g are = refl
turned (k ∷ ks) js p q g are =
    onto-if (p k) (q (15 - k)) k (15 - k) (filter p ks) (filter q js) (λ i. g (15 - i)) g are.0 refl
    ∙ turned ks ((15 - k) ∷ js) p q g are.1

-- the tests of two masks of the same registers
same-has : (down up : ℕ) → NameTheSame down up → (k : ℕ) → k < 16 → has down k ≡ has up (15 - k)
same-has down up same k few = ap (λ d. d == 1) (same k few)

turned-each : (ks : List ℕ) (p q : ℕ → Bool) → ((k : ℕ) → k < 16 → p k ≡ q (15 - k)) → AreRegisters ks → AreTurned p q ks
turned-each [] p q each are = tt
turned-each (k ∷ ks) p q each are = (each k are.0, turned-each ks p q each are.1)

are-sixteen : AreRegisters sixteen
are-sixteen = (lit< tt, (lit< tt, (lit< tt, (lit< tt, (lit< tt, (lit< tt, (lit< tt, (lit< tt, (lit< tt, (lit< tt, (lit< tt, (lit< tt, (lit< tt, (lit< tt, (lit< tt, (lit< tt, tt))))))))))))))))

all-turned : (down up : ℕ) → NameTheSame down up → AreTurned (has down) (has up) sixteen
all-turned down up same = turned-each sixteen (has down) (has up) (same-has down up same) are-sixteen

-- the values go up as their registers do
values-up : (down up : ℕ) (g : ℕ → ℕ) → NameTheSame down up → onto (map (λ k. g (15 - k)) (listed down)) [] ≡ map g (listed up)
values-up down up g same =
    ap (λ ks. onto (map (λ k. g (15 - k)) ks) []) (all-listed down) ∙ turned sixteen [] (has down) (has up) g (all-turned down up same) ∙ ap (map g) (sym (all-listed up))

length-onto : (vs others : List ℕ) → length (onto vs others) ≡ length vs + length others
length-onto [] others = omega arith
length-onto (v ∷ vs) others = let rest = length-onto vs (v ∷ others) in omega (arith, rest)

as-many : (down up : ℕ) (g : ℕ → ℕ) → NameTheSame down up → length (map (λ k. g (15 - k)) (listed down)) ≡ length (listed up)
as-many down up g same =
    let joined = length-onto (map (λ k. g (15 - k)) (listed down)) [] in
    let is : length (map g (listed up)) ≡ length (map (λ k. g (15 - k)) (listed down)) + 0 = ap length (sym (values-up down up g same)) ∙ joined in
    let many : length (map g (listed up)) ≡ length (listed up) = length-map (listed up) g in
    omega (arith, is, many)

-- the base, before and behind
below-top : (from span a : ℕ) → from + span ≡ a → a < 2 ^ 32 → backward a span ≡ from
below-top from span a is fits = omega arith

above-base : (from span a : ℕ) → from + span ≡ a → a < 2 ^ 32 → onward from span ≡ a
above-base from span a is fits = omega arith

-- the registers behind both
restored-by : (s : Size) (r p : Regs68) (up base : ℕ) → HasEight p → base < 8
    → IsRestored (λ v. sign_extended (truncated v s) s) up base r p (with_address (refilled s (register_of r) p (listed up)) base (slice_index r.a base))
restored-by s r p up base eight low =
    let q : Regs68 = refilled s (register_of r) p (listed up) in
    let file : HasEight q = eight_refilled (listed up) s (register_of r) p eight in
    let registers : AreRegisters (listed up) = subst AreRegisters (sym (all-listed up)) (registers_picked (has up) sixteen are-sixteen) in
    let beside = λ (k : ℕ) (few : k < 16) (other : k ≢ 8 + base).
    address_written q base (slice_index r.a base) k file low
    ∙ ap (λ b. if b then slice_index r.a base else register_of q k) (other-test (8 + base) k (λ is. other (sym is)))
    ∙ refilled_holds (listed up) s (register_of r) p k eight registers
    ∙ ap (λ ks. if list_any (λ i. i == k) ks then as_loaded s (register_of r) k else register_of p k) (all-listed up)
    ∙ ap (λ b. if b then as_loaded s (register_of r) k else register_of p k) (picked (has up) k few) in
    record {
      named = λ k few other is. beside k few other ∙ ap (λ b. if b then as_loaded s (register_of r) k else register_of p k) (same-test (digit_of up k 1) 1 is);
      others = λ k few other is. beside k few other ∙ ap (λ b. if b then as_loaded s (register_of r) k else register_of p k) (other-test (digit_of up k 1) 1 is);
      pointer =
          address_written q base (slice_index r.a base) (8 + base) file low ∙ ap (λ b. if b then slice_index r.a base else register_of q (8 + base)) (same-test (8 + base) (8 + base) refl)
          ∙ sym (high-of r (8 + base) (omega arith) ∙ ap (λ i. get_or r.a i 0) (let back : 8 + base - 8 ≡ base = omega arith in back));
      codes = same_codes (listed up) s (register_of r) p;
    }

-- both instructions
abbrev to_base : Memory → ℕ → ℕ → ℕ → Regs68 → Effect
to_base m last base a t = goes_on last (with_address t base a) m

to-and-fro : (s : Size) → 0 < bytes_of s → (r q p : Regs68) (m n k : Memory) (next last down up base : ℕ) → IsFile r → IsFile p → IsRam m → base < 8 → NameTheSame down up
    → effect r m next (MovemToMemory s down (Pre base)) ≡ Ok (q, n)
    → slice_index p.a base ≡ slice_index q.a base
    → LeavesNumbers s (slice_index q.a base) (slice_index r.a base) n k
    → effect p k last (MovemFromMemory s up (Post base)) ≡ goes_on last (with_address (refilled s (register_of r) p (listed up)) base (slice_index r.a base)) k
to-and-fro s some r q p m n k next last down up base file other ram low same is pointer left =
    let values : List ℕ = map (λ j. register_of r (15 - j)) (listed down) in
    let a : ℕ = slice_index r.a base in
    let fits : a < 2 ^ 32 = file.address_registers.each base in
    let after : Regs68 = record (with_address r base (backward a (span_of s down))) { pc = next } in
    let done = behind-one (stored_down r.pc m a s values) after q n is in
    let small : length m.bytes ≤ 2 ^ 24 = ram.most in
    let saved = all_saved values [] r.pc m n a s some small fits done.0 tt in
    let many : length values ≡ length (listed up) = as-many down up (register_of r) same in
    let listed-down : length values ≡ length (listed down) = length-map (listed down) (λ j. register_of r (15 - j)) in
    let span : saved.from + span_of s up ≡ a = ap (λ c. saved.from + bytes_of s * c) (sym many) ∙ saved.span in
    let span-down : saved.from + span_of s down ≡ a = ap (λ c. saved.from + bytes_of s * c) (sym listed-down) ∙ saved.span in
    let base-of-q : slice_index q.a base ≡ saved.from =
    ap (λ (t : Regs68). slice_index t.a base) done.1 ∙ top r base (backward a (span_of s down)) file.address_registers.count low ∙ below-top saved.from (span_of s down) a span-down fits in
    let base-of-p : slice_index p.a base ≡ saved.from = pointer ∙ base-of-q in
    let up-values : List ℕ = map (register_of r) (listed up) in
    let stand : Stand n s saved.from up-values = subst (Stand n s saved.from) (values-up down up (register_of r) same) saved.stand in
    let up-many : length up-values ≡ length (listed up) = length-map (listed up) (register_of r) in
    let end : saved.from + bytes_of s * length up-values ≡ a = ap (λ c. saved.from + bytes_of s * c) up-many ∙ span in
    let still : Stand k s saved.from up-values = still_saved up-values n k s saved.from (λ x from below. left x (omega arith) (omega arith)) stand in
    let loads : loaded_along p.pc p k (slice_index p.a base) s (listed up) ≡ Ok (refilled s (register_of r) p (listed up)) =
    ap (λ x. loaded_along p.pc p k x s (listed up)) base-of-p ∙ all_loaded (listed up) p.pc p k saved.from s (register_of r) (omega arith) still in
    let behind : onward (slice_index p.a base) (span_of s up) ≡ a = ap (λ x. onward x (span_of s up)) base-of-p ∙ above-base saved.from (span_of s up) a span fits in
    ap (λ (found : Result Regs68 Fault). found >>= to_base k last base (onward (slice_index p.a base) (span_of s up))) loads
    ∙ ap (λ x. goes_on last (with_address (refilled s (register_of r) p (listed up)) base x) k) behind

-- what a value became
recast : (old new : ℕ → ℕ) (up base : ℕ) (r p t : Regs68) → ((k : ℕ) → old (register_of r k) ≡ new (register_of r k)) → IsRestored old up base r p t → IsRestored new up base r p t
recast old new up base r p t same is = record { named = λ k few other one. is.named k few other one ∙ same k; others = is.others; pointer = is.pointer; codes = is.codes }

register-fits : (r : Regs68) → IsFile r → (k : ℕ) → register_of r k < 2 ^ 32
register-fits r file k = elim (nat_lt k 8) as (λ b. (if b then slice_index r.d k else slice_index r.a (k - 8)) < 2 ^ 32) [ true ↦ file.data_registers.each k | false ↦ file.address_registers.each (k - 8) ]

eight-of : (r : Regs68) → IsFile r → HasEight r
eight-of r file = record { d = file.data_registers.count; a = file.address_registers.count }

pub restores_longs : RestoresLongs
restores_longs r q p m n k next last down up base file other ram low same is pointer left = (
  with_address (refilled Four (register_of r) p (listed up)) base (slice_index r.a base),
  (
    to-and-fro Four (omega arith) r q p m n k next last down up base file other ram low same is pointer left,
    recast (λ v. sign_extended (truncated v Four) Four) (λ v. v) up base r p _
        (λ i. ap (λ v. sign_extended v Four) (whole-truncated (register_of r i) (register-fits r file i)) ∙ whole-extended (register_of r i) (register-fits r file i))
        (restored-by Four r p up base (eight-of p other) low),
  ),
)

pub restores_words : RestoresWords
restores_words r q p m n k next last down up base file other ram low same is pointer left = (
  with_address (refilled Two (register_of r) p (listed up)) base (slice_index r.a base),
  (
    to-and-fro Two (omega arith) r q p m n k next last down up base file other ram low same is pointer left,
    recast (λ v. sign_extended (truncated v Two) Two) (λ v. sign_extended v Two) up base r p _
        (λ i. ap (λ v. cast_unsigned w32 (signed_below (modulus Two) v)) (twice-truncated (register_of r i) Two))
        (restored-by Two r p up base (eight-of p other) low),
  ),
)
