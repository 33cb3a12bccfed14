-- The registers of a mask, one bit after another.
use Rattle.std.proofs.Common.{◌≡◌, ℕ, zero, suc, ◌+◌, ◌-◌, ◌<◌, ◌≢◌, ◌∙◌, Bool, true, false, ◌==◌, List, [], ◌∷◌, ◌++◌, map, filter, nat_lt, Ok, Err, refl, sym, ap, arith, add-zero, append-nil}
use Rattle.std.proofs.lemmas.Bool.Decides.{nat_tests}
use Rattle.std.specs.List.{range_with_len}
use Rattle.std.specs.Prelude.{if◌then◌else◌}
use Rattle.std.proofs.lemmas.List.{map-append}
use Rattle.std.proofs.lemmas.List.Elements.{filter-append}
use Rattle.mix_bits.specs.declared.size.Size.{Size}
use Rattle.mix_bits.specs.declared.fault.Fault.{Fault}
use Rattle.mix_bits.specs.Digits.{digit_of}
use Rattle.mix_bits.specs.Sizes.{bytes_of, sign_extended}
use Rattle.mix_bits.specs.Addresses.{onward}
use Rattle.m68_isa.specs.declared.registers.Regs68.{Regs68}
use Rattle.big_memory.specs.Memory.{Memory}
use Rattle.m68_ea.specs.Operands.{loaded_at}
use Rattle.m68_ea.specs.Places.{with_address, with_data}
use Rattle.m68_effects.specs.Multiple.{listed, loaded_along, with_register}

apart : (d : ℕ) → d ≢ 1 → (d == 1) ≡ false
apart d other = grind (arith, nat_tests, other)

-- whether a mask has a register
abbrev pub has : ℕ → ℕ → Bool
has mask k = digit_of mask k 1 == 1

pub all_listed : (mask : ℕ) → listed mask ≡ filter (has mask) (range_with_len 0 16)
unfolding listed
all_listed mask = refl

-- upwards: the bits so far
range-more : (a n : ℕ) → range_with_len a (suc n) ≡ range_with_len a n ++ ((a + n) ∷ [])
range-more a zero = ap (λ b. b ∷ []) (sym (add-zero a))
range-more a (suc n) =
    let next : a + 1 + n ≡ a + suc n = omega arith in
    ap (λ bs. a ∷ bs) (range-more (a + 1) n) ∙ ap (λ b. a ∷ (range_with_len (a + 1) n ++ (b ∷ []))) next

filter-more : (p : ℕ → Bool) (k : ℕ) → filter p (range_with_len 0 (k + 1)) ≡ filter p (range_with_len 0 k) ++ filter p (k ∷ [])
filter-more p k =
    let next : k + 1 ≡ suc k = omega arith in
    let zero-k : 0 + k ≡ k = omega arith in
    ap (λ n. filter p (range_with_len 0 n)) next ∙ ap (filter p) (range-more 0 k) ∙ filter-append p (range_with_len 0 k) ((0 + k) ∷ []) ∙ ap (λ j. filter p (range_with_len 0 k) ++ filter p (j ∷ [])) zero-k

pub more_has : (g : ℕ → ℕ) (mask k : ℕ) → has mask k ≡ true → map g (filter (has mask) (range_with_len 0 (k + 1))) ≡ map g (filter (has mask) (range_with_len 0 k)) ++ (g k ∷ [])
more_has g mask k is =
    let one : filter (has mask) (k ∷ []) ≡ k ∷ [] = rw is refl in
    ap (map g) (filter-more (has mask) k ∙ ap (λ xs. filter (has mask) (range_with_len 0 k) ++ xs) one) ∙ map-append g (filter (has mask) (range_with_len 0 k)) (k ∷ [])

pub more_lacks : (g : ℕ → ℕ) (mask k : ℕ) → has mask k ≡ false → map g (filter (has mask) (range_with_len 0 (k + 1))) ≡ map g (filter (has mask) (range_with_len 0 k))
more_lacks g mask k is =
    let none : filter (has mask) (k ∷ []) ≡ [] = rw is refl in
    ap (map g) (filter-more (has mask) k ∙ ap (λ xs. filter (has mask) (range_with_len 0 k) ++ xs) none ∙ append-nil (filter (has mask) (range_with_len 0 k)))

-- downwards: the bits that are left
left : (k : ℕ) → k < 16 → range_with_len k (16 - k) ≡ k ∷ range_with_len (k + 1) (16 - (k + 1))
left k below = let next : 16 - k ≡ suc (16 - (k + 1)) = omega arith in ap (range_with_len k) next

pub left_has : (mask k : ℕ) → k < 16 → has mask k ≡ true → filter (has mask) (range_with_len k (16 - k)) ≡ k ∷ filter (has mask) (range_with_len (k + 1) (16 - (k + 1)))
left_has mask k below is = ap (filter (has mask)) (left k below) ∙ rw is refl

pub left_lacks : (mask k : ℕ) → k < 16 → has mask k ≡ false → filter (has mask) (range_with_len k (16 - k)) ≡ filter (has mask) (range_with_len (k + 1) (16 - (k + 1)))
left_lacks mask k below is = ap (filter (has mask)) (left k below) ∙ rw is refl

-- loads
pub one_loaded : (pc : ℕ) (r : Regs68) (m : Memory) (a : ℕ) (s : Size) (k v : ℕ) (ks : List ℕ) → loaded_at pc m a s ≡ Ok v
    → loaded_along pc r m a s (k ∷ ks) ≡ loaded_along pc (with_register r k (sign_extended v s)) m (onward a (bytes_of s)) s ks
unfolding loaded_along
one_loaded pc r m a s k v ks is = rw is refl

pub one_refused : (pc : ℕ) (r : Regs68) (m : Memory) (a : ℕ) (s : Size) (k : ℕ) (ks : List ℕ) (e : Fault) → loaded_at pc m a s ≡ Err e
    → loaded_along pc r m a s (k ∷ ks) ≡ Err e
unfolding loaded_along
one_refused pc r m a s k ks e is = rw is refl

pub none_loaded : (pc : ℕ) (r : Regs68) (m : Memory) (a : ℕ) (s : Size) → loaded_along pc r m a s [] ≡ Ok r
unfolding loaded_along
none_loaded pc r m a s = refl

same-by : (b : Bool) (x y r : Regs68) → x.pc ≡ r.pc → y.pc ≡ r.pc → (if b then x else y).pc ≡ r.pc
same-by true x y r left right = left
same-by false x y r left right = right

pub same_pc : (r : Regs68) (k v : ℕ) → (with_register r k v).pc ≡ r.pc
same_pc r k v = same-by (nat_lt k 8) (with_data r k v) (with_address r (k - 8) v) r refl refl

pub has_bit : (mask k d : ℕ) → d ≡ digit_of mask k 1 → d ≡ 1 → has mask k ≡ true
has_bit mask k d is one = rw (sym is ∙ one) refl

pub lacks_bit : (mask k d : ℕ) → d ≡ digit_of mask k 1 → d ≢ 1 → has mask k ≡ false
lacks_bit mask k d is other = rw (← is) (apart d other)
