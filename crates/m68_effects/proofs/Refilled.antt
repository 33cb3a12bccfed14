-- Registers that are loaded one after the other.
use Rattle.std.proofs.Common.{◌≡◌, ◌≢◌, ℕ, suc, ◌+◌, ◌-◌, ◌*◌, ◌^◌, ◌<◌, ◌≤◌, ◌∙◌, Bool, true, false, List, [], ◌∷◌, length, get_or, map, filter, Ok, refl, sym, ap, subst, arith, ⊎_elim, get_or-set_same, get_or-set_other}
use Rattle.std.specs.Prelude.{◌==◌, ◌&&◌, ◌||◌, nat_lt, if◌then◌else◌}
use Rattle.std.specs.List.{list_any}
use Rattle.std.proofs.Math.ListN.{set}
use Rattle.std.proofs.lemmas.List.{length-set}
use Rattle.std.proofs.lemmas.Bool.{cases_eq, cases_lt}
use Rattle.std.proofs.lemmas.Bool.Decides.{nat_tests}
use Rattle.mix_bits.specs.declared.size.Size.{Size}
use Rattle.mix_bits.specs.Addresses.{onward}
use Rattle.mix_bits.specs.Sizes.{bytes_of, sign_extended, truncated}
use Rattle.mix_bits.proofs.Every.{every_at}
use Rattle.m68_isa.specs.declared.registers.Regs68.{Regs68}
use Rattle.big_memory.specs.Memory.{Memory, loaded}
use Rattle.m68_ea.specs.Places.{with_address, with_data}
use Rattle.m68_effects.specs.Multiple.{loaded_along, register_of, with_register}
use Rattle.m68_effects.specs.inner.Rows.{sixteen}
use Rattle.m68_effects.proofs.Stood.{Stand}

-- eight and eight
pub record HasEight (r : Regs68) : Type 0 where
  pub d : length r.d ≡ 8
  pub a : length r.a ≡ 8

pub same-test : (a b : ℕ) → a ≡ b → (a == b) ≡ true
same-test a b same = grind (arith, nat_tests, same)

pub other-test : (a b : ℕ) → a ≢ b → (a == b) ≡ false
other-test a b other = grind (arith, nat_tests, other)

low-test : (a b : ℕ) → a < b → nat_lt a b ≡ true
low-test a b low = grind (arith, nat_tests, low)

high-test : (a b : ℕ) → b ≤ a → nat_lt a b ≡ false
high-test a b high = grind (arith, nat_tests, high)

-- an element of a list in which one was replaced
element : (xs : List ℕ) (i v j : ℕ) → i < length xs → get_or (set xs i v) j 0 ≡ (if i == j then v else get_or xs j 0)
element xs i v j there =
    ⊎_elim (λ same. subst (λ k. get_or (set xs i v) k 0 ≡ (if i == k then v else get_or xs k 0)) same (rw (same-test i i refl) (get_or-set_same xs i v 0 there)))
    (λ other. rw (other-test i j other) (get_or-set_other xs i j v 0 (λ is. other (sym is)))) (cases_eq i j)

-- the same of the sixteen registers
low-of : (r : Regs68) (j : ℕ) → j < 8 → register_of r j ≡ get_or r.d j 0
low-of r j low = rw (low-test j 8 low) refl

pub high-of : (r : Regs68) (j : ℕ) → 8 ≤ j → register_of r j ≡ get_or r.a (j - 8) 0
high-of r j high = rw (high-test j 8 high) refl

data-written : (r : Regs68) (k v j : ℕ) → HasEight r → k < 8 → register_of (with_data r k v) j ≡ (if k == j then v else register_of r j)
data-written r k v j eight low =
    ⊎_elim (λ below. low-of (with_data r k v) j below ∙ element r.d k v j (rw (eight.d) low) ∙ ap (λ x. if k == j then v else x) (sym (low-of r j below)))
    (λ above. rw (other-test k j (omega arith)) (high-of (with_data r k v) j above ∙ sym (high-of r j above))) (cases_lt j 8)

address-test : (n j : ℕ) → 8 ≤ j → (n == (j - 8)) ≡ ((8 + n) == j)
address-test n j high = ⊎_elim (λ same. same-test n (j - 8) (omega arith) ∙ sym (same-test (8 + n) j same)) (λ other. other-test n (j - 8) (omega arith) ∙ sym (other-test (8 + n) j other)) (cases_eq (8 + n) j)

pub address_written : (r : Regs68) (n v j : ℕ) → HasEight r → n < 8 → register_of (with_address r n v) j ≡ (if (8 + n) == j then v else register_of r j)
address_written r n v j eight low =
    ⊎_elim (λ below. rw (other-test (8 + n) j (omega arith)) (low-of (with_address r n v) j below ∙ sym (low-of r j below)))
    (λ above. high-of (with_address r n v) j above ∙ element r.a n v (j - 8) (rw (eight.a) low) ∙ ap (λ b. if b then v else get_or r.a (j - 8) 0) (address-test n j above)
    ∙ ap (λ x. if (8 + n) == j then v else x) (sym (high-of r j above))) (cases_lt j 8)

written : (r : Regs68) (k v j : ℕ) → HasEight r → k < 16 → register_of (with_register r k v) j ≡ (if k == j then v else register_of r j)
written r k v j eight few =
    ⊎_elim (λ below. ap (λ b. register_of (if b then with_data r k v else with_address r (k - 8) v) j) (low-test k 8 below) ∙ data-written r k v j eight below)
    (λ above. let back : 8 + (k - 8) ≡ k = omega arith in
    ap (λ b. register_of (if b then with_data r k v else with_address r (k - 8) v) j) (high-test k 8 above) ∙ address_written r (k - 8) v j eight (omega arith)
    ∙ ap (λ i. if i == j then v else register_of r j) back) (cases_lt k 8)

-- a write keeps how many there are, and the condition codes
eight-by : (b : Bool) (x y : Regs68) → HasEight x → HasEight y → HasEight (if b then x else y)
eight-by true x y left right = left
eight-by false x y left right = right

pub eight_data : (r : Regs68) (k v : ℕ) → HasEight r → HasEight (with_data r k v)
eight_data r k v eight = record { d = length-set r.d k v ∙ eight.d; a = eight.a }

pub eight_address : (r : Regs68) (k v : ℕ) → HasEight r → HasEight (with_address r k v)
eight_address r k v eight = record { d = eight.d; a = length-set r.a k v ∙ eight.a }

codes-by : (b : Bool) (x y r : Regs68) → x.ccr ≡ r.ccr → y.ccr ≡ r.ccr → (if b then x else y).ccr ≡ r.ccr
codes-by true x y r left right = left
codes-by false x y r left right = right

-- registers that take the values f of their numbers, as a load leaves them
abbrev pub as_loaded : Size → (ℕ → ℕ) → ℕ → ℕ
as_loaded s f k = sign_extended (truncated (f k) s) s

abbrev pub refilled : Size → (ℕ → ℕ) → Regs68 → List ℕ → Regs68
refilled s f r [] = r
refilled s f r (k ∷ ks) = refilled s f (with_register r k (as_loaded s f k)) ks

abbrev pub AreRegisters : List ℕ → Type 0
AreRegisters [] = Unit {0}
AreRegisters (k ∷ ks) = (k < 16) × AreRegisters ks

pub eight_refilled : (ks : List ℕ) (s : Size) (f : ℕ → ℕ) (r : Regs68) → HasEight r → HasEight (refilled s f r ks)
eight_refilled [] s f r eight = eight
eight_refilled (k ∷ ks) s f r eight =
    let v : ℕ = as_loaded s f k in
    eight_refilled ks s f (with_register r k v) (eight-by (nat_lt k 8) (with_data r k v) (with_address r (k - 8) v) (eight_data r k v eight) (eight_address r (k - 8) v eight))

pub same_codes : (ks : List ℕ) (s : Size) (f : ℕ → ℕ) (r : Regs68) → (refilled s f r ks).ccr ≡ r.ccr
same_codes [] s f r = refl
same_codes (k ∷ ks) s f r =
    let v : ℕ = as_loaded s f k in
    same_codes ks s f (with_register r k v) ∙ codes-by (nat_lt k 8) (with_data r k v) (with_address r (k - 8) v) r refl refl

later : (any first : Bool) (v w x : ℕ) → (first ≡ true → v ≡ w) → (if any then w else (if first then v else x)) ≡ (if first || any then w else x)
later true true v w x same = refl
later true false v w x same = refl
later false true v w x same = same refl
later false false v w x same = refl

pub equal-from : (a b : ℕ) → (a == b) ≡ true → a ≡ b
equal-from a b is = grind (arith, nat_tests, is)

pub refilled_holds : (ks : List ℕ) (s : Size) (f : ℕ → ℕ) (r : Regs68) (j : ℕ) → HasEight r → AreRegisters ks
    → register_of (refilled s f r ks) j ≡ (if list_any (λ k. k == j) ks then as_loaded s f j else register_of r j)
refilled_holds [] s f r j eight are = refl
refilled_holds (k ∷ ks) s f r j eight are =
    let v : ℕ = as_loaded s f k in
    let next : HasEight (with_register r k v) = eight-by (nat_lt k 8) (with_data r k v) (with_address r (k - 8) v) (eight_data r k v eight) (eight_address r (k - 8) v eight) in
    refilled_holds ks s f (with_register r k v) j next are.1
    ∙ ap (λ x. if list_any (λ i. i == j) ks then as_loaded s f j else x) (written r k v j eight are.0)
    ∙ later (list_any (λ i. i == j) ks) (k == j) v (as_loaded s f j) (register_of r j) (λ is. ap (as_loaded s f) (equal-from k j is))

-- the loads
one-loaded : (pc : ℕ) (r : Regs68) (m : Memory) (a : ℕ) (s : Size) (k v : ℕ) (ks : List ℕ) → loaded m a s ≡ Ok v
    → loaded_along pc r m a s (k ∷ ks) ≡ loaded_along pc (with_register r k (sign_extended v s)) m (onward a (bytes_of s)) s ks
unfolding loaded_along
one-loaded pc r m a s k v ks is = rw is refl

none-loaded : (pc : ℕ) (r : Regs68) (m : Memory) (a : ℕ) (s : Size) → loaded_along pc r m a s [] ≡ Ok r
unfolding loaded_along
none-loaded pc r m a s = refl

onward-within : (a n : ℕ) → a + n < 2 ^ 32 → onward a n ≡ a + n
onward-within a n fits = omega arith

pub all_loaded : (ks : List ℕ) (pc : ℕ) (r : Regs68) (m : Memory) (a : ℕ) (s : Size) (f : ℕ → ℕ) → a + bytes_of s * length ks < 2 ^ 32
    → Stand m s a (map f ks) → loaded_along pc r m a s ks ≡ Ok (refilled s f r ks)
all_loaded [] pc r m a s f fits stand = none-loaded pc r m a s
all_loaded (k ∷ ks) pc r m a s f fits stand =
    let more : bytes_of s * suc (length ks) ≡ bytes_of s + bytes_of s * length ks = grind arith in
    let next : onward a (bytes_of s) ≡ a + bytes_of s = onward-within a (bytes_of s) (omega (arith, more, fits)) in
    let q : Regs68 = with_register r k (as_loaded s f k) in
    one-loaded pc r m a s k (truncated (f k) s) ks stand.0
    ∙ ap (λ b. loaded_along pc q m b s ks) next
    ∙ all_loaded ks pc q m (a + bytes_of s) s f (omega (arith, more, fits)) stand.1

-- the registers that a test picks
pub registers_picked : (test : ℕ → Bool) (ks : List ℕ) → AreRegisters ks → AreRegisters (filter test ks)
registers_picked test [] are = tt
registers_picked test (k ∷ ks) are =
    elim (test k) as (λ b. AreRegisters (if b then k ∷ filter test ks else filter test ks)) [ true ↦ (are.0, registers_picked test ks are.1) | false ↦ registers_picked test ks are.1 ]

kept-by : (passes same rest : Bool) (picked : Bool) → (same ≡ true → picked ≡ passes) → (if passes then same || (rest && picked) else rest && picked) ≡ ((same || rest) && picked)
kept-by true true rest picked is = rw (is refl) refl
kept-by false true true picked is = rw (is refl) refl
kept-by false true false picked is = rw (is refl) refl
kept-by true false true picked is = refl
kept-by true false false picked is = refl
kept-by false false true picked is = refl
kept-by false false false picked is = refl

any-by : (b : Bool) (p : ℕ → Bool) (k : ℕ) (ks : List ℕ) → list_any p (if b then k ∷ ks else ks) ≡ (if b then p k || list_any p ks else list_any p ks)
any-by true p k ks = refl
any-by false p k ks = refl

any-picked : (test : ℕ → Bool) (ks : List ℕ) (j : ℕ) → list_any (λ k. k == j) (filter test ks) ≡ (list_any (λ k. k == j) ks && test j)
any-picked test [] j = refl
any-picked test (k ∷ ks) j =
    any-by (test k) (λ i. i == j) k (filter test ks)
    ∙ ap (λ b. if test k then (k == j) || b else b) (any-picked test ks j)
    ∙ kept-by (test k) (k == j) (list_any (λ i. i == j) ks) (test j) (λ is. ap test (sym (equal-from k j is)))

pub picked : (test : ℕ → Bool) (j : ℕ) → j < 16 → list_any (λ k. k == j) (filter test sixteen) ≡ test j
picked test j few =
    let all : list_any (λ k. k == j) sixteen ≡ true = every_at 4 (λ i. list_any (λ k. k == i) sixteen) j refl few in
    any-picked test sixteen j ∙ ap (λ b. b && test j) all
