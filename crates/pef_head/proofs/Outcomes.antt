-- Tests and refusals taken apart, and put together.
use Rattle.std.proofs.Common.{◌≡◌, ◌≢◌, sym, refl, ℕ, ◌<◌, ◌≤◌, Bool, true, false, ◌&&◌, ◌||◌, ◌==◌, not, nat_lt, nat_le, Option, Some, None, true≢false, eq-eqb, eqb-true, arith}
use Rattle.std.specs.Option.{option_map}
use Rattle.std.proofs.lemmas.Bool.Decides.{nat_tests}
use Rattle.mix_bits.specs.SearchOperator.{◌or◌}
use Rattle.mix_bits.specs.Search.{refused}

pub or_none : {A : Type 0} (p q : Option A) → (p or q) ≡ None → (p ≡ None) × (q ≡ None)
or_none None q h = (refl, h)
or_none (Some x) q h = absurd (cc)

pub map_none : {A B : Type 0} (f : A → B) (o : Option A) → option_map f o ≡ None → o ≡ None
map_none f None h = refl
map_none f (Some x) h = absurd (cc)

pub or_false : (a b : Bool) → (a || b) ≡ false → (a ≡ false) × (b ≡ false)
or_false true b h = absurd (cc)
or_false false b h = (refl, h)

pub not_false : (a : Bool) → not a ≡ false → a ≡ true
not_false true h = refl
not_false false h = absurd (cc)

pub not_below : (n m : ℕ) → nat_lt n m ≡ false → m ≤ n
not_below n m h = grind (arith, nat_tests)

pub not_other : (n m : ℕ) → not (n == m) ≡ false → n ≡ m
not_other n m h = grind (arith, nat_tests)

pub inner_false : (a b c d : Bool) → (a || b || c || d) ≡ false → (b ≡ false) × (c ≡ false)
inner_false true b c d h = absurd (cc)
inner_false false true c d h = absurd (cc)
inner_false false false true d h = absurd (cc)
inner_false false false false d h = (refl, refl)

pub last_false : (a b c : Bool) → (a || b || c) ≡ false → c ≡ false
last_false true b c h = absurd (cc)
last_false false true c h = absurd (cc)
last_false false false true h = absurd (cc)
last_false false false false h = refl

-- the converses
pub or_both : {A : Type 0} (p q : Option A) → p ≡ None → q ≡ None → (p or q) ≡ None
or_both None q h k = k
or_both (Some x) q h k = absurd (cc)

pub none_map : {A B : Type 0} (f : A → B) (o : Option A) → o ≡ None → option_map f o ≡ None
none_map f None h = refl
none_map f (Some x) h = absurd (cc)

pub allowed : {A : Type 0} (b : Bool) (x : A) → refused b x ≡ None → b ≡ false
allowed true x h = absurd (cc)
allowed false x h = refl

pub unrefused : {A : Type 0} (b : Bool) (x : A) → b ≡ false → refused b x ≡ None
unrefused true x h = absurd (true≢false h)
unrefused false x h = refl

pub both_false : (a b : Bool) → a ≡ false → b ≡ false → (a || b) ≡ false
both_false true b h k = absurd (true≢false h)
both_false false b h k = k

pub not_true : (a : Bool) → a ≡ true → not a ≡ false
not_true true h = refl
not_true false h = absurd (true≢false (sym h))

pub is_below : (n m : ℕ) → m ≤ n → nat_lt n m ≡ false
is_below n m h = grind (arith, nat_tests)

pub is_over : (n m : ℕ) → m < n → nat_le n m ≡ false
is_over n m h = grind (arith, nat_tests)

pub not_over : (n m : ℕ) → nat_le n m ≡ false → m < n
not_over n m h = grind (arith, nat_tests)

pub is_same : (n m : ℕ) → n ≡ m → not (n == m) ≡ false
is_same n m h = grind (arith, nat_tests)

pub other : (n m : ℕ) → n ≢ m → (n == m) ≡ false
other n m h = grind (arith, nat_tests)

pub not_same : (n m : ℕ) → (n == m) ≡ false → n ≢ m
not_same n m h = grind (arith, nat_tests)

pub both_same : (a b x y : ℕ) → not (a == x && b == y) ≡ false → (a ≡ x) × (b ≡ y)
both_same a b x y h = by (a == x) refl (b == y) refl h
  where
    by : (p : Bool) → (a == x) ≡ p → (q : Bool) → (b == y) ≡ q → not (p && q) ≡ false → (a ≡ x) × (b ≡ y)
    by true s true t k = (eqb-true _ _ s, eqb-true _ _ t)
    by true s false t k = absurd (true≢false k)
    by false s q t k = absurd (true≢false k)

pub same_both : (a b x y : ℕ) → a ≡ x → b ≡ y → not (a == x && b == y) ≡ false
same_both a b x y h k = rw (eq-eqb a x h, eq-eqb b y k) refl

pub parts_false : (a b c d : Bool) → (a || b || c || d) ≡ false → (a ≡ false) × (d ≡ false)
parts_false true b c d h = absurd (cc)
parts_false false true c d h = absurd (cc)
parts_false false false true d h = absurd (cc)
parts_false false false false d h = (refl, h)

pub all_false : (a b c d : Bool) → a ≡ false → b ≡ false → c ≡ false → d ≡ false → (a || b || c || d) ≡ false
all_false a b c d h i j k = rw (h, i, j, k) refl

pub three_false : (a b c : Bool) → (a || b || c) ≡ false → (a ≡ false) × (b ≡ false)
three_false true b c h = absurd (cc)
three_false false true c h = absurd (cc)
three_false false false c h = (refl, refl)

pub made_false : (a b c : Bool) → a ≡ false → b ≡ false → c ≡ false → (a || b || c) ≡ false
made_false a b c h i j = rw (h, i, j) refl

-- where a is false, the numbers are the same
pub same_unless : (a : Bool) (n m : ℕ) → (not a && not (n == m)) ≡ false → a ≡ false → n ≡ m
same_unless true n m h k = absurd (true≢false k)
same_unless false n m h k = not_other n m h

pub unless_same : (a : Bool) (n m : ℕ) → (a ≡ false → n ≡ m) → (not a && not (n == m)) ≡ false
unless_same true n m h = refl
unless_same false n m h = is_same n m (h refl)
