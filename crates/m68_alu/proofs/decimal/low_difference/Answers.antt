use Rattle.std.proofs.Common.{◌≡◌, ℕ, ◌+◌, ◌%◌, ◌<◌, ◌≤◌, ◌-ℤ◌, ℤ, Bool, true, false, pos, neg_ℤ, ◌≤ℤ◌, FitsSigned, sym, ap, subst, ◌∙◌, arith}
use Rattle.std.specs.Prelude.{int_lt, if◌then◌else◌}
use Rattle.std.specs.Int.{w32, from_bool, cast_signed as to_z, cast_unsigned as of_z}
use Rattle.std.proofs.lemmas.Int.{ints, to_z-of_z, to_z_pos}
use Rattle.m68_alu.proofs.decimal.low_difference.Goals as goal

-- what holds of each answer
record Within (z : ℤ) : Type 0 where
  low : neg_ℤ (pos 22) ≤ℤ z
  high : z ≤ℤ pos 15
  fits : FitsSigned w32 z

-- the difference of two digits, the second with a borrow, and 6 less
plain : (a b : ℕ) → a < 16 → b ≤ 16 → Within (pos a -ℤ pos b)
plain a b first second = record { low = omega (arith, ints); high = omega (arith, ints); fits = omega (arith, ints) }

less : (a b : ℕ) → a < 16 → b ≤ 16 → FitsSigned w32 ((pos a -ℤ pos b) -ℤ pos 6)
less a b first second = omega (arith, ints)

lessened : (a b : ℕ) → a < 16 → b ≤ 16 → Within ((pos a -ℤ pos b) -ℤ pos 6)
lessened a b first second = record { low = omega (arith, ints); high = omega (arith, ints); fits = less a b first second }

cast : (n : ℕ) (z : ℤ) → n ≤ 16 → z ≡ to_z w32 n → to_z w32 (of_z w32 z) ≡ pos n
cast n z small is = let plainly : z ≡ pos n = is ∙ to_z_pos w32 n (omega arith) in rw plainly (to_z_pos w32 n (omega arith))

-- the code's difference
record Found (d s : ℕ) (x : Bool) (y z : ℤ) : Type 0 where
  first : d % 16 < 16
  second : s % 16 + from_bool x ≤ 16
  is : to_z w32 (of_z w32 y) -ℤ to_z w32 (of_z w32 z) ≡ pos (d % 16) -ℤ pos (s % 16 + from_bool x)

most : (s : ℕ) (x : Bool) → s % 16 + from_bool x ≤ 16
most s true = omega arith
most s false = omega arith

both : (d s n : ℕ) (x : Bool) (y z : ℤ) → y ≡ to_z w32 (d % 16) → n ≡ from_bool x → z ≡ to_z w32 (s % 16 + n) → Found d s x y z
both d s n x y z first borrow second =
    let a = cast (d % 16) y (omega arith) first in
    let b = cast (s % 16 + from_bool x) z (most s x) (second ∙ ap (λ k. to_z w32 (s % 16 + k)) borrow) in
    record { first = omega arith; second = most s x; is = ap (λ k. k -ℤ to_z w32 (of_z w32 z)) a ∙ ap (λ k. pos (d % 16) -ℤ k) b }

held : (z u : ℤ) → z ≡ u → FitsSigned w32 u → to_z w32 (of_z w32 z) ≡ u
held z u same fits = ap (λ k. to_z w32 (of_z w32 k)) same ∙ to_z-of_z w32 u fits

pub overflow_sub-low : goal.overflow_sub-low
overflow_sub-low c =
    let found = both c.args.d c.args.s c.from.result c.args.x c.cast_signed.result c.cast_signed-2.result c.cast_signed.ensures c.from.ensures c.cast_signed-2.ensures in
    subst (FitsSigned w32) (sym found.is) (plain _ _ found.first found.second).fits

pub overflow_sub-result : goal.overflow_sub-result
overflow_sub-result c =
    let found = both c.args.d c.args.s c.from.result c.args.x c.cast_signed.result c.cast_signed-2.result c.cast_signed.ensures c.from.ensures c.cast_signed-2.ensures in
    let low = held _ _ found.is (plain _ _ found.first found.second).fits in
    subst (FitsSigned w32) (sym (ap (λ k. k -ℤ pos 6) low)) (less _ _ found.first found.second)

pub returns-then-low-lt0 : goal.returns-then-low-lt0
returns-then-low-lt0 c =
    let found = both c.args.d c.args.s c.from.result c.args.x c.cast_signed.result c.cast_signed-2.result c.cast_signed.ensures c.from.ensures c.cast_signed-2.ensures in
    let l = pos (c.args.d % 16) -ℤ pos (c.args.s % 16 + from_bool c.args.x) in
    let low = held _ _ found.is (plain _ _ found.first found.second).fits in
    let below : int_lt l (pos 0) ≡ true = sym (ap (λ k. int_lt k (pos 0)) low) ∙ c.if-low-lt0.true in
    let all = lessened (c.args.d % 16) (c.args.s % 16 + from_bool c.args.x) found.first found.second in
    let same = held _ _ (ap (λ k. k -ℤ pos 6) low) all.fits in
    record {
      value = same ∙ sym (ap (λ b. if b then (l -ℤ pos 6) else l) below);
      low = subst (λ z. neg_ℤ (pos 22) ≤ℤ z) (sym same) all.low;
      high = subst (λ z. z ≤ℤ pos 15) (sym same) all.high;
      fits = subst (FitsSigned w32) (sym same) all.fits;
    }

pub returns-else-low-lt0 : goal.returns-else-low-lt0
returns-else-low-lt0 c =
    let found = both c.args.d c.args.s c.from.result c.args.x c.cast_signed.result c.cast_signed-2.result c.cast_signed.ensures c.from.ensures c.cast_signed-2.ensures in
    let l = pos (c.args.d % 16) -ℤ pos (c.args.s % 16 + from_bool c.args.x) in
    let all = plain (c.args.d % 16) (c.args.s % 16 + from_bool c.args.x) found.first found.second in
    let same = held _ _ found.is all.fits in
    let above : int_lt l (pos 0) ≡ false = sym (ap (λ k. int_lt k (pos 0)) same) ∙ c.if-low-lt0.false in
    record {
      value = same ∙ sym (ap (λ b. if b then (l -ℤ pos 6) else l) above);
      low = subst (λ z. neg_ℤ (pos 22) ≤ℤ z) (sym same) all.low;
      high = subst (λ z. z ≤ℤ pos 15) (sym same) all.high;
      fits = subst (FitsSigned w32) (sym same) all.fits;
    }
