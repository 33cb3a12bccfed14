use Rattle.std.proofs.Common.{◌≡◌, ◌+ℤ◌, ℤ, Bool, true, false, pos, neg_ℤ, ◌≤ℤ◌, FitsSigned, sym, ap, subst, ◌∙◌, refl, arith}
use Rattle.std.specs.Int.{w64, from_bool, cast_signed as to_z, cast_unsigned as of_z}
use Rattle.std.proofs.lemmas.Int.{ints, to_z-of_z}
use Rattle.m68_alu.specs.Sums.{signed_total}
use Rattle.m68_alu.proofs.sums.total.Goals as goal

-- what the sum of signed longs is, with its carry
record Sum (d r : ℤ) (carry : Bool) : Type 0 where
  first : FitsSigned w64 (r +ℤ pos (from_bool carry))
  second : FitsSigned w64 (signed_total d r carry)
  low : neg_ℤ (pos 4294967296) ≤ℤ signed_total d r carry
  high : signed_total d r carry ≤ℤ pos 4294967296

sum : (d r : ℤ) (carry : Bool) → neg_ℤ (pos 2147483648) ≤ℤ d → d ≤ℤ pos 2147483647 → neg_ℤ (pos 2147483648) ≤ℤ r → r ≤ℤ pos 2147483647 → Sum d r carry
sum d r true low high least most = record { first = omega (arith, ints); second = omega (arith, ints); low = omega (arith, ints); high = omega (arith, ints) }
sum d r false low high least most = record { first = omega (arith, ints); second = omega (arith, ints); low = omega (arith, ints); high = omega (arith, ints) }

inner : (r k : ℤ) (carry : Bool) → FitsSigned w64 r → k ≡ pos (from_bool carry) → to_z w64 (of_z w64 r) +ℤ to_z w64 (of_z w64 k) ≡ r +ℤ pos (from_bool carry)
inner r k true f is = rw (is, to_z-of_z w64 r f) refl
inner r k false f is = rw (is, to_z-of_z w64 r f) refl

outer : (d t u : ℤ) → FitsSigned w64 d → FitsSigned w64 u → t ≡ u → to_z w64 (of_z w64 d) +ℤ to_z w64 (of_z w64 t) ≡ d +ℤ u
outer d t u f g is = rw (is, to_z-of_z w64 d f, to_z-of_z w64 u g) refl

pub overflow_add-result : goal.overflow_add-result
overflow_add-result c =
    let all = sum c.args.d c.args.r c.args.carry c.requires.d_low c.requires.d_high c.requires.r_low c.requires.r_high in
    subst (FitsSigned w64) (sym (inner c.args.r c.from.result c.args.carry c.ranges.r c.from.ensures)) all.first

pub overflow_add-result-2 : goal.overflow_add-result-2
overflow_add-result-2 c =
    let all = sum c.args.d c.args.r c.args.carry c.requires.d_low c.requires.d_high c.requires.r_low c.requires.r_high in
    let is = inner c.args.r c.from.result c.args.carry c.ranges.r c.from.ensures in
    subst (FitsSigned w64) (sym (outer c.args.d _ _ c.ranges.d all.first is)) all.second

pub returns : goal.returns
returns c =
    let all = sum c.args.d c.args.r c.args.carry c.requires.d_low c.requires.d_high c.requires.r_low c.requires.r_high in
    let total = signed_total c.args.d c.args.r c.args.carry in
    let is = outer c.args.d _ _ c.ranges.d all.first (inner c.args.r c.from.result c.args.carry c.ranges.r c.from.ensures) in
    let value = ap (λ z. to_z w64 (of_z w64 z)) is ∙ to_z-of_z w64 total all.second in
    record {
      value = value;
      low = subst (λ z. neg_ℤ (pos 4294967296) ≤ℤ z) (sym value) all.low;
      high = subst (λ z. z ≤ℤ pos 4294967296) (sym value) all.high;
      fits = subst (FitsSigned w64) (sym value) all.second;
    }
