-- The last zero byte before a place says which slices up to that place have one.
use Rattle.std.proofs.Common.{◌≡◌, refl, ◌∙◌, ℕ, zero, suc, ◌+◌, ◌-◌, ◌<◌, ◌≤◌, Bool, true, false, ◌||◌, nat_lt, List, length, get_or, slice_range, drop-cons, zero-add, add-zero, arith}
use Rattle.std.proofs.lemmas.Bool.Decides.{nat_tests}
use Rattle.std.specs.List.{list_any}
use Rattle.pef_head.specs.inner.Names.{is_zero}

abbrev has_zero : List ℕ → ℕ → ℕ → Bool
has_zero bytes from stop = list_any is_zero (slice_range bytes from stop)

has_zero-here : (bytes : List ℕ) (from stop : ℕ) → from < stop → stop ≤ length bytes
    → has_zero bytes from stop ≡ (is_zero (get_or bytes from 0) || has_zero bytes (suc from) stop)
has_zero-here bytes from stop lt fits =
    let inside : from < length bytes = omega arith in
    let more : stop - from ≡ suc (stop - suc from) = omega arith in
    rw (more, drop-cons bytes from 0 inside) refl

pub no_zero_before : (bytes : List ℕ) (from stop : ℕ) → from < stop → stop ≤ length bytes → (get_or bytes from 0 ≡ 0 → ⊥)
    → has_zero bytes (suc from) stop ≡ false → has_zero bytes from stop ≡ false
no_zero_before bytes from stop lt fits other rest = has_zero-here bytes from stop lt fits ∙ grind (arith, nat_tests)

no_zero_next : (bytes : List ℕ) (from stop : ℕ) → stop ≤ length bytes → has_zero bytes from stop ≡ false → has_zero bytes (suc from) stop ≡ false
no_zero_next bytes from stop fits none = by (nat_lt from stop) refl
  where
    by : (b : Bool) → nat_lt from stop ≡ b → has_zero bytes (suc from) stop ≡ false
    by true q =
        let here = has_zero-here bytes from stop (grind (arith, nat_tests)) fits in
        grind (arith, nat_tests)
    by false q =
        let past : stop - suc from ≡ 0 = grind (arith, nat_tests) in
        rw past refl

no_zero_after : (bytes : List ℕ) (d from stop : ℕ) → stop ≤ length bytes → has_zero bytes from stop ≡ false → has_zero bytes (d + from) stop ≡ false
no_zero_after bytes zero from stop fits none = rw zero-add none
no_zero_after bytes (suc d) from stop fits none =
    let shift : suc d + from ≡ suc (d + from) = omega arith in
    rw shift (no_zero_next bytes (d + from) stop fits (no_zero_after bytes d from stop fits none))

zero_at : (bytes : List ℕ) (d from stop : ℕ) → d + from < stop → stop ≤ length bytes → get_or bytes (d + from) 0 ≡ 0 → has_zero bytes from stop ≡ true
zero_at bytes zero from stop lt fits z =
    let first : get_or bytes from 0 ≡ 0 = rw zero-add at z in
    has_zero-here bytes from stop (omega arith) fits ∙ rw first refl
zero_at bytes (suc d) from stop lt fits z =
    let shift : suc d + from ≡ d + suc from = omega arith in
    has_zero-here bytes from stop (omega arith) fits
    ∙ rw (zero_at bytes d (suc from) stop (omega arith) fits (rw shift at z)) (grind (arith, nat_tests))

-- there is none behind the end, and one right before it, unless the end is 0
pub none_from : (bytes : List ℕ) (end stop : ℕ) → stop ≤ length bytes → has_zero bytes end stop ≡ false → end ≤ 0
    → (from : ℕ) → has_zero bytes from stop ≡ nat_lt from end
none_from bytes zero stop fits none le from =
    let here : has_zero bytes from stop ≡ false = rw add-zero at (no_zero_after bytes from 0 stop fits none) in
    here ∙ grind (arith, nat_tests)
none_from bytes (suc end) stop fits none le from = absurd (omega arith)

pub some_before : (bytes : List ℕ) (end stop : ℕ) → stop ≤ length bytes → end ≤ stop → has_zero bytes end stop ≡ false
    → 0 < end → get_or bytes (end - 1) 0 ≡ 0 → (from : ℕ) → has_zero bytes from stop ≡ nat_lt from end
some_before bytes end stop fits within none pos z from = by (nat_lt from end) refl
  where
    by : (b : Bool) → nat_lt from end ≡ b → has_zero bytes from stop ≡ b
    by true q =
        let lt : from < end = grind (arith, nat_tests) in
        let last : end - 1 ≡ (end - 1 - from) + from = omega arith in
        zero_at bytes (end - 1 - from) from stop (omega arith) fits (rw last at z)
    by false q =
        let le : end ≤ from = grind (arith, nat_tests) in
        let past : from ≡ (from - end) + end = omega arith in
        rw past (no_zero_after bytes (from - end) end stop fits none)
