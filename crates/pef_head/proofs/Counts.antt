-- A count of one is exactly one number.
use Rattle.std.proofs.Common.{◌≡◌, ◌∙◌, refl, sym, ap, ℕ, zero, suc, ◌+◌, ◌<◌, Bool, true, false, ◌||◌, nat_lt, true≢false, arith}
use Rattle.std.specs.Int.{from_bool}
use Rattle.std.proofs.lemmas.Bool.Decides.{nat_tests}
use Rattle.mix_bits.specs.Search.{any_below, count_below}
use Rattle.pef_head.specs.Whole.{OnlyBelow}

-- a number below the next bound is below this one, or this one
next_below : (P : Type 0) (k n : ℕ) → k < suc n → (k < n → P) → (k ≡ n → P) → P
next_below P k n lt lower last = by (nat_lt k n) refl
  where
    by : (b : Bool) → nat_lt k n ≡ b → P
    by true q = lower (grind (arith, nat_tests))
    by false q = last (grind (arith, nat_tests))

none_passes : (test : ℕ → Bool) (n m : ℕ) → count_below test n ≡ 0 → m < n → test m ≡ false
none_passes test zero m none lt = absurd (omega arith)
none_passes test (suc n) m none lt = by (test n) refl none (λ h below. none_passes test n m h below)
  where
    by : (t : Bool) → test n ≡ t → count_below test n + from_bool t ≡ 0 → (count_below test n ≡ 0 → m < n → test m ≡ false) → test m ≡ false
    by true q h earlier = absurd (omega arith)
    by false q h earlier =
        let before : count_below test n ≡ 0 = omega arith in
        next_below (test m ≡ false) m n lt (earlier before) (λ same. ap test same ∙ q)

none_counted_if : (test : ℕ → Bool) (n : ℕ) → ((m : ℕ) → m < n → test m ≡ false) → count_below test n ≡ 0
none_counted_if test zero fails = refl
none_counted_if test (suc n) fails =
    let last : test n ≡ false = fails n (omega arith) in
    let before : count_below test n ≡ 0 = none_counted_if test n (λ m lt. fails m (omega arith)) in
    rw (before, last) refl

pub only_counted : (test : ℕ → Bool) (n : ℕ) → count_below test n ≡ 1 → OnlyBelow test n
only_counted test zero one = absurd (omega arith)
only_counted test (suc n) one = by (test n) refl one (λ h. only_counted test n h)
  where
    by : (t : Bool) → test n ≡ t → count_below test n + from_bool t ≡ 1 → (count_below test n ≡ 1 → OnlyBelow test n) → OnlyBelow test (suc n)
    by true q h earlier =
        let before : count_below test n ≡ 0 = omega arith in (
          n,
          omega arith,
          q,
          λ m lt passes. next_below (m ≡ n) m n lt
              (λ below. absurd (true≢false (sym passes ∙ none_passes test n m before below))) (λ same. same),
        )
    by false q h earlier =
        let before : count_below test n ≡ 1 = omega arith in
        let only = earlier before in (
          only.0,
          omega (arith, only.1),
          only.2,
          λ m lt passes. next_below (m ≡ only.0) m n lt
              (λ below. only.3 m below passes) (λ same. absurd (true≢false (sym passes ∙ (ap test same ∙ q)))),
        )

pub one_counted : (test : ℕ → Bool) (n : ℕ) → OnlyBelow test n → count_below test n ≡ 1
one_counted test zero only = absurd (omega (arith, only.1))
one_counted test (suc n) only = by (test n) refl (λ h. one_counted test n h)
  where
    by : (t : Bool) → test n ≡ t → (OnlyBelow test n → count_below test n ≡ 1) → count_below test (suc n) ≡ 1
    by true q earlier = rw (none_counted_if test n none, q) refl
      where
        last : n ≡ only.0
        last = only.3 n (omega arith) q

        fails : (m : ℕ) → m < n → (t : Bool) → test m ≡ t → test m ≡ false
        fails m lt false p = p
        fails m lt true p =
            let same : m ≡ only.0 = only.3 m (omega arith) p in
            let last' : n ≡ only.0 = last in
            absurd (omega (arith, same, last'))

        none : (m : ℕ) → m < n → test m ≡ false
        none m lt = fails m lt (test m) refl
    by false q earlier =
        let below : only.0 < n = next_below (only.0 < n) only.0 n only.1 (λ h. h)
        (λ same. absurd (true≢false (sym only.2 ∙ (ap test same ∙ q)))) in
        let before : count_below test n ≡ 1 = earlier (only.0, below, only.2, λ m lt passes. only.3 m (omega arith) passes) in
        rw (before, q) refl

pub none_below : (test : ℕ → Bool) (n m : ℕ) → any_below test n ≡ false → m < n → test m ≡ false
none_below test zero m none lt = absurd (omega arith)
none_below test (suc n) m none lt = by (any_below test n) refl (test n) refl none (λ h below. none_below test n m h below)
  where
    by : (b : Bool) → any_below test n ≡ b → (t : Bool) → test n ≡ t → (b || t) ≡ false
        → (any_below test n ≡ false → m < n → test m ≡ false) → test m ≡ false
    by true p t q h earlier = absurd (true≢false h)
    by false p true q h earlier = absurd (true≢false h)
    by false p false q h earlier = next_below (test m ≡ false) m n lt (earlier p) (λ same. ap test same ∙ q)

pub any_none : (test : ℕ → Bool) (n : ℕ) → ((m : ℕ) → m < n → test m ≡ false) → any_below test n ≡ false
any_none test zero fails = refl
any_none test (suc n) fails =
    let last : test n ≡ false = fails n (omega arith) in
    let before : any_below test n ≡ false = any_none test n (λ m lt. fails m (omega arith)) in
    rw (before, last) refl
