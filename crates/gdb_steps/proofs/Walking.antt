-- A walk by its steps.
use Rattle.std.proofs.Common.{◌≡◌, ℕ, ◌+◌, ◌-◌, ◌<◌, min, None, Some, subst, arith}
use Rattle.mixed_machine.specs.Runs.{Sinks}
use Rattle.gdb_steps.specs.Places.{Begin, Run}
use Rattle.gdb_steps.specs.Points.{Points}
use Rattle.gdb_steps.specs.Walks.{Forward}
use Rattle.gdb_steps.specs.declared.halt.Halt.{Halt}
use Rattle.gdb_steps.specs.declared.halt.Halt.TheVariants.{Arrived, Beginning, Breakpoint, End, Spent, Strayed, Watched}
use Rattle.gdb_steps.specs.declared.halt.Until.{Until}
use Rattle.gdb_steps.specs.inner.Goings.{Going, OneMore}
use Rattle.gdb_steps.proofs.Goings.{going-ends, going-halts, going-more}

one-less : (left : ℕ) → 0 < left → left - 1 + 1 ≡ left
one-less left some = omega (arith, some)

-- the step that was done is the next of those that are left
pub walking-on : (b : Begin) (p : Points) (until : Until) (n left : ℕ) (r s t : Run) (x y z : Sinks) → 0 < left → Going b p until n left r s x y
    → ((m : ℕ) → Going b p until (m + 1) m s t y z) → Going b p until n (left - 1) r t x z
walking-on b p until n left r s t x y z some first then =
    going-more b p until n left (left - 1) r s t x y z first (subst (λ k. Going b p until k (left - 1) s t y z) (one-less left some) (then (left - 1)))

halts-on : (b : Begin) (p : Points) (until : Until) (n m : ℕ) (halt : Halt) (r s t : Run) (x y z : Sinks) → Going b p until n m r s x y → Forward b p until m halt s t y z → Forward b p until n halt r t x z
halts-on b p until n m Breakpoint r s t x y z first then = going-halts b p until n m Breakpoint r s t x y z first then
halts-on b p until n m (Watched a) r s t x y z first then = going-halts b p until n m (Watched a) r s t x y z first then
halts-on b p until n m Arrived r s t x y z first then = going-halts b p until n m Arrived r s t x y z first then
halts-on b p until n m Spent r s t x y z first then = going-halts b p until n m Spent r s t x y z first then
halts-on b p until n m Beginning r s t x y z first then = going-halts b p until n m Beginning r s t x y z first then
halts-on b p until n m (End stop) r s t x y z first then = going-halts b p until n m (End stop) r s t x y z first then
halts-on b p until n m Strayed r s t x y z first then = then

pub walking-halts : (b : Begin) (p : Points) (until : Until) (n left : ℕ) (halt : Halt) (r s t : Run) (x y z : Sinks) → 0 < left → Going b p until n left r s x y
    → ((m : ℕ) → Forward b p until (m + 1) halt s t y z) → Forward b p until n halt r t x z
walking-halts b p until n left halt r s t x y z some first then =
    halts-on b p until n left halt r s t x y z first (subst (λ k. Forward b p until k halt s t y z) (one-less left some) (then (left - 1)))

pub walking-ends : (b : Begin) (p : Points) (until : Until) (n left : ℕ) (r s : Run) (x y : Sinks) → left ≡ 0 → Going b p until n left r s x y → Forward b p until n Spent r s x y
walking-ends b p until n left r s x y none going = going-ends b p until n r s x y (subst (λ k. Going b p until n k r s x y) none going)

-- ---- a walk up to a count of steps

left-some : (s last : ℕ) → s < last → 0 < last - s
left-some s last few = omega (arith, few)

left-less : (s t last : ℕ) → s < last → t ≡ s + 1 → last - s - 1 ≡ last - t
left-less s t last few one = omega (arith, few, one)

pub walks-on : (b : Begin) (p q : Points) (until : Until) (n last : ℕ) (r s t : Run) (x y z : Sinks) → s.steps < last → q ≡ p → t.steps ≡ s.steps + 1 → Going b p until n (last - s.steps) r s x y
    → OneMore b q until s t y z None → Going b p until n (last - t.steps) r t x z
walks-on b p q until n last r s t x y z few same one first then =
    subst (λ left. Going b p until n left r t x z) (left-less s.steps t.steps last few one)
    (walking-on b p until n (last - s.steps) r s t x y z (left-some s.steps last few) first (subst (λ o. OneMore b o until s t y z None) same then))

pub walks-stop : (b : Begin) (p q : Points) (until : Until) (n last : ℕ) (halt : Halt) (r s t : Run) (x y z : Sinks) → s.steps < last → q ≡ p → Going b p until n (last - s.steps) r s x y
    → OneMore b q until s t y z (Some halt) → Forward b p until n halt r t x z
walks-stop b p q until n last halt r s t x y z few same first then =
    walking-halts b p until n (last - s.steps) halt r s t x y z (left-some s.steps last few) first (subst (λ o. OneMore b o until s t y z (Some halt)) same then)

-- as many steps as are allowed, none behind the last that is counted
pub as-many : (a n m last : ℕ) → last ≡ min (a + n) m → last - a ≡ min n (m - a)
as-many a n m last is = omega (arith, is)
