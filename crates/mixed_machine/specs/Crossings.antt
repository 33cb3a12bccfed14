-- The steps of a run that make a switch frame, and those that give one up.
use Rattle.std.specs.Prelude.{◌≡◌, ℕ, zero, suc, ◌+◌, ◌-◌, ◌≤◌, nat_lt, Bool, length}
use Rattle.std.specs.Int.{from_bool}
use Rattle.mixed_machine.specs.State.{State}
use Rattle.mixed_machine.specs.Next.{Next}
use Rattle.mixed_machine.specs.Next.Next.{Goes}
use Rattle.mixed_machine.specs.Step.{step}
use Rattle.mixed_machine.specs.Exec.{How, exec}
use Rattle.mixed_machine.specs.Exec.End.{Ended}

-- an exit and a fault change no caller
abbrev pub count_with : Next → (State → Bool) → (State → ℕ) → ℕ
count_with (Goes t effects) test rest = from_bool (test t) + rest t
count_with _ test rest = 0

-- how many of the first steps pass a test of the states before and after
unfoldable pub count_of : (State → State → Bool) → ℕ → State → ℕ
count_of test zero s = 0
count_of test (suc n) s = count_with (step s) (test s) (count_of test n)

-- the numbers of steps that made a frame and that gave one up, among the first steps from a state: more callers are
-- suspended after such a step than before it, or fewer
pub record Crossed (done : ℕ) (s : State) (made given_up : ℕ) : Type 0 where
  pub calls : made ≡ count_of (λ t u. nat_lt (length t.callers) (length u.callers)) done s
  pub returns : given_up ≡ count_of (λ t u. nat_lt (length u.callers) (length t.callers)) done s

-- one that ended
pub record Counted (n left : ℕ) (s t : State) (how : How) (calls returns : ℕ) : Type 0 where
  pub fewer : left ≤ n
  pub ends : exec n s ≡ Ended how t left
  pub crossed : Crossed (n - left) s calls returns
