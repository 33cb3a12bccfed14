-- Readings that may be refused, and how the answer of a call shows one.
use Rattle.std.specs.Prelude.{ℕ, zero, suc, Result, Ok}
use Rattle.mix_bits.specs.Results.{◌>>=◌}
use Rattle.rsrc_fork.specs.declared.error.RsrcError.{RsrcError}

-- the steps below a number in turn, each from what the one before made, up to the first refusal
abbrev pub each_below : {A : Type 0} → (A → ℕ → Result A RsrcError) → A → ℕ → Result A RsrcError
each_below step start zero = Ok start
each_below step start (suc k) = each_below step start k >>= λ made. step made k
