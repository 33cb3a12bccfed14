-- Steps that the same code does one after another, and the step behind them.
use Rattle.std.specs.Prelude.{◌≡◌, ℕ, zero, suc}
use Rattle.mix_bits.specs.declared.fault.Fault.{Fault}
use Rattle.mixed_machine.specs.declared.did.Did.{Did}
use Rattle.mixed_machine.specs.declared.did.Did.TheVariants.{Next}
use Rattle.mixed_machine.specs.laws.Acts.{Acts}
use Rattle.mixed_machine.specs.OutsideClauses.{At}
use Rattle.mixed_machine.specs.Step.{step}

-- so many steps of the definition, each done by the same code; the cell means nothing
abbrev pub GoesOn : ℕ → At → At → Type 0
GoesOn zero a b = b ≡ a
GoesOn (suc k) a b = (mid : At) × GoesOn k a mid × ((cell : Fault) → Acts step Next cell mid b)

-- and then one more, done or not
pub record Advances (k : ℕ) (did : Did) (cell : Fault) (a b : At) : Type 0 where
  pub last : At
  pub goes : GoesOn k a last
  pub acts : Acts step did cell last b
