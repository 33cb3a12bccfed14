-- The counts of faults of input, output and trace, and whose count rose: that of what failed, and no other.
use Rattle.std.specs.Prelude.{◌≡◌, ℕ, Option, None, Some}
use Rattle.mix_io.specs.Counts.{Rose}
use Rattle.toolbox.specs.declared.broken.Broken.{Broken}
use Rattle.toolbox.specs.declared.broken.Broken.TheVariants.{Input, Output, Trace}

pub record Counts : Type 0 where
  pub input : ℕ
  pub out : ℕ
  pub trace : ℕ

abbrev pub counts : ℕ → ℕ → ℕ → Counts
counts input out trace = record { input = input; out = out; trace = trace }

abbrev pub Stays : ℕ → ℕ → Type 0
Stays old new = new ≡ old

-- each count moved as is said of it
pub record Moved (OfInput OfOutput OfTrace : ℕ → ℕ → Type 0) (old new : Counts) : Type 0 where
  pub input : OfInput old.input new.input
  pub out : OfOutput old.out new.out
  pub trace : OfTrace old.trace new.trace

abbrev pub BlamesOnly : Option Broken → Counts → Counts → Type 0
BlamesOnly None old new = Moved Stays Stays Stays old new
BlamesOnly (Some Input) old new = Moved Rose Stays Stays old new
BlamesOnly (Some Output) old new = Moved Stays Rose Stays old new
BlamesOnly (Some Trace) old new = Moved Stays Stays Rose old new

-- no count rose
abbrev pub Calm : Counts → Counts → Type 0
Calm old new = BlamesOnly None old new
