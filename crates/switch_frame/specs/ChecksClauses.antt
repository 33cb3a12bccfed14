-- A whole chain but for its guard.
use Rattle.std.specs.Prelude.{◌≡◌, ℕ, zero, suc, ◌<◌, ◌≤◌, ◌==◌, true, false, List}
use Rattle.mix_bits.specs.declared.isa.Isa.{Isa}
use Rattle.mix_bits.specs.Isas.{is_isa}
use Rattle.big_memory.specs.Memory.{Memory}
use Rattle.big_memory.specs.Numbers.{long_at}
use Rattle.switch_frame.specs.Records.{Record}
use Rattle.switch_frame.specs.Chain.{Links, most_frames}
use Rattle.switch_frame.specs.Calls.{IsOutermost, active_set}
use Rattle.switch_frame.specs.Checks.{is_good, caller_at}

-- a whole chain but for the guard, with the set of the code that runs and of the main program
pub record IsWholeChain (m : Memory) (top : ℕ) (active main : Isa) (rs : List Record) : Type 0 where
  pub links : Links m top rs
  pub called : active ≡ active_set main rs
  pub outermost : IsOutermost main rs

-- where the k-th frame from `lo` outward begins, and the set of the code inside it, as the frames tell these
abbrev pub outward : Memory → ℕ → ℕ → ℕ
outward m zero lo = lo
outward m (suc k) lo = outward m k (long_at lo m.bytes)

abbrev pub inside : Memory → ℕ → Isa → ℕ → Isa
inside m zero callee lo = callee
inside m (suc k) callee lo = inside m k (caller_at m lo) (long_at lo m.bytes)

-- a frame that a chain can have there, and that tells of one outside it
pub record GoesOn (m : Memory) (main callee : Isa) (lo : ℕ) : Type 0 where
  pub good : is_good m main callee lo ≡ true
  pub outer : (long_at lo m.bytes == 0) ≡ false

-- the first frame from the innermost outward that a chain of at most `most` frames cannot have there: all before it go
-- on, and it is not good, or one too many
pub record IsFirstBad (m : Memory) (main : Isa) (most : ℕ) (callee : Isa) (top lo : ℕ) : Type 0 where
  pub place : ℕ
  pub within : place ≤ most
  pub address : lo ≡ outward m place top
  pub before : (k : ℕ) → k < place → GoesOn m main (inside m k callee top) (outward m k top)
  pub bad : place < most → is_good m main (inside m place callee top) lo ≡ false

-- the same of a chain that begins at `top`; where there is no frame, the code that runs is not of the main program's set
pub record IsWrongAt (m : Memory) (top : ℕ) (active main : Isa) (lo : ℕ) : Type 0 where
  pub none : top ≡ 0 → (lo ≡ 0) × (is_isa active main ≡ false)
  pub some : (top == 0) ≡ false → IsFirstBad m main most_frames active top lo
