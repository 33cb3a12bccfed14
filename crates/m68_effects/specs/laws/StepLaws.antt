-- What follows of steps that are tried, and of steps that read or write an operand.
use Rattle.std.specs.Prelude.{◌≡◌, ℕ, ◌*◌, Bool, true, false, List, Ok, Err}
use Rattle.mix_bits.specs.declared.size.Size.{Size}
use Rattle.mix_bits.specs.declared.fault.Fault.{Fault}
use Rattle.mix_bits.specs.Addresses.{onward}
use Rattle.mix_bits.specs.Results.{◌>>=◌}
use Rattle.m68_isa.specs.declared.registers.Regs68.{Regs68}
use Rattle.m68_isa.specs.declared.operand.Operand.{Operand}
use Rattle.m68_isa.specs.Operands.{operand_at}
use Rattle.big_memory.specs.Memory.{Memory}
use Rattle.big_memory.specs.declared.steps.Did.{Did}
use Rattle.big_memory.specs.declared.steps.Did.TheVariants.{Next}
use Rattle.big_memory.specs.Steps.{After}
use Rattle.big_memory.specs.StepsClauses.{Does}
use Rattle.big_memory.specs.Steps.After.{Goes, Stops}
use Rattle.m68_ea.specs.Operands.{put_into, sourced}
use Rattle.m68_ea.specs.Finds.{unless_illegal}
use Rattle.m68_effects.specs.laws.Operations.{runs_with}
use Rattle.m68_effects.specs.Parts.{Effect, after}
use Rattle.m68_effects.specs.laws.Tried.{Tries}

-- a step that was tried and left to others is what the others do, from where it was tried
abbrev pub OthersDo : Type 0
OthersDo =
    (step : Regs68 → Memory → After Regs68) (x : After Regs68) (tried : Bool) (did : Did) (cell : Fault) (r q t : Regs68) (m n k : Memory)
    → tried ≡ false → Tries x tried r q m n → Does (step q n) did cell q t n k → Does (step r m) did cell r t m k

-- a step of a row that reads an operand first, which is made at its place in the words: where the operand is refused the
-- step stops, else it is what the row does with the value; and it goes on where the registers behind it are known
pub record ReadsFirst : Type 0 where
  pub made : (ws : List ℕ) (size : Size) (at at_too mode mode_too lower lower_too : ℕ)
      → at ≡ at_too → mode ≡ mode_too → lower ≡ lower_too → operand_at ws at size mode lower ≡ operand_at ws at_too size mode_too lower_too
  pub refused : (r : Regs68) (m : Memory) (word : ℕ) (size : Size) (e made : Operand) (row : ℕ → Regs68 × ℕ → Effect) (cell : Fault)
      → e ≡ made → unless_illegal r.pc word e.good (sourced r m size e.ea) ≡ Err cell
      → runs_with r word made (λ n. sourced r m size made.ea >>= row n) ≡ Stops cell
  pub taken : (r q : Regs68) (m : Memory) (word : ℕ) (size : Size) (e made : Operand) (v next : ℕ) (row : ℕ → Regs68 × ℕ → Effect)
      → e ≡ made → e.good ≡ true → sourced r m size e.ea ≡ Ok (q, v) → next ≡ e.next
      → runs_with r word made (λ n. sourced r m size made.ea >>= row n) ≡ after (row (onward r.pc (2 * next)) (q, v))
  pub goes : (step : After Regs68) (r next last : Regs68) (did : Did) (cell : Fault) (m : Memory)
      → did ≡ Next → step ≡ Goes last m → next ≡ last → Does step did cell r next m m

-- a step of a row that writes an operand: where the operand is refused the step stops
abbrev pub StopsUnwritten : Type 0
StopsUnwritten =
    (r : Regs68) (m : Memory) (word : ℕ) (size : Size) (e made : Operand) (v : ℕ) (row : ℕ → Regs68 × Memory → Effect) (cell : Fault)
    → e ≡ made → unless_illegal r.pc word e.good (put_into r m size e.ea v) ≡ Err cell
    → runs_with r word made (λ n. put_into r m size made.ea v >>= row n) ≡ Stops cell
