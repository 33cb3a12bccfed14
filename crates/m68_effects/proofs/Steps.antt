-- A step that reads an operand first: it stops where the operand is refused, and goes on with its value.
use Rattle.std.proofs.Common.{◌≡◌, ℕ, ◌*◌, List, Result, Ok, Err, Bool, true, false, if◌then◌else◌, refl, ap, sym, subst, ◌∙◌}
use Rattle.mix_bits.specs.declared.size.Size.{Size}
use Rattle.mix_bits.specs.declared.fault.Fault.{Fault}
use Rattle.mix_bits.specs.declared.fault.FaultKind.TheVariants.{Illegal}
use Rattle.mix_bits.specs.Addresses.{onward}
use Rattle.mix_bits.specs.Results.{◌>>=◌}
use Rattle.m68_isa.specs.declared.registers.Regs68.{Regs68}
use Rattle.m68_isa.specs.declared.operand.Operand.{Operand}
use Rattle.m68_isa.specs.Operands.{operand_at}
use Rattle.big_memory.specs.declared.steps.Did.{Did}
use Rattle.big_memory.specs.declared.steps.Did.TheVariants.{Next}
use Rattle.big_memory.specs.Memory.{Memory}
use Rattle.big_memory.specs.Steps.{After}
use Rattle.big_memory.specs.StepsClauses.{Does}
use Rattle.big_memory.specs.Steps.After.{Goes, Stops}
use Rattle.m68_ea.specs.declared.places.Place68.{Place68}
use Rattle.m68_ea.specs.FindsClauses.{IsAt}
use Rattle.m68_ea.specs.Operands.{loaded_at, put_into, sourced, value_at}
use Rattle.m68_ea.specs.Finds.{unless_illegal}
use Rattle.m68_effects.specs.laws.Operations.{runs_with}
use Rattle.m68_effects.specs.Parts.{Effect, after}
use Rattle.m68_effects.specs.Step.{stops}

pub operand_is : (ws : List ℕ) (size : Size) (at at_too mode mode_too lower lower_too : ℕ) → at ≡ at_too → mode ≡ mode_too → lower ≡ lower_too → operand_at ws at size mode lower ≡ operand_at ws at_too size mode_too lower_too
operand_is ws size at at_too mode mode_too lower lower_too first second third = λ i. operand_at ws (first i) size (second i) (third i)

stops_so : {T : Type 0} (good : Bool) (r : Regs68) (word : ℕ) (x : Result T Fault) (f : T → Effect) (cell : Fault)
    → unless_illegal r.pc word good x ≡ Err cell → (if good then after (x >>= f) else stops r Illegal word) ≡ Stops cell
stops_so true r word x f cell is = ap (λ y. after (y >>= f)) is
stops_so false r word x f cell is = ap (λ y. after (y >>= f)) is

-- what is done with an operand `e`, known as `made`
pub refused : (r : Regs68) (m : Memory) (word : ℕ) (size : Size) (e made : Operand) (row : ℕ → Regs68 × ℕ → Effect) (cell : Fault)
    → e ≡ made → unless_illegal r.pc word e.good (sourced r m size e.ea) ≡ Err cell
    → runs_with r word made (λ n. sourced r m size made.ea >>= row n) ≡ Stops cell
refused r m word size e made row cell same is =
    subst (λ x. runs_with r word x (λ n. sourced r m size x.ea >>= row n) ≡ Stops cell) same
    (stops_so e.good r word (sourced r m size e.ea) (row (onward r.pc (2 * e.next))) cell is)

-- what is made of an operand that is written
pub unwritten : (r : Regs68) (m : Memory) (word : ℕ) (size : Size) (e made : Operand) (v : ℕ) (row : ℕ → Regs68 × Memory → Effect) (cell : Fault)
    → e ≡ made → unless_illegal r.pc word e.good (put_into r m size e.ea v) ≡ Err cell
    → runs_with r word made (λ n. put_into r m size made.ea v >>= row n) ≡ Stops cell
unwritten r m word size e made v row cell same is =
    subst (λ x. runs_with r word x (λ n. put_into r m size x.ea v >>= row n) ≡ Stops cell) same
    (stops_so e.good r word (put_into r m size e.ea v) (row (onward r.pc (2 * e.next))) cell is)

pub taken : (r q : Regs68) (m : Memory) (word : ℕ) (size : Size) (e made : Operand) (v next : ℕ) (row : ℕ → Regs68 × ℕ → Effect)
    → e ≡ made → e.good ≡ true → sourced r m size e.ea ≡ Ok (q, v) → next ≡ e.next
    → runs_with r word made (λ n. sourced r m size made.ea >>= row n) ≡ after (row (onward r.pc (2 * next)) (q, v))
taken r q m word size e made v next row same good is behind =
    subst (λ x. runs_with r word x (λ n. sourced r m size x.ea >>= row n) ≡ after (row (onward r.pc (2 * next)) (q, v))) same
    (ap (λ b. if b then after (sourced r m size e.ea >>= row (onward r.pc (2 * e.next))) else stops r Illegal word) good
    ∙ ap (λ x. after (x >>= row (onward r.pc (2 * e.next)))) is
    ∙ ap (λ n. after (row (onward r.pc (2 * n)) (q, v))) (sym behind))

-- the registers behind it
pub goes : (step : After Regs68) (r next last : Regs68) (did : Did) (cell : Fault) (m : Memory) → did ≡ Next → step ≡ Goes last m → next ≡ last → Does step did cell r next m m
goes step r next last did cell m is steps same =
    subst (λ d. Does step d cell r next m m) (sym is) (steps ∙ ap (λ x. Goes x m) (sym same), record { marks = refl; long = refl; kept = λ a below free. refl })

-- an operand that stands in memory at `a`
abbrev with_value : Regs68 → ℕ → Result (Regs68 × ℕ) Fault
with_value r v = Ok (r, v)

abbrev from_place : Memory → Size → Regs68 × Place68 → Result (Regs68 × ℕ) Fault
from_place m size at = value_at at.0 m at.1 size >>= with_value at.0

pub source_at : (r : Regs68) (m : Memory) (size : Size) (e : Operand) (a next v : ℕ) → IsAt r size e a next → loaded_at r.pc m a size ≡ Ok v → sourced r m size e.ea ≡ Ok (r, v)
source_at r m size e a next v at is = ap (from_place m size) at.stands ∙ ap (λ x. x >>= with_value r) is

pub no_source_at : (r : Regs68) (m : Memory) (word : ℕ) (size : Size) (e : Operand) (a next : ℕ) (cell : Fault) → IsAt r size e a next → loaded_at r.pc m a size ≡ Err cell
    → unless_illegal r.pc word e.good (sourced r m size e.ea) ≡ Err cell
no_source_at r m word size e a next cell at is =
    (λ i. unless_illegal r.pc word (at.good i) (from_place m size (at.stands i))) ∙ ap (λ x. x >>= with_value r) is
