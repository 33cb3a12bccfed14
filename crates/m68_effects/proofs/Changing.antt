-- A step that changes an operand: where it is found, read and written.
use Rattle.std.proofs.Common.{◌≡◌, ℕ, ◌*◌, true, false, if◌then◌else◌, Result, Ok, Err, ap, sym, subst, ◌∙◌}
use Rattle.mix_bits.specs.declared.size.Size.{Size}
use Rattle.mix_bits.specs.declared.fault.Fault.{Fault}
use Rattle.mix_bits.specs.declared.fault.FaultKind.TheVariants.{Illegal}
use Rattle.mix_bits.specs.Addresses.{onward}
use Rattle.mix_bits.specs.Faults.{fault_at}
use Rattle.mix_bits.specs.Results.{◌>>=◌}
use Rattle.m68_isa.specs.declared.registers.Regs68.{Regs68}
use Rattle.m68_isa.specs.declared.operand.Operand.{Operand}
use Rattle.m68_alu.specs.declared.sums.Out.{Out}
use Rattle.big_memory.specs.declared.steps.Did.{Did}
use Rattle.big_memory.specs.declared.steps.Did.TheVariants.{Next}
use Rattle.big_memory.specs.Memory.{Memory}
use Rattle.big_memory.specs.Steps.{After}
use Rattle.big_memory.specs.StepsClauses.{Does}
use Rattle.big_memory.specs.Steps.After.{Goes, Stops}
use Rattle.big_memory.specs.StoresClauses.{OnlyFree}
use Rattle.m68_ea.specs.declared.places.Place68.{Place68}
use Rattle.m68_ea.specs.Operands.{value_at, written_at}
use Rattle.m68_effects.specs.laws.Operations.{runs_with}
use Rattle.m68_effects.specs.Parts.{Effect, after, changed, goes_on, with_ccr}
use Rattle.m68_ea.specs.Places.{placed}
use Rattle.m68_effects.specs.Step.{stops}

-- registers and memory once a value is written, with its flags
abbrev behind : ℕ → Out → Regs68 × Memory → Effect
behind next out put = goes_on next (with_ccr put.0 out.ccr) put.1

-- what is done with the value at a place
abbrev with_value : ℕ → Size → (ℕ → Out) → Memory → Regs68 × Place68 → ℕ → Effect
with_value next s op m at d = written_at at.0 m at.1 s (op d).value >>= behind next (op d)

abbrev at_place : ℕ → Size → (ℕ → Out) → Memory → Regs68 × Place68 → Effect
at_place next s op m at = value_at at.0 m at.1 s >>= with_value next s op m at

-- an operand `e`, known as `made`, whose index word is bad
pub illegal : (r : Regs68) (m : Memory) (word : ℕ) (s : Size) (e made : Operand) (op : ℕ → Out) (cell : Fault)
    → e ≡ made → e.good ≡ false → cell ≡ fault_at r.pc Illegal word → runs_with r word made (λ n. changed r m n s made.ea op) ≡ Stops cell
illegal r m word s e made op cell same bad is =
    subst (λ x. runs_with r word x (λ n. changed r m n s x.ea op) ≡ Stops cell) same
    (ap (λ b. if b then after (changed r m (onward r.pc (2 * e.next)) s e.ea op) else stops r Illegal word) bad ∙ ap (λ x. Stops x) (sym is))

-- one that is found
pub found : (r q : Regs68) (m : Memory) (word next : ℕ) (s : Size) (e made : Operand) (p : Place68) (op : ℕ → Out)
    → e ≡ made → e.good ≡ true → placed r e.ea s ≡ (q, p) → next ≡ e.next
    → runs_with r word made (λ n. changed r m n s made.ea op) ≡ after (at_place (onward r.pc (2 * next)) s op m (q, p))
found r q m word next s e made p op same good stands last =
    subst (λ x. runs_with r word x (λ n. changed r m n s x.ea op) ≡ after (at_place (onward r.pc (2 * next)) s op m (q, p))) same
    (ap (λ b. if b then after (at_place (onward r.pc (2 * e.next)) s op m (placed r e.ea s)) else stops r Illegal word) good
    ∙ (λ i. after (at_place (onward r.pc (2 * sym last i)) s op m (stands i))))

-- its value is refused, is read, or can't be written back
pub unread : (next : ℕ) (s : Size) (op : ℕ → Out) (m : Memory) (q : Regs68) (p : Place68) (cell : Fault) → value_at q m p s ≡ Err cell → after (at_place next s op m (q, p)) ≡ Stops cell
unread next s op m q p cell is = ap (λ x. after (x >>= with_value next s op m (q, p))) is

pub read : (next : ℕ) (s : Size) (op : ℕ → Out) (m : Memory) (q t : Regs68) (p : Place68) (v : ℕ) (out : Out) → value_at q m p s ≡ Ok v → t ≡ q → out ≡ op v
    → after (at_place next s op m (q, p)) ≡ after (written_at t m p s out.value >>= behind next out)
read next s op m q t p v out is same result =
    ap (λ x. after (x >>= with_value next s op m (q, p))) is ∙ (λ i. after (written_at (sym same i) m p s (sym result i).value >>= behind next (sym result i)))

pub unwritten : (next : ℕ) (out : Out) (x : Result (Regs68 × Memory) Fault) (cell : Fault) → x ≡ Err cell → after (x >>= behind next out) ≡ Stops cell
unwritten next out x cell is = ap (λ y. after (y >>= behind next out)) is

-- it is written, and the program goes on
pub written : (step : After Regs68) (r q new : Regs68) (m n : Memory) (next : ℕ) (out : Out) (x : Result (Regs68 × Memory) Fault) (did : Did) (cell : Fault)
    → step ≡ after (x >>= behind next out) → x ≡ Ok (q, n) → OnlyFree m n → did ≡ Next → new ≡ record (with_ccr q out.ccr) { pc = next } → Does step did cell r new m n
written step r q new m n next out x did cell steps is free goes same =
    subst (λ d. Does step d cell r new m n) (sym goes) (steps ∙ ap (λ y. after (y >>= behind next out)) is ∙ ap (λ t. Goes t n) (sym same), free)
