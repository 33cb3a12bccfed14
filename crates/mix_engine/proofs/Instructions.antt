-- Instructions of both sets over the memory of a machine.
use Rattle.std.proofs.Common.{refl, ap, ◌∙◌}
use Rattle.mix_bits.specs.declared.isa.Isa.{Isa}
use Rattle.mix_bits.specs.declared.fault.Fault.{Fault}
use Rattle.big_memory.specs.declared.steps.Did.{Did}
use Rattle.big_memory.specs.declared.steps.Did.TheVariants.{Next, Leave, Stop}
use Rattle.big_memory.specs.Memory.{Memory}
use Rattle.big_memory.specs.Steps.{After}
use Rattle.big_memory.specs.StepsClauses.{Does}
use Rattle.mixed_machine.specs.declared.body.Body.{Body}
use Rattle.mixed_machine.specs.Machine.{IsWhole}
use Rattle.mixed_machine.specs.inner.Machine.{seen_of}
use Rattle.mix_engine.specs.laws.Laws.{AreLaws}
use Rattle.mix_engine.specs.inner.Cores.{CoreSteps}
use Rattle.mix_engine.proofs.Changed.{changed, seen-is}

pub core-steps : {R : Type 0} → AreLaws → (step : R → Memory → After R) (did : Did) (cell : Fault) (r next : R) (b : Body) (n : Memory) (set : Isa)
    → IsWhole b set → Does (step r b.ram) did cell r next b.ram n → CoreSteps (step r (seen_of b)) did cell r next b (record b { ram = n }) set
core-steps laws step Next cell r next b n set whole does =
    (ap (step r) (seen-is laws b set whole) ∙ does.0, changed laws b n b.heap set whole does.1 (record { low = refl; high = refl }), refl)
core-steps laws step Leave cell r next b n set whole does =
    (ap (step r) (seen-is laws b set whole) ∙ does.0, does.1, ap (λ m. record b { ram = m }) does.2)
core-steps laws step Stop cell r next b n set whole does =
    (ap (step r) (seen-is laws b set whole) ∙ does.0, does.1, ap (λ m. record b { ram = m }) does.2)
