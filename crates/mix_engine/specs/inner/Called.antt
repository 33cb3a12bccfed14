-- How a call of a host function goes on in a run.
use Rattle.std.specs.Prelude.{◌≡◌, ℕ}
use Rattle.mix_bits.specs.declared.fault.Fault.{Fault}
use Rattle.toolbox.specs.Effects.{Around}
use Rattle.toolbox.specs.Host.{host}
use Rattle.toolbox.specs.Host.Hosted.{Crosses}
use Rattle.mixed_machine.specs.State.{State}
use Rattle.mixed_machine.specs.Next.{Next}
use Rattle.mixed_machine.specs.Host.{host_of, hosted_by}
use Rattle.mixed_machine.specs.Machine.{flat}
use Rattle.mixed_machine.specs.OutsideClauses.{At}
use Rattle.mixed_machine.specs.laws.Acts.{Acts}
use Rattle.mix_engine.specs.declared.host.Called.{Called}
use Rattle.mix_engine.specs.declared.host.Called.TheVariants.{Went, Cross}

-- a host call is a step, whatever a crossing would do; or it is a crossing, and nothing has changed
abbrev pub IsCalled : ℕ → Called → Fault → At → At → Type 0
IsCalled index (Went did) cell a b = (crossing : State → ℕ → ℕ → Next) → Acts (λ s. hosted_by (crossing s) s (host index (host_of s))) did cell a b
IsCalled index (Cross pointer info) cell a b = ((around : Around) → host index (host_of (flat a.body a.active around)) ≡ Crosses pointer info) × (b ≡ a)
