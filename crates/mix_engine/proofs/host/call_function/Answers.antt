use Rattle.std.proofs.Common.{None, refl}
use Rattle.toolbox.specs.Host.{host}
use Rattle.mix_io.proofs.Streams.{grows-none}
use Rattle.mixed_machine.specs.Host.{host_of, hosted_by, hosts, universal}
use Rattle.mixed_machine.specs.Machine.{flat}
use Rattle.mix_engine.proofs.Amid.{acts-from}
use Rattle.mix_engine.proofs.Hosts.{went-on}
use Rattle.mix_engine.proofs.Leavings.{hosts-are}
use Rattle.mix_engine.proofs.host.call_function.Goals as goal

pub returns-then-call_heap-clause-does : goal.returns-then-call_heap-clause-does
returns-then-call_heap-clause-does g c =
    acts-from (λ s. hosts s c.args.index) (λ s. hosted_by (universal s s.active) s (host c.args.index (host_of s))) _ _ _ _ _ refl
    (λ around. hosts-are (flat c.args.body.now c.args.active.now around) c.args.index)
    (went-on c.body_laws.ensures (λ s. universal s s.active) c.args.index None _ _ _ _ _ _ _ _ _ _ c.requires.whole (c.call_heap.ensures.done c.if-call_heap.true _ _) (grows-none _))

pub returns-else-call_heap-clause-does : goal.returns-else-call_heap-clause-does
returns-else-call_heap-clause-does g c =
    let kept = c.call_heap.ensures.left c.if-call_heap.false in
    acts-from (λ s. hosts s c.args.index) (λ s. hosts s c.args.index) _ _ _ _ _ (rw (kept.0, kept.1) refl) (λ around. refl) c.call_any.ensures.does
