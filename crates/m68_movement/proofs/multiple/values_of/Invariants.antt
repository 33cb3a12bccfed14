-- The values of the bits so far.
use Rattle.std.proofs.Common.{◌≡◌, ◌≤◌, ◌-◌, length, map, filter}
use Rattle.std.specs.Prelude.{if◌then◌else◌}
use Rattle.std.specs.List.{range_with_len}
use Rattle.m68_effects.specs.Multiple.{register_of}
use Rattle.m68_movement.proofs.Masks.{has}
use Rattle.m68_movement.proofs.multiple.values_of.Given as goal

abbrev pub invariant-loop-k : goal.invariant-loop-k
invariant-loop-k l =
    (l.values.items ≡ map (λ k. register_of l.regs (if l.down then 15 - k else k)) (filter (has l.mask) (range_with_len 0 l.k)))
    × (length l.values.items ≤ l.k)
