-- What is left to be loaded, by the bits that are left, and how far the address can have come.
use Rattle.std.proofs.Common.{◌≡◌, ◌+◌, ◌-◌, ◌*◌, ◌≤◌, length, filter}
use Rattle.std.specs.List.{range_with_len}
use Rattle.m68_effects.specs.Multiple.{listed, loaded_along}
use Rattle.m68_movement.proofs.Masks.{has}
use Rattle.m68_movement.proofs.multiple.take_all.Given as goal

abbrev pub invariant-loop-k : goal.invariant-loop-k
invariant-loop-k l =
    (loaded_along l.fn.regs.pc l.fn.regs l.ram l.a l.size (listed l.mask) ≡ loaded_along l.fn.regs.pc l.regs l.ram l.at l.size (filter (has l.mask) (range_with_len l.k (16 - l.k))))
    × (l.count + length (filter (has l.mask) (range_with_len l.k (16 - l.k))) ≡ length (listed l.mask))
    × (l.count ≤ l.k) × (l.regs.pc ≡ l.fn.regs.pc) × (l.a ≤ l.at) × (l.at ≤ l.a + 4 * l.k)
