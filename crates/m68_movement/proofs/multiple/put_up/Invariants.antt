-- What is left to be stored, by the bits that are left, and how far the address can have come.
use Rattle.std.proofs.Common.{◌≡◌, ◌+◌, ◌-◌, ◌*◌, ◌≤◌, map, filter}
use Rattle.std.specs.List.{range_with_len}
use Rattle.mix_bits.specs.Sizes.{bytes_of}
use Rattle.big_memory.specs.StoresClauses.{OnlyFree}
use Rattle.m68_effects.specs.Multiple.{listed, register_of, stored_along}
use Rattle.m68_movement.proofs.Masks.{has}
use Rattle.m68_movement.proofs.multiple.put_up.Given as goal

abbrev pub invariant-loop-k : goal.invariant-loop-k
invariant-loop-k l =
    (stored_along l.regs.pc l.fn.ram l.a (bytes_of l.size) l.size (map (register_of l.regs) (listed l.mask))
    ≡ stored_along l.regs.pc l.ram l.at (bytes_of l.size) l.size (map (register_of l.regs) (filter (has l.mask) (range_with_len l.k (16 - l.k)))))
    × OnlyFree l.fn.ram l.ram × (l.a ≤ l.at) × (l.at ≤ l.a + 4 * l.k)
