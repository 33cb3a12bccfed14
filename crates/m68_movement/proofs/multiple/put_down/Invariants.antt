-- What is left to be stored, by the bits that are left, and how far down the address can have come.
use Rattle.std.proofs.Common.{◌≡◌, ◌+◌, ◌-◌, ◌*◌, ◌≤◌, length, map, filter}
use Rattle.std.specs.List.{range_with_len}
use Rattle.mix_bits.specs.Sizes.{bytes_of}
use Rattle.big_memory.specs.StoresClauses.{OnlyFree}
use Rattle.m68_effects.specs.Multiple.{listed, register_of, stored_down}
use Rattle.m68_movement.proofs.Masks.{has}
use Rattle.m68_movement.proofs.multiple.put_down.Given as goal

abbrev pub invariant-loop-k : goal.invariant-loop-k
invariant-loop-k l =
    (stored_down l.regs.pc l.fn.ram l.base l.size (map (λ k. register_of l.regs (15 - k)) (listed l.mask))
    ≡ stored_down l.regs.pc l.ram l.at l.size (map (λ k. register_of l.regs (15 - k)) (filter (has l.mask) (range_with_len l.k (16 - l.k)))))
    × OnlyFree l.fn.ram l.ram
    × (l.at + bytes_of l.size * length (listed l.mask) ≡ l.base + bytes_of l.size * length (filter (has l.mask) (range_with_len l.k (16 - l.k))))
    × (l.at ≤ l.base) × (l.base ≤ l.at + 4 * l.k)
