-- Where a branch by a distance goes (PowerPC 601 RISC Microprocessor User's Manual, chapter 10, b and bc).
use Rattle.std.specs.Prelude.{ℕ, Bool, if◌then◌else◌}
use Rattle.mix_bits.specs.Addresses.{onward}

-- with AA the displacement counts from address 0, else from the branch
abbrev pub branch_target : Bool → ℕ → ℕ → ℕ
branch_target aa at displacement = if aa then displacement else onward at displacement
