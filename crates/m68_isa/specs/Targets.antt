-- Where a branch goes (M68000 Family Programmer's Reference Manual, section 4, Bcc).
use Rattle.std.specs.Prelude.{ℕ}
use Rattle.mix_bits.specs.Addresses.{onward}

-- its displacement counts from the address behind the first word
abbrev pub branch_target : ℕ → ℕ → ℕ
branch_target at displacement = onward (onward at 2) displacement
