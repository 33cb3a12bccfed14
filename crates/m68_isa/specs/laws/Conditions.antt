-- Conditions that differ in their last bit are opposite (M68000 Family Programmer's Reference Manual, table 3-19).
use Rattle.std.specs.Prelude.{ℕ, ◌≡◌, ◌+◌, ◌*◌, ◌<◌, not}
use Rattle.m68_isa.specs.declared.registers.Ccr.{Ccr}
use Rattle.m68_isa.specs.Conditions.{holds}

-- a condition with its last bit turned is its opposite
abbrev pub AreOpposite : Type 0
AreOpposite = (k : ℕ) (c : Ccr) → k < 8 → holds (2 * k + 1) c ≡ not (holds (2 * k) c)
