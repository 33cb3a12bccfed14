-- Which steps the debugger keeps: the longest suffix whose old bytes fit.
use Rattle.std.specs.Prelude.{ℕ, ◌+◌, ◌-◌, nat_le, if◌then◌else◌, List, [], ◌∷◌}
use Rattle.mix_engine.specs.declared.machine.Machine.{Machine}
use Rattle.mix_debug.specs.Changes.{runs_cost, runs_from}
use Rattle.mix_debug.specs.Costs.{file_cost}

-- a machine before a step, and how many bytes of history the step takes
pub record Kept : Type 0 where
  pub machine : Machine
  pub cost : ℕ

-- the newest that together take at most so many bytes: the longest beginning that does
unfoldable pub fitting : ℕ → List Kept → List Kept
fitting room [] = []
fitting room (k ∷ ks) = if nat_le k.cost room then k ∷ fitting (room - k.cost) ks else []

-- how many bytes of history a step takes that led from one machine to another: its register file, top and block, and
-- each maximal run of bytes that it changed
unfoldable pub cost_between : Machine → Machine → ℕ
cost_between old new = file_cost old.active + runs_cost (runs_from 0 old.body.ram.bytes new.body.ram.bytes)
