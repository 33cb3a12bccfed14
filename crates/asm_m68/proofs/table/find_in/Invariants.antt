-- The name is not in the rows before.
use Rattle.std.proofs.Common.{◌≡◌, drop, map}
use Rattle.asm_m68.specs.laws.Table.{found_in}
use Rattle.asm_m68.proofs.table.find_in.Given as goal

abbrev pub invariant-loop-row : goal.invariant-loop-row
invariant-loop-row l = found_in (map (λ r. (r.0.now, r.1)) (drop l.row-index l.rows)) l.name ≡ found_in (map (λ r. (r.0.now, r.1)) l.rows) l.name
