-- The name is not in the rows before.
use Rattle.std.proofs.Common.{◌≡◌, drop, map}
use Rattle.asm_ppc.specs.inner.Table.{lookup}
use Rattle.asm_ppc.proofs.table.find_in.Given as goal

abbrev pub invariant-loop-row : goal.invariant-loop-row
invariant-loop-row l = lookup l.name (map (λ r. (r.0.now, r.1, r.2)) (drop l.row-index l.rows)) ≡ lookup l.name (map (λ r. (r.0.now, r.1, r.2)) l.rows)
