-- The trap is in none of the rows before.
use Rattle.std.proofs.Common.{◌≡◌, drop, map}
use Rattle.trap_names.specs.Traps.{name_in}
use Rattle.trap_names.proofs.traps.find_name.Given as goal

abbrev pub invariant-loop-row : goal.invariant-loop-row
invariant-loop-row l =
    name_in (map (λ row. (row.0, row.1.now)) (drop l.row-index l.rows)) l.number ≡ name_in (map (λ row. (row.0, row.1.now)) l.rows) l.number
