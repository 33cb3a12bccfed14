use Rattle.std.proofs.Common.{◌*◌}
use Rattle.ppc_core.proofs.Order.{Stored}
use Rattle.ppc_core.proofs.strings.store_whole.Given as goal

abbrev pub invariant-loop-j : goal.invariant-loop-j
invariant-loop-j l = Stored l.initial.ram l.at l.first l.gpr (4 * l.j) l.ram
