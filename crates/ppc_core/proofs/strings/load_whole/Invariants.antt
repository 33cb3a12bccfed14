use Rattle.std.proofs.Common.{◌≡◌, ◌*◌, length, Ok}
use Rattle.ppc_integer.specs.Strings.{in_order, load_byte}
use Rattle.ppc_core.proofs.strings.load_whole.Given as goal

abbrev pub invariant-loop-j : goal.invariant-loop-j
invariant-loop-j l = record {
  count : length l.gpr ≡ 32;
  all : in_order (load_byte l.ram l.at l.first) l.initial.gpr (4 * l.j) ≡ Ok l.gpr;
}
