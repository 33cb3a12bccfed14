use Rattle.std.proofs.Common.{◌≡◌, Ok}
use Rattle.ppc_integer.specs.Strings.{in_order, load_byte}
use Rattle.ppc_core.proofs.strings.load_bytes.Given as goal

abbrev pub invariant-loop-k : goal.invariant-loop-k
invariant-loop-k l = in_order (load_byte l.ram l.at l.first) l.fn.gpr l.k ≡ Ok l.gpr
