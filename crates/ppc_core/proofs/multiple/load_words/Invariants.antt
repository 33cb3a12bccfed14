use Rattle.std.proofs.Common.{◌≡◌, Ok}
use Rattle.ppc_integer.specs.Strings.{in_order, load_word}
use Rattle.ppc_core.proofs.multiple.load_words.Given as goal

abbrev pub invariant-loop-k : goal.invariant-loop-k
invariant-loop-k l = in_order (load_word l.ram l.at l.first) l.initial.gpr l.k ≡ Ok l.gpr
