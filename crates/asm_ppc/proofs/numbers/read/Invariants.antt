-- What is left to read leads to where the whole text leads.
use Rattle.std.proofs.Common.{◌≡◌, drop}
use Rattle.asm_ppc.specs.Reading.{none, run, start}
use Rattle.asm_ppc.proofs.numbers.read.Given as goal

abbrev pub invariant-loop-b : goal.invariant-loop-b
invariant-loop-b l = run l.reading (drop l.b-index l.text) ≡ run (start none) l.text
