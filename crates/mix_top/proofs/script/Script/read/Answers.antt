-- No line is bad.
use Rattle.std.proofs.Common.{sym}
use Rattle.mix_top.specs.Scripts.{lines_of}
use Rattle.mix_top.proofs.Splits.{is-script}
use Rattle.mix_top.proofs.script.Script.read.Goals as goal

pub invariant_of-result : goal.invariant_of-result
invariant_of-result c = let own = is-script 1 (lines_of c.args.text.now) (sym c.in-None.ensures) in own.all

pub returns-in-None : goal.returns-in-None
returns-in-None c = let own = is-script 1 (lines_of c.args.text.now) (sym c.in-None.ensures) in own.commands
