use Rattle.mix_top.proofs.Scripts.{bad-lines_are_first, scripts-are_lines}
use Rattle.mix_top.proofs.spelling_laws.script_laws.Goals as goal

pub returns : goal.returns
returns c = record { scripts = scripts-are_lines; bad = bad-lines_are_first }
