-- The line is that of the rest behind fewer lines.
use Rattle.std.proofs.Common.{◌≡◌, ◌-◌, ◌≤◌, length}
use Rattle.mix_top.specs.Scripts.{lines_of}
use Rattle.look_why.specs.Lines.{line_behind}
use Rattle.look_why.proofs.lines.nth_line.Given as goal

abbrev pub invariant-lines : goal.invariant-lines
invariant-lines l = (line_behind (lines_of l.rest) (l.left - 1) ≡ line_behind (lines_of l.text) (l.number - 1)) × (length l.rest ≤ length l.text)

abbrev pub decreases-lines : goal.decreases-lines
decreases-lines l = l.left
