-- No line feed stands before.
use Rattle.std.proofs.Common.{◌≡◌, ◌+◌, drop}
use Rattle.mix_top.specs.ScriptLines.{line_length}
use Rattle.mix_top.proofs.script_lines.line_length.Given as goal

abbrev pub invariant-loop-i : goal.invariant-loop-i
invariant-loop-i l = l.i + line_length (drop l.i l.text) ≡ line_length l.text
