use Rattle.std.proofs.Common.{◌≡◌, ◌++◌, drop}
use Rattle.std.specs.List.{flat_map}
use Rattle.gdb_answers.specs.Registers.{long_text}
use Rattle.gdb_answers.proofs.registers.append_longs.Given as goal

-- what is there and the digits of what is left are those of all
abbrev pub invariant-loop-long : goal.invariant-loop-long
invariant-loop-long l = l.buffer.items ++ flat_map long_text (drop l.long-index l.longs) ≡ l.fn.buffer.items ++ flat_map long_text l.longs
