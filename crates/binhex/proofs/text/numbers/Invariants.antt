-- The numbers of the symbols so far.
use Rattle.std.proofs.Common.{◌≡◌, take}
use Rattle.binhex.specs.Text.{symbols_of}
use Rattle.binhex.proofs.text.numbers.Given as goal

abbrev pub invariant-loop-byte : goal.invariant-loop-byte
invariant-loop-byte l = l.numbers.items ≡ symbols_of (take l.byte-index l.text)
