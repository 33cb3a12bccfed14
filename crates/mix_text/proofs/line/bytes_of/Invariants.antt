-- The bytes of the words before.
use Rattle.std.proofs.Common.{◌≡◌, ◌*◌, ◌++◌, drop, length}
use Rattle.mix_text.specs.Assembling.{word_bytes}
use Rattle.mix_text.proofs.line.bytes_of.Given as goal

abbrev pub invariant-loop-word : goal.invariant-loop-word
invariant-loop-word l = record {
  split : l.bytes.items ++ word_bytes (drop l.word-index l.words) ≡ word_bytes l.words;
  count : length l.bytes.items ≡ 2 * l.word-index;
}
