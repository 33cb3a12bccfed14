-- No section so far is refused, and memory is as large as it was.
use Rattle.std.proofs.Common.{◌≡◌, ℕ, None, length}
use Rattle.mix_bits.specs.Search.{least}
use Rattle.look_words.specs.inner.Unmade.{is_badly_relocated}
use Rattle.look_words.proofs.unmade.first_refused.Given as goal

abbrev pub invariant-loop-k : goal.invariant-loop-k
invariant-loop-k l = record { none : (start : ℕ) → least (is_badly_relocated l.pef start) l.k ≡ None; len : length l.ram.bytes ≡ length l.initial.ram.bytes }
