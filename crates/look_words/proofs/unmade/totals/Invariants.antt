-- The size of each section so far.
use Rattle.std.proofs.Common.{◌≡◌, ℕ, ◌<◌, length, slice_index}
use Rattle.mix_load.specs.laws.Sections.{total_at}
use Rattle.look_words.proofs.unmade.totals.Given as goal

abbrev pub invariant-loop-k : goal.invariant-loop-k
invariant-loop-k l = record { long : length l.totals.items ≡ l.k; each : (j : ℕ) → j < l.k → slice_index l.totals.items j ≡ total_at l.pef j }
