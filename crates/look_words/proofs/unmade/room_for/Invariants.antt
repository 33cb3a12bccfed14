-- The sizes so far that memory can hold are held.
use Rattle.std.proofs.Common.{ℕ, ◌<◌, ◌≤◌, slice_index}
use Rattle.look_words.proofs.unmade.room_for.Given as goal

abbrev pub invariant-loop-total : goal.invariant-loop-total
invariant-loop-total l = record {
  least : 131072 ≤ l.room;
  most : l.room ≤ 16777216;
  held : (k : ℕ) → k < l.total-index → slice_index l.totals k ≤ 16777216 → slice_index l.totals k ≤ l.room;
}
