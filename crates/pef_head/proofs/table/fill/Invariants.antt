use Rattle.std.proofs.Common.{◌≡◌, ℕ, ◌<◌, ◌&&◌, nat_lt, length, slice_index, unwrap_or}
use Rattle.pef_head.specs.Places.{holds}
use Rattle.mix_bits.specs.SearchOperator.{◌or◌}
use Rattle.mix_bits.specs.Search.{refused, least}
use Rattle.pef_head.proofs.table.fill.Given as goal

-- the symbols of this library before i have it too
abbrev pub invariant-loop-i : goal.invariant-loop-i
invariant-loop-i l = record {
  filled : (k : ℕ) → k < l.fn.l.symbols
      → slice_index l.table k ≡ unwrap_or (least (holds l.bytes l.fn.l k) l.fn.j or refused (holds l.bytes l.fn.l k l.fn.j && nat_lt k l.i) l.fn.j) 0;
  room : length l.table ≡ l.fn.l.symbols;
}
