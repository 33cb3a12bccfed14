use Rattle.std.proofs.Common.{ℕ, ◌+◌, ◌≤◌, subst, sym, ap, ◌∙◌, ◌≡◌, length, arith}
use Rattle.mix_bits.specs.Multiples.{rounded_up}
use Rattle.mix_load.specs.Segments.{header_of, segments_end, segments_start, table_start}
use Rattle.mix_load.specs.declared.header.CodeHeader.{CodeHeader}
use Rattle.mix_load.proofs.Forks.{codes-memory}
use Rattle.mix_load.proofs.fork.put_codes.Goals as goal

pub put_segments-requires-clause-fits : goal.put_segments-requires-clause-fits
put_segments-requires-clause-fits c =
    let start_is : c.segments_start-start.result ≡ segments_start (header_of c.args.code0.now) = c.segments_start-start.ensures.is ∙ ap segments_start c.requires.header in
    subst (λ (s : ℕ). rounded_up 16 (segments_end c.args.fork.now s c.args.ids) ≤ length c.args.ram.now.bytes) (sym start_is) c.requires.room.end_fits

pub put_table-requires-clause-room : goal.put_table-requires-clause-room
put_table-requires-clause-room c =
    let room : table_start (header_of c.args.code0.now) + (header_of c.args.code0.now).table_len ≤ length c.put_segments.new.ram.bytes =
    omega (arith, c.requires.room.world_fits, c.requires.room.table.above, c.in_ok-places.ensures.len) in
    subst (λ (h : CodeHeader). table_start h + h.table_len ≤ length c.put_segments.new.ram.bytes) (sym c.requires.header) room

pub returns-clause-memory : goal.returns-clause-memory
returns-clause-memory c =
    codes-memory c.args.ids c.args.fork.now c.args.code0.now c.segments_start-start.result c.deref.result.now c.put_table.new.ram c.put_segments.new.ram c.args.ram.now
    (c.segments_start-start.ensures.is ∙ ap segments_start c.requires.header) (c.deref.ensures.value ∙ c.in_ok-places.ensures.places) c.in_ok-places.ensures.memory c.put_table.ensures.memory
