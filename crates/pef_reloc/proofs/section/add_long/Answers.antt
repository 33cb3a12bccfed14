use Rattle.std.proofs.Common.{◌≡◌, ◌+◌, ◌%◌, ◌^◌, take, drop, arith, ap, sym, ◌∙◌}
use Rattle.byteorder.specs.Endian.{big_bytes}
use Rattle.big_memory.specs.Lists.{part, put}
use Rattle.big_memory.specs.Memory.{with_bytes}
use Rattle.big_memory.specs.Numbers.{long_at}
use Rattle.big_memory.proofs.Numbers.{long_in_part}
use Rattle.pef_reloc.specs.inner.Held.{Outside, section_of, outside_of}
use Rattle.pef_reloc.proofs.Placed.{part_put, take_put_inside, drop_put_inside}
use Rattle.pef_reloc.proofs.section.add_long.Goals as goal

pub returns-clause-section : goal.returns-clause-section
returns-clause-section c =
    let base = c.args.target.base in
    let total = c.args.target.total in
    let bytes = c.args.ram.now.bytes in
    let long = long_at c.args.position (part base total bytes) in
    let old : c.read_long-long.result ≡ long = c.read_long-long.ensures ∙ sym (long_in_part base total c.args.position bytes c.requires.within) in
    let wrote : c.fix_long.new.self ≡ with_bytes (base + c.args.position) (big_bytes 4 ((long + c.args.value) % 2 ^ 32)) c.args.ram.now
    = c.fix_long.ensures.bytes ∙ ap (λ n. with_bytes (base + c.args.position) (big_bytes 4 ((n + c.args.value) % 2 ^ 32)) c.args.ram.now) old in
    ap (section_of c.args.target) wrote
    ∙ part_put base total c.args.position (big_bytes 4 ((long + c.args.value) % 2 ^ 32)) bytes c.requires.within c.requires.fits.inside

pub returns-clause-outside : goal.returns-clause-outside
returns-clause-outside c =
    let base = c.args.target.base in
    let total = c.args.target.total in
    let bytes = c.args.ram.now.bytes in
    let long = big_bytes 4 ((c.read_long-long.result + c.args.value) % 2 ^ 32) in
    let below = take_put_inside base c.args.position long bytes (omega arith) in
    let above = drop_put_inside (base + total) (base + c.args.position) long bytes (omega arith) (omega arith) in
    let parts : outside_of c.args.target (with_bytes (base + c.args.position) long c.args.ram.now) ≡ outside_of c.args.target c.args.ram.now
    = ap (λ xs. let o : Outside = record { below = xs; above = drop (base + total) (put (base + c.args.position) long bytes); marks = c.args.ram.now.marks } in o) below
    ∙ ap (λ xs. let o : Outside = record { below = take base bytes; above = xs; marks = c.args.ram.now.marks } in o) above in
    ap (outside_of c.args.target) c.fix_long.ensures.bytes ∙ parts
