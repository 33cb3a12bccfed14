use Rattle.std.proofs.Common.{◌∙◌, ap, arith}
use Rattle.big_memory.specs.Lists.{part, put}
use Rattle.big_memory.specs.Memory.{Memory}
use Rattle.pef_reloc.proofs.Placed.{put_section}
use Rattle.pef_reloc.proofs.program.relocate_target.Goals as goal

pub returns-clause-memory : goal.returns-clause-memory
returns-clause-memory c =
    let new = c.run_words.new.ram in
    let old = c.args.ram.now in
    let bytes = put_section c.args.target.base c.args.target.total new.bytes old.bytes (omega arith) c.run_words.ensures.len
    (ap (λ o. o.below) c.run_words.ensures.outside) (ap (λ o. o.above) c.run_words.ensures.outside) in
    let marks = ap (λ o. o.marks) c.run_words.ensures.outside in
    ap (λ xs. let m : Memory = record { bytes = xs; marks = new.marks } in m) bytes
    ∙ ap (λ xs. let m : Memory = record { bytes = put c.args.target.base (part c.args.target.base c.args.target.total new.bytes) old.bytes; marks = xs } in m) marks
