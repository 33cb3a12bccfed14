use Rattle.std.proofs.Common.{◌+◌, ◌∷◌, ◌++◌, [], arith, ap, ◌∙◌}
use Rattle.big_memory.specs.Memory.{with_bytes}
use Rattle.big_memory.specs.Numbers.{bytes_of_longs}
use Rattle.switch_frame.specs.Records.{fill_of, isa_of, longs_of_file}
use Rattle.switch_frame.proofs.Pieces.{two-writes}
use Rattle.switch_frame.proofs.Images.{length-file}
use Rattle.switch_frame.proofs.frames.write_held.Goals as goal

pub returns-clause-bytes : goal.returns-clause-bytes
returns-clause-bytes c =
    let held = c.args.held.now in
    let head = c.args.outer ∷ c.code.result ∷ held.info ∷ held.selector ∷ held.target ∷ held.hi ∷ held.want_sp ∷ held.depth ∷ [] in
    let file = longs_of_file held.caller ++ fill_of (isa_of held.caller) in
    two-writes held.lo (held.lo + 32) head file c.args.ram.now c.fix_longs.new.self c.write_file.new.ram
    c.fix_longs.ensures.bytes c.write_file.ensures.bytes (omega arith) (omega (arith, length-file held.caller c.write_file.ensures.file))
    ∙ ap (λ code. with_bytes held.lo (bytes_of_longs (c.args.outer ∷ code ∷ held.info ∷ held.selector ∷ held.target ∷ held.hi ∷ held.want_sp ∷ held.depth ∷ file)) c.args.ram.now) c.code.ensures
