use Rattle.std.proofs.Common.{◌≡◌, ◌+◌, ◌∷◌, [], length, arith, ap, sym, ◌∙◌, rules}
use Rattle.big_memory.specs.Memory.{with_bytes}
use Rattle.big_memory.specs.Numbers.{bytes_of_longs}
use Rattle.switch_frame.proofs.Pieces.{two-writes}
use Rattle.switch_frame.proofs.Images.{ppc-longs}
use Rattle.switch_frame.proofs.files.write_ppc.Goals as goal

pub returns-clause-bytes : goal.returns-clause-bytes
returns-clause-bytes c =
    let file = c.args.file.now in
    let gpr : length c.args.file.now.gpr ≡ 32 = search rules in
    two-writes c.args.at (c.args.at + 128) file.gpr (file.cr ∷ file.lr ∷ file.ctr ∷ file.xer ∷ file.pc ∷ 0 ∷ 0 ∷ 0 ∷ []) c.args.ram.now c.fix_longs.new.self c.fix_longs-2.new.self
    c.fix_longs.ensures.bytes c.fix_longs-2.ensures.bytes (omega arith) (omega arith)
    ∙ ap (λ xs. with_bytes c.args.at (bytes_of_longs xs) c.args.ram.now) (sym (ppc-longs file (0 ∷ 0 ∷ 0 ∷ [])))
