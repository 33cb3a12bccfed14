use Rattle.std.proofs.Common.{◌≡◌, ◌+◌, ◌∷◌, ◌++◌, [], length, arith, ap, sym, ◌∙◌, rules}
use Rattle.big_memory.specs.Memory.{with_bytes}
use Rattle.big_memory.specs.Numbers.{bytes_of_longs}
use Rattle.switch_frame.proofs.Pieces.{three-writes}
use Rattle.switch_frame.proofs.Images.{m68-longs}
use Rattle.switch_frame.proofs.files.write_m68.Goals as goal

pub returns-clause-bytes : goal.returns-clause-bytes
returns-clause-bytes c =
    let file = c.args.file.now in
    let d : length c.args.file.now.d ≡ 8 = search rules in
    let a : length c.args.file.now.a ≡ 8 = search rules in
    three-writes c.args.at (c.args.at + 32) (c.args.at + 64) file.d file.a (file.pc ∷ c.bits.result ∷ 0 ∷ 0 ∷ []) c.args.ram.now c.fix_longs.new.self c.fix_longs-2.new.self c.fix_longs-3.new.self
    c.fix_longs.ensures.bytes c.fix_longs-2.ensures.bytes c.fix_longs-3.ensures.bytes (omega arith) (omega arith) (omega arith)
    ∙ ap (λ bits. with_bytes c.args.at (bytes_of_longs (file.d ++ (file.a ++ (file.pc ∷ bits ∷ 0 ∷ 0 ∷ [])))) c.args.ram.now) c.bits.ensures.value
    ∙ ap (λ xs. with_bytes c.args.at (bytes_of_longs xs) c.args.ram.now) (sym (m68-longs file (0 ∷ 0 ∷ [])))

pub returns-clause-file : goal.returns-clause-file
returns-clause-file c =
    let d : length c.args.file.now.d ≡ 8 = search rules in
    let a : length c.args.file.now.a ≡ 8 = search rules in
    record {
      data_registers = record { count = d; each = c.fix_longs.ensures.longs.each };
      address_registers = record { count = a; each = c.fix_longs-2.ensures.longs.each };
      pc_fits = c.fix_longs-3.ensures.longs.each 0;
    }
