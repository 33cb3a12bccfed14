use Rattle.std.proofs.Common.{◌≡◌, length, rules}
use Rattle.mix_image.proofs.saved.is_m68.Goals as goal

pub returns : goal.returns
returns c =
    let d : length c.args.file.now.d ≡ 8 = search rules in
    let a : length c.args.file.now.a ≡ 8 = search rules in
    record { data_registers = record { count = d; each = c.are_longs.ensures.each }; address_registers = record { count = a; each = c.are_longs-2.ensures.each }; pc_fits = c.are_longs-3.ensures.each 0 }
