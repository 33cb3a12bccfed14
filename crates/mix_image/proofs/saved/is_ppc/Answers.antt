use Rattle.std.proofs.Common.{◌≡◌, length, rules}
use Rattle.mix_image.proofs.saved.is_ppc.Goals as goal

pub returns : goal.returns
returns c =
    let gpr : length c.args.file.now.gpr ≡ 32 = search rules in
    let rest = c.are_longs-2.ensures.each in
    record { general = record { count = gpr; each = c.are_longs.ensures.each }; cr_fits = rest 0; lr_fits = rest 1; ctr_fits = rest 2; xer_fits = rest 3; pc_fits = rest 4 }
