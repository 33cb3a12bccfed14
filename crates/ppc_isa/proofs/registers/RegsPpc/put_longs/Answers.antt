use Rattle.std.proofs.Common.{◌≡◌, length, rules, length-take-le, arith, sym, ap, ◌∙◌, refl}
use Rattle.ppc_isa.specs.Longs.{file_of}
use Rattle.ppc_isa.proofs.Longs.{both_written, file_back}
use Rattle.ppc_isa.proofs.registers.RegsPpc.put_longs.Goals as goal

pub slice_bounds-copy_from_slice-end-2 : goal.slice_bounds-copy_from_slice-end-2
slice_bounds-copy_from_slice-end-2 c = sym (length-take-le 32 c.args.longs.now (omega (arith, c.requires)))

pub copy_from_slice-requires : goal.copy_from_slice-requires
copy_from_slice-requires c =
    let registers : length c.args.self.now.gpr ≡ 32 = search rules in
    length-take-le 32 c.args.longs.now (omega (arith, c.requires)) ∙ sym registers

pub returns-clause-value : goal.returns-clause-value
returns-clause-value c =
    let registers : length c.args.self.now.gpr ≡ 32 = search rules in
    both_written _ _ _ _ c.args.longs.now c.copy_from_slice.ensures.after c.copy_from_slice-2.ensures.after registers refl c.requires

pub returns-clause-back : goal.returns-clause-back
returns-clause-back c =
    let registers : length c.args.self.now.gpr ≡ 32 = search rules in
    ap file_of (both_written _ _ _ _ c.args.longs.now c.copy_from_slice.ensures.after c.copy_from_slice-2.ensures.after registers refl c.requires)
    ∙ file_back c.args.self.now registers
