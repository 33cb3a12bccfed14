use Rattle.std.proofs.Common.{length-take-le, arith, sym}
use Rattle.ppc_isa.proofs.registers.RegsPpc.from_longs.Goals as goal

pub slice_bounds-copy_from_slice-end-2 : goal.slice_bounds-copy_from_slice-end-2
slice_bounds-copy_from_slice-end-2 c = sym (length-take-le 32 c.args.longs.now (omega (arith, c.requires)))
