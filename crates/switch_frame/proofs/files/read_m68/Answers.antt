use Rattle.std.proofs.Common.{◌+◌, arith, ap, ◌∙◌}
use Rattle.m68_isa.specs.Registers.{ccr_of}
use Rattle.switch_frame.proofs.Pieces.{long-read}
use Rattle.switch_frame.proofs.files.read_m68.Goals as goal

pub returns : goal.returns
returns c =
    let at = c.args.at in
    let bytes = c.args.ram.now.bytes in
    let pc = long-read 2 (at + 64) (at + 64) 0 bytes c.read_longs-3.new.to c.read_longs-3.ensures (omega arith) (omega arith) in
    let bits = long-read 2 (at + 64) (at + 68) 1 bytes c.read_longs-3.new.to c.read_longs-3.ensures (omega arith) (omega arith) in
    let ccr = c.from_bits.ensures.value ∙ ap ccr_of bits in
    λ i. record { d = c.read_longs.ensures i; a = c.read_longs-2.ensures i; pc = pc i; ccr = ccr i }
