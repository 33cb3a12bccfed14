use Rattle.std.proofs.Common.{◌%◌, arith}
use Rattle.m68_isa.specs.First.{first_of}
use Rattle.m68_ea.specs.Words.{words_at}
use Rattle.m68_movement.proofs.Bases.{onto_found}
use Rattle.m68_movement.proofs.multiple.do_movem_to_memory.Goals as goal

pub returns : goal.returns
returns c =
    let f = first_of c.args.word in
    rw (← c.mode_of-mode.ensures.is, ← c.lower_of-lower.ensures.is)
    (onto_found c.args.regs.now _ c.args.ram.now _ c.args.word (f.size % 2) _ 2 c.mode_of-mode.result c.lower_of-lower.result c.in-Some.at _ (words_at c.args.ram.now c.args.regs.now.pc) _ c.control.new.fault _
    (omega arith) c.in-Some.ensures.word c.in-Some.ensures.long
    (rw (← c.transfer_size_of-size.ensures.is, ← c.word_at-mask.ensures.value) c.store_onto.ensures))
