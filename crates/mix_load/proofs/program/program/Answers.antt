use Rattle.std.proofs.Common.{◌∙◌, arith}
use Rattle.mix_load.proofs.Starts.{program-is, program-loaded}
use Rattle.mix_load.proofs.program.program.Goals as goal

pub returns-clause-is : goal.returns-clause-is
returns-clause-is c =
    program-is c.args.main c.args.image c.put_gate_page.new.ram c.put_stack.new.ram c.start_file-active.result c.start_sp_of.result c.round_up.result c.floor-hi.result c.len-len.result c.len-whole.result
    c.len-len.ensures.len c.put_gate_page.ensures.memory c.put_stack.ensures.memory c.start_file-active.ensures
    (c.len-whole.ensures.len ∙ (c.put_stack.ensures.len ∙ (c.put_gate_page.ensures.len ∙ (omega (arith, c.len-len.ensures.len)))))
    c.start_sp_of.ensures c.round_up.ensures.is c.floor-hi.ensures

pub returns-clause-loaded : goal.returns-clause-loaded
returns-clause-loaded c =
    program-loaded c.args.main c.args.image _
    (program-is c.args.main c.args.image c.put_gate_page.new.ram c.put_stack.new.ram c.start_file-active.result c.start_sp_of.result c.round_up.result c.floor-hi.result c.len-len.result c.len-whole.result
    c.len-len.ensures.len c.put_gate_page.ensures.memory c.put_stack.ensures.memory c.start_file-active.ensures
    (c.len-whole.ensures.len ∙ (c.put_stack.ensures.len ∙ (c.put_gate_page.ensures.len ∙ (omega (arith, c.len-len.ensures.len)))))
    c.start_sp_of.ensures c.round_up.ensures.is c.floor-hi.ensures)
    c.put_gate_page.ensures.fits c.len-len.ensures.whole.least c.requires c.len-whole.ensures.whole
