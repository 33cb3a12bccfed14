use Rattle.switch_frame.specs.declared.active.Active.TheVariants.{Ppc}
use Rattle.mix_engine.proofs.Advancing.{only-one}
use Rattle.mix_engine.proofs.code.once_ppc.Goals as goal

pub returns : goal.returns
returns c =
    only-one c.advance_ppc.new.left c.advance_ppc.result c.advance_ppc.new.fault (Ppc c.args.regs.now) (Ppc c.advance_ppc.new.regs) c.args.body.now c.advance_ppc.new.body
    c.advance_ppc.ensures.some c.advance_ppc.ensures.fewer c.advance_ppc.ensures.codes
