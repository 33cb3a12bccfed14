use Rattle.mix_load.proofs.Placed.{container-gives, container-refuses}
use Rattle.mix_load.proofs.container.add_container.Goals as goal

pub returns-in-Ok-clause-is : goal.returns-in-Ok-clause-is
returns-in-Ok-clause-is c =
    container-gives c.args.main c.args.bytes.now _ c.args.image c.add_sections.result c.in-Ok.ensures.refusal c.in-Ok.ensures.same c.add_sections.ensures.is

pub returns-in-Err-clause-is : goal.returns-in-Err-clause-is
returns-in-Err-clause-is c = λ real. container-refuses c.args.main c.args.bytes.now c.args.image c.in-Err.e c.in-Err.ensures.refusal
