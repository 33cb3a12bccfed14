use Rattle.mix_image.proofs.Finishing.{only-spelled, spelled-restored, whole-restored}
use Rattle.mix_image.proofs.restored.restore.Goals as goal

pub returns-clause-whole : goal.returns-clause-whole
returns-clause-whole c = whole-restored c.args.bytes.now c.restore_tested.result c.are_bytes.ensures c.restore_tested.ensures

pub returns-clause-spelled : goal.returns-clause-spelled
returns-clause-spelled c = spelled-restored c.args.bytes.now c.restore_tested.result c.are_bytes.ensures c.restore_tested.ensures

pub returns-clause-only : goal.returns-clause-only
returns-clause-only c = λ m has is. only-spelled c.args.bytes.now m c.restore_tested.result has is c.restore_tested.ensures
