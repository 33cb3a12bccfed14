-- All bytes were put, or a beginning of them.
use Rattle.mix_top.proofs.Ways.{put-part, put-whole}
use Rattle.mix_top.proofs.assemble.put_bytes.Goals as goal

pub returns-in-Ok : goal.returns-in-Ok
returns-in-Ok g c = put-whole c.args.set c.args.at c.args.text.now _ _ c.in-Ok.ensures.whole

pub returns-in-Err : goal.returns-in-Err
returns-in-Err g c = put-part c.args.set c.args.at c.args.text.now _ _ c.in-Err.ensures.part
