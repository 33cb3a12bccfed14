-- The output failed at the line.
use Rattle.mix_top.proofs.Counting.{puts-broke}
use Rattle.mix_top.proofs.sampling.put_line.Goals as goal

pub returns-in-Err : goal.returns-in-Err
returns-in-Err g c =
    puts-broke _ _ _ _ c.args.status c.bytes.ensures
    (record { kept = c.in-Err.ensures.bytes.0; within = c.in-Err.ensures.bytes.1; taken = c.in-Err.ensures.bytes.2; rose = c.in-Err.ensures.cause.failed })
