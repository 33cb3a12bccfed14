-- The output failed at the text.
use Rattle.mix_main.proofs.Printed.{puts_broke}
use Rattle.mix_main.proofs.answers.print.Goals as goal

pub returns-in-Err : goal.returns-in-Err
returns-in-Err g c =
    puts_broke _ _ _ _ c.as_bytes.ensures.value
    (record { kept = c.in-Err.ensures.bytes.0; within = c.in-Err.ensures.bytes.1; taken = c.in-Err.ensures.bytes.2; rose = c.in-Err.ensures.cause.failed })
