-- The event of the definition is exactly that of the line.
use Rattle.trace_lines.proofs.Exact.{reads_exactly}
use Rattle.trace_lines.proofs.read.read_event.Goals as goal

pub returns : goal.returns
returns c = record { exact = reads_exactly _ _ c.read_text.ensures }
