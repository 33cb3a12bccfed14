-- The line is that of the refusal, or of want of memory.
use Rattle.mix_top.specs.Continuing.{image_refusal}
use Rattle.mix_top.proofs.Ways.{closes-line, closes-memory}
use Rattle.mix_top.proofs.close.close_unrestored.Goals as goal

pub returns-in-Some : goal.returns-in-Some
returns-in-Some g c = closes-line (image_refusal c.args.error) _ _ _ _ _ c.in-Some.ensures c.bytes.ensures c.close.ensures

pub returns-in-None : goal.returns-in-None
returns-in-None g c = closes-memory (image_refusal c.args.error) _ _ _ c.in-None.ensures c.close_without_memory.ensures
