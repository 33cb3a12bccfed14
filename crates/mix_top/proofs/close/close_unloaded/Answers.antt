-- The line is that of the refusal, or of want of memory.
use Rattle.mix_top.specs.Lines.{load_refusal}
use Rattle.mix_top.proofs.Ways.{closes-line, closes-memory}
use Rattle.mix_top.proofs.close.close_unloaded.Goals as goal

pub returns-in-Some : goal.returns-in-Some
returns-in-Some g c = closes-line (load_refusal c.args.error) _ _ _ _ _ c.in-Some.ensures c.bytes.ensures c.close.ensures

pub returns-in-None : goal.returns-in-None
returns-in-None g c = closes-memory (load_refusal c.args.error) _ _ _ c.in-None.ensures c.close_without_memory.ensures
