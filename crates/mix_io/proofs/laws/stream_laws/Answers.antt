use Rattle.mix_io.proofs.Streams.{grows-none, grows-more, breaks-after}
use Rattle.mix_io.proofs.laws.stream_laws.Goals as goal

pub returns : goal.returns
returns c = record { nothing = grows-none; grows = grows-more; breaks = breaks-after }
