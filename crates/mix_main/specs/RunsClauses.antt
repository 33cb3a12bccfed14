-- The two outputs of a call, put together.
use Rattle.mix_io.specs.Streams.{Output}
use Rattle.mix_main.specs.Runs.{Outputs}

abbrev pub outputs : Output → Output → Outputs
outputs out trace =
    record {
      out = out;
      trace = trace;
    }
