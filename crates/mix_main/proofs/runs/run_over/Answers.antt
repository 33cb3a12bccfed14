-- What a call begins with, and what it leaves.
use Rattle.std.proofs.Common.{refl}
use Rattle.mix_main.proofs.runs.run_over.Goals as goal

pub returns : goal.returns
returns g c =
    record {
      before = _;
      after = _;
      begins = record {
        files = refl;
        shelf = c.new-shelf.ensures.faults;
        excesses = c.new-shelf.ensures.excesses;
        left = refl;
        input = refl;
        rack = refl;
        out = refl;
        trace = refl;
        kept = refl;
        keep = c.new-keep.ensures;
      };
      ends = c.mixed_main.ensures;
      out = refl;
      trace = refl;
    }
