use Rattle.mixed_machine.proofs.Crossings.{count-begins, count-goes_on, count-exits, count-faults, count-limit}
use Rattle.mixed_machine.proofs.laws.crossing_laws.Goals as goal

pub returns : goal.returns
returns c =
    record {
      begins = count-begins;
      goes_on = count-goes_on;
      exits = count-exits;
      faults = count-faults;
      limit = count-limit;
    }
