-- What a run begins with, and what it leaves.
use Rattle.slice_runs.proofs.Starting.{output-empty}
use Rattle.slice_runs.proofs.steps.advance_among.Goals as goal

pub returns-clause-ran : goal.returns-clause-ran
returns-clause-ran g c =
    λ input left.
    record {
      next = _;
      stop = _;
      before = _;
      after = _;
      first = _;
      last = _;
      begins = record {
        left = left;
        faults = c.requires.faults;
        rack = c.requires.rack;
        put = output-empty _ _ c.requires.out;
      };
      blank = output-empty _ _ c.requires.trace;
      run = c.run_counted-stop.ensures.run;
      blames = c.run_counted-stop.ensures.blames;
      devices = c.run_counted-stop.ensures.devices;
      put = c.copy_to-told.ensures.shows;
      traced = c.copy_to-told-2.ensures.shows;
      has_spelling = c.keep_machine.ensures.spelled;
      saved = c.keep_machine.ensures.kept;
    }

pub returns-clause-within : goal.returns-clause-within
returns-clause-within g c =
    record { put = c.copy_to-told.ensures.within; traced = c.copy_to-told-2.ensures.within; saved = c.keep_machine.ensures.within }
