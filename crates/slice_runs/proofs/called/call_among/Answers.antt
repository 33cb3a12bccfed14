-- What a call begins with, and what it leaves.
use Rattle.std.proofs.Common.{refl}
use Rattle.slice_runs.specs.Called.Called.{called}
use Rattle.slice_runs.proofs.Starting.{faults-empty, kept-empty, output-empty}
use Rattle.slice_runs.proofs.called.call_among.Goals as goal

pub returns-clause-called : goal.returns-clause-called
returns-clause-called g c =
    λ files input told left.
    called _ _ c.mixed_main_counted-ending.result refl refl
    (record {
      contents = told;
      shelf = c.requires.shelf;
      excesses = c.requires.excesses;
      left = left;
      faults = c.requires.faults;
      rack = c.requires.rack;
      put = output-empty _ _ c.requires.out;
      traced = output-empty _ _ c.requires.trace;
      saved = kept-empty _ _ c.requires.kept;
      keep = faults-empty _ _ c.requires.kept;
    })
    c.mixed_main_counted-ending.ensures
    (record { put = c.copy_to-told.ensures.shows; traced = c.copy_to-told-2.ensures.shows; saved = c.copy_to-told-3.ensures.shows })

pub returns-clause-within : goal.returns-clause-within
returns-clause-within g c =
    record { put = c.copy_to-told.ensures.within; traced = c.copy_to-told-2.ensures.within; saved = c.copy_to-told-3.ensures.within }
