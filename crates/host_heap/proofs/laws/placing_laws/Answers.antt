use Rattle.host_heap.proofs.Appending.{last_tells}
use Rattle.host_heap.proofs.Fits.{places_are_tested}
use Rattle.host_heap.proofs.Keeps.{freed-none, none_begins}
use Rattle.host_heap.proofs.Placing.{freeing_undoes_placing, placing_appends, placing_keeps_sound, placing_undoes_freeing, taking_places}
use Rattle.host_heap.proofs.laws.placing_laws.Goals as goal

pub returns : goal.returns
returns c = record {
  tests = places_are_tested;
  begins = none_begins;
  sound = placing_keeps_sound;
  appends = placing_appends;
  last = last_tells;
  taking = taking_places;
  freeing = freeing_undoes_placing;
  again = placing_undoes_freeing;
  nothing = freed-none;
}
