use Rattle.mix_debug.proofs.Differ.{runs_are_maximal, undoes}
use Rattle.mix_debug.proofs.Trips.{fitting_is_longest, lists_lead, trips_return}
use Rattle.mix_debug.proofs.laws.history_laws.Goals as goal

pub returns : goal.returns
returns c = record { undoes = undoes; maximal = runs_are_maximal; longest = fitting_is_longest; lists = lists_lead; returns = trips_return }
