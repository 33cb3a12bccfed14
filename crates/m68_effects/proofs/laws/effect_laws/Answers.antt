use Rattle.m68_effects.proofs.Twice.{exchanges_back, swaps_back}
use Rattle.m68_effects.proofs.Called.{returns_at_once, returns_behind, unlinks, unlinks_at_once}
use Rattle.m68_effects.proofs.Restored.{restores_longs, restores_words}
use Rattle.m68_effects.proofs.Pushed.{pops_address, pops_data, pops_effective}
use Rattle.m68_effects.proofs.laws.effect_laws.Goals as goal

pub returns : goal.returns
returns c = record {
  exchanged = exchanges_back;
  swapped = swaps_back;
  moved = pops_data;
  moved_address = pops_address;
  effective = pops_effective;
  at_once = returns_at_once;
  returned = returns_behind;
  unlinked_at_once = unlinks_at_once;
  unlinked = unlinks;
  longs = restores_longs;
  words = restores_words;
}
