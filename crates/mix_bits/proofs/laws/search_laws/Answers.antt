use Rattle.mix_bits.proofs.Searches.{fails_below, least_at, least_first, least_none, none_counted}
use Rattle.mix_bits.proofs.laws.search_laws.Goals as goal

pub returns : goal.returns
returns c = record {
  first = least_at;
  none = least_none;
  behind = least_first;
  fails = fails_below;
  counted = none_counted;
}
