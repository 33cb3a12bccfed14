use Rattle.big_memory.proofs.Numbers.{bytes_join, four-longs, length_of_bytes, length_of_longs, loads_long, loads_number, long_fits, long_in_part, long_of_longs, long_of_part, long_reads_back, longs_again, longs_fit, longs_of_part, longs-split, number_in_part, same_from, writes_join}
use Rattle.big_memory.proofs.laws.number_laws.Goals as goal

pub returns : goal.returns
returns c = record {
  number = number_in_part;
  long = long_in_part;
  loads = loads_number;
  loads_long = loads_long;
  reads_back = long_reads_back;
  each = long_of_longs;
  count = length_of_longs;
  length = length_of_bytes;
  joins = bytes_join;
  one = long_of_part;
  several = longs_of_part;
  writes = writes_join;
  fits = long_fits;
  fit = longs_fit;
  again = longs_again;
  splits = longs-split;
  four = four-longs;
  same = same_from;
}
