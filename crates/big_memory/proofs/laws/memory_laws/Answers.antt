use Rattle.big_memory.proofs.Guarded.{passes_within, keeps_refusals, loads_back, passes, refusal-none, free_from_test, test_from_free}
use Rattle.big_memory.proofs.Rams.{loads_part, in_memory_within, bytes_keep_ram, marks_keep_ram, marks_of_range, open_below_floor, stay_beside}
use Rattle.big_memory.proofs.Free.{nothing_free, free_joins, stores_free, done_free, copies_free, free_ram, free_refusals, free_page, same_part}
use Rattle.big_memory.proofs.Longs.{probe-err, probe-ok, size-bytes, size-there, stored_loads}
use Rattle.big_memory.proofs.laws.memory_laws.Goals as goal

pub returns : goal.returns
returns c = record {
  within = passes_within;
  stays = keeps_refusals;
  reads_back = loads_back;
  loads = loads_part;
  inside = in_memory_within;
  bytes = bytes_keep_ram;
  marks = marks_keep_ram;
  marked = marks_of_range;
  passes = passes;
  passing = refusal-none;
  tests = free_from_test;
  tested = test_from_free;
  below = open_below_floor;
  nothing = nothing_free;
  joins = free_joins;
  stores = stores_free;
  done = done_free;
  copies = copies_free;
  ram = free_ram;
  refusals = free_refusals;
  page = free_page;
  beside = stay_beside;
  stored = stored_loads;
  size = size-bytes;
  there = size-there;
  probe_passes = probe-ok;
  probe_refuses = probe-err;
  same = same_part;
}
