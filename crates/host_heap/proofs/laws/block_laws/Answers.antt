use Rattle.host_heap.proofs.InUse.{freed_bytes_are_there, freeing_takes_one, takes_free_bytes, taking_adds_one}
use Rattle.host_heap.proofs.laws.block_laws.Goals as goal

pub returns : goal.returns
returns c = record {
  bytes = takes_free_bytes;
  taking = taking_adds_one;
  freeing = freeing_takes_one;
  again = freed_bytes_are_there;
}
