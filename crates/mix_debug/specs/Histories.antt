-- What is kept beside a machine.
use Rattle.std.specs.Prelude.{◌≡◌, ◌≤◌, length, All, vec_capacity}
use Rattle.host_heap.specs.Space.{block_limit}
use Rattle.host_heap.specs.Sound.{IsSound as IsSoundHeap}
use Rattle.mix_engine.specs.declared.machine.Machine.{Machine}
use Rattle.mix_debug.specs.declared.history.History.{History}
use Rattle.mix_debug.specs.Entries.{IsEntry}
use Rattle.mix_debug.specs.Pasts.{IsPast, entries_in}
use Rattle.mix_debug.specs.Machines.{IsSound, earlier}

-- all that is kept beside a whole machine fits it, and each machine before a step that is kept is whole
pub record IsHistory (m : Machine) (h : History) : Type 0 where
  pub whole : IsSound m
  pub copied : h.copy.items ≡ m.body.ram.bytes
  pub blocks : h.blocks.items ≡ m.body.heap.blocks
  pub heap : IsSoundHeap m.body.heap
  pub room : block_limit ≤ vec_capacity h.blocks
  pub past : IsPast h.past
  pub entries : All (IsEntry (length m.body.ram.bytes)) (entries_in h.past)
  pub wholes : All (λ k. IsSound k.machine) (earlier m (entries_in h.past))
