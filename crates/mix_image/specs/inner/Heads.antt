-- What every head that is read meets.
use Rattle.std.specs.Prelude.{◌≡◌, ◌*◌, ◌%◌, ◌≤◌}
use Rattle.switch_frame.specs.Program.{start_sp_of}
use Rattle.host_heap.specs.Space.{block_limit}
use Rattle.mix_image.specs.declared.head.Head.{Head}

pub record IsHead (head : Head) : Type 0 where
  pub least : 128 ≤ head.kib
  pub most : head.kib ≤ 16384
  pub start : head.start_sp ≡ start_sp_of head.main (1024 * head.kib)
  pub aligned : head.low % 16 ≡ 0
  pub behind : 65536 ≤ head.low
  pub ordered : head.low ≤ head.high
  pub whole : head.high ≡ 768 * head.kib
  pub few : head.count ≤ block_limit
