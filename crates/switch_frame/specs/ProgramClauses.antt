-- What a loaded program meets.
use Rattle.std.specs.Prelude.{◌≡◌, ℕ, false, length, slice_index_or}
use Rattle.big_memory.specs.Memory.{IsRam}
use Rattle.switch_frame.specs.declared.program.Program.{Program}
use Rattle.switch_frame.specs.Records.{isa_of}
use Rattle.switch_frame.specs.Program.{HasGatePage, start_sp_of, HasHeap}

pub record IsProgram (p : Program) : Type 0 where
  pub ram : IsRam p.ram
  pub unguarded : (unit : ℕ) → slice_index_or p.ram.marks unit false ≡ false
  pub page : HasGatePage p.a5 p.ram.bytes
  pub set : isa_of p.active ≡ p.main
  pub start : p.start_sp ≡ start_sp_of p.main (length p.ram.bytes)
  pub heap : HasHeap p.heap_lo p.heap_hi p.ram
