-- The spelling of a machine: longs, most significant byte first, and then each 1024 bytes of RAM.
use Rattle.std.specs.Prelude.{ℕ, zero, suc, ◌*◌, ◌/◌, ◌^◌, ◌<◌, ◌==◌, Bool, if◌then◌else◌, List, [], ◌∷◌, ◌++◌, length}
use Rattle.std.specs.List.{list_all}
use Rattle.mix_bits.specs.declared.isa.Isa.{Isa}
use Rattle.mix_bits.specs.declared.isa.Isa.TheVariants.{M68, Ppc}
use Rattle.big_memory.specs.Lists.{part}
use Rattle.big_memory.specs.Numbers.{AreBytes, bytes_of_longs}
use Rattle.host_heap.specs.declared.block.Block.{Block}
use Rattle.host_heap.specs.Sound.{IsSound}
use Rattle.switch_frame.specs.Chain.{IsFile}
use Rattle.switch_frame.specs.Records.{isa_of, longs_of_file}
use Rattle.mixed_machine.specs.Machine.{IsWhole}
use Rattle.mix_engine.specs.declared.machine.Machine.{Machine}

-- the first two longs, which are the text MIXIMG01
abbrev pub mark_first : ℕ
mark_first = 0x4D495849

abbrev pub mark_second : ℕ
mark_second = 0x4D473031

-- the number of an instruction set
abbrev pub set_number : Isa → ℕ
set_number M68 = 0
set_number Ppc = 1

-- how many KiB of RAM there are, what the program was loaded with, and how many blocks the heap has
abbrev pub head_longs : Machine → List ℕ
head_longs m =
    mark_first ∷ mark_second ∷ (length m.body.ram.bytes / 1024) ∷ m.body.a5 ∷ set_number m.body.main ∷ m.body.start_sp ∷ m.body.heap.low ∷ m.body.heap.high ∷ length m.body.heap.blocks ∷ []

-- address and size of each block
abbrev pub block_longs : List Block → List ℕ
block_longs [] = []
block_longs (b ∷ bs) = b.address ∷ b.size ∷ block_longs bs

-- where the innermost frame begins, and the registers of the active set
abbrev pub tail_longs : Machine → List ℕ
tail_longs m = m.body.top ∷ set_number (isa_of m.active) ∷ longs_of_file m.active

abbrev pub longs_of : Machine → List ℕ
longs_of m = head_longs m ++ (block_longs m.body.heap.blocks ++ tail_longs m)

-- whether all bytes are 0
abbrev pub is_blank : List ℕ → Bool
is_blank bytes = list_all (λ byte. byte == 0) bytes

-- 1024 bytes: one byte 0 where all of them are, else a byte 1 and the bytes
abbrev pub page : List ℕ → List ℕ
page bytes = if is_blank bytes then 0 ∷ [] else 1 ∷ bytes

-- the first n pages of RAM
unfoldable pub pages : ℕ → List ℕ → List ℕ
pages zero memory = []
pages (suc n) memory = pages n memory ++ page (part (1024 * n) 1024 memory)

unfoldable pub spell : Machine → List ℕ
spell m = bytes_of_longs (longs_of m) ++ pages (length m.body.ram.bytes / 1024) m.body.ram.bytes

-- a machine whose parts are what every heap, every memory and every long of a machine is, and which is whole
pub record HasSpelling (m : Machine) : Type 0 where
  pub whole : IsWhole m.body (isa_of m.active)
  pub bytes : AreBytes m.body.ram.bytes
  pub a5 : m.body.a5 < 2 ^ 32
  pub file : IsFile m.active
  pub sound : IsSound m.body.heap
