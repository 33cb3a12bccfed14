-- What holds while files are loaded.
use Rattle.std.specs.Prelude.{◌≡◌, ℕ, ◌+◌, ◌≤◌, false, length, take, slice_index_or}
use Rattle.big_memory.specs.Memory.{floor_of}
use Rattle.switch_frame.specs.Program.{program_start, blank}
use Rattle.mix_load.specs.declared.image.Image.{Image}
use Rattle.mix_bits.specs.Multiples.{rounded_up}

-- what is loaded so far stands from the program's start on and below the stack's floor, and guards nothing
pub record IsImage (image : Image) : Type 0 where
  pub unguarded : (unit : ℕ) → slice_index_or image.ram.marks unit false ≡ false
  pub front : (n : ℕ) → n ≤ program_start → take n image.ram.bytes ≡ blank n
  pub behind : program_start ≤ image.end
  pub room : rounded_up 16 image.end ≤ floor_of image.ram
  pub vector : image.vector + 8 ≤ length image.ram.bytes
