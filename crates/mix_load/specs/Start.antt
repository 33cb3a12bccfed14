-- The state in which a program starts.
use Rattle.std.specs.Prelude.{ℕ, ◌+◌, ◌-◌, ◌==◌, if◌then◌else◌, List, [], ◌∷◌, length, slice_set}
use Rattle.mix_bits.specs.declared.isa.Isa.{Isa}
use Rattle.mix_bits.specs.declared.isa.Isa.TheVariants.{M68 as set_m68, Ppc as set_ppc}
use Rattle.m68_isa.specs.declared.registers.Regs68.{Regs68}
use Rattle.m68_isa.specs.Registers.{cleared_registers as cleared_m68}
use Rattle.ppc_isa.specs.declared.registers.RegsPpc.{RegsPpc}
use Rattle.ppc_isa.specs.Registers.{cleared_registers as cleared_ppc}
use Rattle.big_memory.specs.Memory.{Memory, floor_of}
use Rattle.big_memory.specs.Numbers.{long_at}
use Rattle.switch_frame.specs.declared.active.Active.{Active}
use Rattle.switch_frame.specs.declared.active.Active.TheVariants.{M68, Ppc}
use Rattle.switch_frame.specs.declared.program.Program.{Program}
use Rattle.switch_frame.specs.Pieces.{Piece, long_piece}
use Rattle.switch_frame.specs.Program.{program_start, gate_longs, start_sp_of}
use Rattle.big_memory.specs.Map.{exit_gate}
use Rattle.mix_load.specs.declared.image.Image.{Image}
use Rattle.mix_bits.specs.Multiples.{rounded_up}
use Rattle.mix_load.specs.Pieces.{with_pieces}

-- PowerPC code starts as its main vector says: at a code address, and with a TOC. A flat file has no vector: it starts
-- at its first byte, with 0 for the TOC
abbrev pub code_of : Image → ℕ
code_of image = if image.vector == 0 then program_start else long_at image.vector image.ram.bytes

abbrev pub toc_of : Image → ℕ
toc_of image = if image.vector == 0 then 0 else long_at (image.vector + 4) image.ram.bytes

-- 68K code has its A5, and its stack pointer at the address to which it returns
abbrev pub start_m68 : Image → ℕ → Regs68
start_m68 image len =
    record cleared_m68 {
      a = slice_set (slice_set cleared_m68.a 5 image.a5) 7 (len - 4);
      pc = image.entry;
    }

-- PowerPC code has its stack pointer, its TOC, and the address to which it returns
abbrev pub start_ppc : Image → ℕ → RegsPpc
start_ppc image len =
    record cleared_ppc {
      gpr = slice_set (slice_set cleared_ppc.gpr 1 (start_sp_of set_ppc len)) 2 (toc_of image);
      lr = exit_gate set_ppc;
      pc = code_of image;
    }

abbrev pub start_file : Isa → Image → ℕ → Active
start_file set_m68 image len = M68 (start_m68 image len)
start_file set_ppc image len = Ppc (start_ppc image len)

-- on top of the stack of 68K code stands the address to which it returns
abbrev pub stack_pieces : Isa → ℕ → List Piece
stack_pieces set_m68 len = long_piece (len - 4) (exit_gate set_m68) ∷ []
stack_pieces set_ppc len = []

abbrev pub start_memory : Isa → Image → ℕ → Memory
start_memory main image len =
    with_pieces (stack_pieces main len) (with_pieces (gate_longs image.entry image.vector image.a5 len) image.ram)

-- the program as it starts
abbrev pub program_of : Isa → Image → Program
program_of main image =
    record {
      ram = start_memory main image (length image.ram.bytes);
      active = start_file main image (length image.ram.bytes);
      a5 = image.a5;
      main = main;
      start_sp = start_sp_of main (length image.ram.bytes);
      heap_lo = rounded_up 16 image.end;
      heap_hi = floor_of image.ram;
    }
