-- Suspended callers as records, and the image of a record: a list of longs.
use Rattle.std.specs.Prelude.{ℕ, ◌+◌, List, [], ◌∷◌, ◌++◌}
use Rattle.mix_bits.specs.declared.isa.Isa.{Isa}
use Rattle.mix_bits.specs.declared.isa.Isa.TheVariants.{M68 as set_m68, Ppc as set_ppc}
use Rattle.m68_isa.specs.declared.registers.Regs68.{Regs68}
use Rattle.m68_isa.specs.Registers.{ccr_of}
use Rattle.m68_isa.specs.Longs.{longs_of as longs_of_m68}
use Rattle.ppc_isa.specs.declared.registers.RegsPpc.{RegsPpc}
use Rattle.ppc_isa.specs.Longs.{longs_of as longs_of_ppc}
use Rattle.big_memory.specs.Numbers.{long_at, longs_at, bytes_of_longs}
use Rattle.switch_frame.specs.declared.active.Active.{Active}
use Rattle.switch_frame.specs.declared.active.Active.TheVariants.{M68, Ppc}
use Rattle.switch_frame.specs.declared.kind.Kind.{Kind}
use Rattle.switch_frame.specs.Sets.{caller_isa, kind_code, kind_told}

-- a suspended caller: its registers, what it called, where its frame lies, and the stack pointer at which the
-- callee is expected to return
pub record Record : Type 0 where
  pub kind : Kind
  pub caller : Active
  pub info : ℕ
  pub selector : ℕ
  pub target : ℕ
  pub lo : ℕ
  pub hi : ℕ
  pub want : ℕ

-- the instruction set of a register file
abbrev pub isa_of : Active → Isa
isa_of (M68 file) = set_m68
isa_of (Ppc file) = set_ppc

-- the longs of a register file
abbrev pub longs_of_file : Active → List ℕ
longs_of_file (M68 file) = longs_of_m68 file
longs_of_file (Ppc file) = longs_of_ppc file

-- the longs before them in a frame: the lo of the next outer frame, the record, and how many frames are live with
-- this one
abbrev pub head_of : Record → ℕ → ℕ → List ℕ
head_of r outer depth = outer ∷ kind_code r.kind ∷ r.info ∷ r.selector ∷ r.target ∷ r.hi ∷ r.want ∷ depth ∷ []

-- the zeros behind them, which fill the frame up to a multiple of 16 bytes
abbrev pub fill_of : Isa → List ℕ
fill_of set_m68 = 0 ∷ 0 ∷ []
fill_of set_ppc = 0 ∷ 0 ∷ 0 ∷ []

-- the bytes of a frame: its longs
abbrev pub image : Record → ℕ → ℕ → List ℕ
image r outer depth = bytes_of_longs (head_of r outer depth ++ (longs_of_file r.caller ++ fill_of (isa_of r.caller)))

-- the register file whose longs stand at an address
abbrev pub m68_at : ℕ → List ℕ → Regs68
m68_at a bytes =
    record { d = longs_at 8 a bytes; a = longs_at 8 (a + 32) bytes; pc = long_at (a + 64) bytes; ccr = ccr_of (long_at (a + 68) bytes) }

abbrev pub ppc_at : ℕ → List ℕ → RegsPpc
ppc_at a bytes =
    record { gpr = longs_at 32 a bytes; cr = long_at (a + 128) bytes; lr = long_at (a + 132) bytes; ctr = long_at (a + 136) bytes; xer = long_at (a + 140) bytes; pc = long_at (a + 144) bytes }

abbrev pub file_at : Isa → ℕ → List ℕ → Active
file_at set_m68 a bytes = M68 (m68_at a bytes)
file_at set_ppc a bytes = Ppc (ppc_at a bytes)

-- the record whose frame begins at an address
abbrev pub record_at : ℕ → List ℕ → Record
record_at lo bytes =
    record {
      kind = kind_told (long_at (lo + 4) bytes);
      caller = file_at (caller_isa (kind_told (long_at (lo + 4) bytes))) (lo + 32) bytes;
      info = long_at (lo + 8) bytes;
      selector = long_at (lo + 12) bytes;
      target = long_at (lo + 16) bytes;
      lo = lo;
      hi = long_at (lo + 20) bytes;
      want = long_at (lo + 24) bytes;
    }
