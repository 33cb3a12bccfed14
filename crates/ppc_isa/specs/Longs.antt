-- A register file as its 37 longs: r0 to r31, CR, LR, CTR, XER and the pc, in an order that is this project's own.
use Rattle.std.specs.Prelude.{ℕ, List, [], ◌∷◌, ◌++◌, take, slice_index}
use Rattle.ppc_isa.specs.declared.registers.RegsPpc.{RegsPpc}

abbrev pub longs_of : RegsPpc → List ℕ
longs_of file = file.gpr ++ (file.cr ∷ file.lr ∷ file.ctr ∷ file.xer ∷ file.pc ∷ [])

-- the register file of a list of longs
abbrev pub file_of : List ℕ → RegsPpc
file_of longs =
    record {
      gpr = take 32 longs;
      cr = slice_index longs 32;
      lr = slice_index longs 33;
      ctr = slice_index longs 34;
      xer = slice_index longs 35;
      pc = slice_index longs 36;
    }
