-- The operation of a word: that of its row of the table (PowerPC 601 RISC Microprocessor User's Manual, chapter 10 and
-- appendix A).
use Rattle.std.specs.Prelude.{ℕ, List, [], ◌∷◌, if◌then◌else◌}
use Rattle.ppc_isa.specs.declared.fields.Fields.{Fields}
use Rattle.ppc_isa.specs.declared.op.OpPpc.{OpPpc}
use Rattle.ppc_isa.specs.declared.op.OpPpc.TheVariants.{Twi, Mulli, Subfic, Cmpli, Cmpi, Addic, AddicRecord, Addi, Addis, Bc, B, Rlwimi, Rlwinm, Rlwnm, Ori, Oris, Xori, Xoris, Andi, Andis, Lwz, Lwzu, Lbz, Lbzu, Stw, Stwu, Stb, Stbu, Lhz, Lhzu, Lha, Lhau, Sth, Sthu, Lmw, Stmw, Mcrf, Bclr, Crnor, Crandc, Isync, Crxor, Crnand, Crand, Creqv, Crorc, Cror, Bcctr, Cmp, Tw, Subfc, Addc, Mulhwu, Mfcr, Lwzx, Slw, Cntlzw, And, Cmpl, Subf, Lwzux, Andc, Mulhw, Lbzx, Neg, Lbzux, Nor, Subfe, Adde, Mtcrf, Stwx, Stwux, Subfze, Addze, Stbx, Subfme, Addme, Mullw, Stbux, Add, Lhzx, Eqv, Lhzux, Xor, Mfxer, Mflr, Mfctr, Lhax, Lhaux, Sthx, Orc, Sthux, Or, Divwu, Mtxer, Mtlr, Mtctr, Nand, Divw, Mcrxr, Lswx, Lwbrx, Srw, Lswi, Sync, Stswx, Stwbrx, Stswi, Lhbrx, Sraw, Srawi, Sthbrx, Extsh, Extsb, Invalid}
use Rattle.ppc_isa.specs.Fields.{fields_of}
use Rattle.ppc_isa.specs.Rows.{Row, is_allowed, is_in, table}

-- the operations in the order of the table's rows
abbrev pub operations : List OpPpc
operations =
    Twi ∷ Mulli ∷ Subfic ∷ Cmpli ∷ Cmpi ∷ Addic ∷ AddicRecord ∷ Addi ∷ Addis ∷ Bc ∷ B ∷ Mcrf ∷ Bclr ∷ Crnor ∷
    Crandc ∷ Isync ∷ Crxor ∷ Crnand ∷ Crand ∷ Creqv ∷ Crorc ∷ Cror ∷ Bcctr ∷ Rlwimi ∷ Rlwinm ∷ Rlwnm ∷ Ori ∷ Oris ∷
    Xori ∷ Xoris ∷ Andi ∷ Andis ∷ Cmp ∷ Tw ∷ Subfc ∷ Addc ∷ Mulhwu ∷ Mfcr ∷ Lwzx ∷ Slw ∷ Cntlzw ∷ And ∷ Cmpl ∷ Subf ∷
    Lwzux ∷ Andc ∷ Mulhw ∷ Lbzx ∷ Neg ∷ Lbzux ∷ Nor ∷ Subfe ∷ Adde ∷ Mtcrf ∷ Stwx ∷ Stwux ∷ Subfze ∷ Addze ∷ Stbx ∷
    Subfme ∷ Addme ∷ Mullw ∷ Stbux ∷ Add ∷ Lhzx ∷ Eqv ∷ Lhzux ∷ Xor ∷ Mfxer ∷ Mflr ∷ Mfctr ∷ Lhax ∷ Lhaux ∷ Sthx ∷
    Orc ∷ Sthux ∷ Or ∷ Divwu ∷ Mtxer ∷ Mtlr ∷ Mtctr ∷ Nand ∷ Divw ∷ Mcrxr ∷ Lswx ∷ Lwbrx ∷ Srw ∷ Lswi ∷ Sync ∷
    Stswx ∷ Stwbrx ∷ Stswi ∷ Lhbrx ∷ Sraw ∷ Srawi ∷ Sthbrx ∷ Extsh ∷ Extsb ∷ Lwz ∷ Lwzu ∷ Lbz ∷ Lbzu ∷ Stw ∷ Stwu ∷
    Stb ∷ Stbu ∷ Lhz ∷ Lhzu ∷ Lha ∷ Lhau ∷ Sth ∷ Sthu ∷ Lmw ∷ Stmw ∷ []

-- the operation of the row that a word is in; Invalid, where it is in none, or not allowed there
abbrev pub operation_among : List Row → List OpPpc → Fields → OpPpc
operation_among [] ops f = Invalid
operation_among (r ∷ rows) [] f = Invalid
operation_among (r ∷ rows) (op ∷ ops) f = if is_in r f then (if is_allowed r f then op else Invalid) else operation_among rows ops f

-- the operation of a word
unfoldable pub operation : ℕ → OpPpc
operation w = operation_among table operations (fields_of w)
