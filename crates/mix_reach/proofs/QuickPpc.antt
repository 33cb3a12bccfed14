-- Where an instruction of PowerPC code stores, by its operation.
use Rattle.std.proofs.Common.{◌≡◌, refl}
use Rattle.ppc_isa.specs.declared.registers.RegsPpc.{RegsPpc}
use Rattle.ppc_isa.specs.declared.fields.Fields.{Fields}
use Rattle.ppc_isa.specs.declared.op.OpPpc.{OpPpc}
use Rattle.ppc_isa.specs.declared.op.OpPpc.TheVariants.{Twi, Mulli, Subfic, Cmpli, Cmpi, Addic, AddicRecord, Addi, Addis, Bc, B, Rlwimi, Rlwinm, Rlwnm, Ori, Oris, Xori, Xoris, Andi, Andis, Lwz, Lwzu, Lbz, Lbzu, Stw, Stwu, Stb, Stbu, Lhz, Lhzu, Lha, Lhau, Sth, Sthu, Lmw, Stmw, Mcrf, Bclr, Crnor, Crandc, Isync, Crxor, Crnand, Crand, Creqv, Crorc, Cror, Bcctr, Cmp, Tw, Subfc, Addc, Mulhwu, Mfcr, Lwzx, Slw, Cntlzw, And, Cmpl, Subf, Lwzux, Andc, Mulhw, Lbzx, Neg, Lbzux, Nor, Subfe, Adde, Mtcrf, Stwx, Stwux, Subfze, Addze, Stbx, Subfme, Addme, Mullw, Stbux, Add, Lhzx, Eqv, Lhzux, Xor, Mfxer, Mflr, Mfctr, Lhax, Lhaux, Sthx, Orc, Sthux, Or, Divwu, Mtxer, Mtlr, Mtctr, Nand, Divw, Mcrxr, Lswx, Lwbrx, Srw, Lswi, Sync, Stswx, Stwbrx, Stswi, Lhbrx, Sraw, Srawi, Sthbrx, Extsh, Extsb, Invalid}
use Rattle.ppc_isa.specs.Made.{made}
use Rattle.mix_reach.specs.laws.Ranges.{nothing, plain}
use Rattle.mix_reach.specs.laws.Steps.{word_decoded}

-- all operations but those that store
abbrev pub KeepsMemory : OpPpc → Type 0
KeepsMemory Stw = ⊥
KeepsMemory Stwu = ⊥
KeepsMemory Stb = ⊥
KeepsMemory Stbu = ⊥
KeepsMemory Sth = ⊥
KeepsMemory Sthu = ⊥
KeepsMemory Stwx = ⊥
KeepsMemory Stwux = ⊥
KeepsMemory Stbx = ⊥
KeepsMemory Stbux = ⊥
KeepsMemory Sthx = ⊥
KeepsMemory Sthux = ⊥
KeepsMemory Stwbrx = ⊥
KeepsMemory Sthbrx = ⊥
KeepsMemory Stmw = ⊥
KeepsMemory Stswi = ⊥
KeepsMemory Stswx = ⊥
KeepsMemory op = Unit {0}

pub none_told : (op : OpPpc) (r : RegsPpc) (f : Fields) → KeepsMemory op → word_decoded r (made op f) ≡ plain nothing
none_told Twi r f keeps = refl
none_told Mulli r f keeps = refl
none_told Subfic r f keeps = refl
none_told Cmpli r f keeps = refl
none_told Cmpi r f keeps = refl
none_told Addic r f keeps = refl
none_told AddicRecord r f keeps = refl
none_told Addi r f keeps = refl
none_told Addis r f keeps = refl
none_told Bc r f keeps = refl
none_told B r f keeps = refl
none_told Rlwimi r f keeps = refl
none_told Rlwinm r f keeps = refl
none_told Rlwnm r f keeps = refl
none_told Ori r f keeps = refl
none_told Oris r f keeps = refl
none_told Xori r f keeps = refl
none_told Xoris r f keeps = refl
none_told Andi r f keeps = refl
none_told Andis r f keeps = refl
none_told Lwz r f keeps = refl
none_told Lwzu r f keeps = refl
none_told Lbz r f keeps = refl
none_told Lbzu r f keeps = refl
none_told Stw r f keeps = absurd keeps
none_told Stwu r f keeps = absurd keeps
none_told Stb r f keeps = absurd keeps
none_told Stbu r f keeps = absurd keeps
none_told Lhz r f keeps = refl
none_told Lhzu r f keeps = refl
none_told Lha r f keeps = refl
none_told Lhau r f keeps = refl
none_told Sth r f keeps = absurd keeps
none_told Sthu r f keeps = absurd keeps
none_told Lmw r f keeps = refl
none_told Stmw r f keeps = absurd keeps
none_told Mcrf r f keeps = refl
none_told Bclr r f keeps = refl
none_told Crnor r f keeps = refl
none_told Crandc r f keeps = refl
none_told Isync r f keeps = refl
none_told Crxor r f keeps = refl
none_told Crnand r f keeps = refl
none_told Crand r f keeps = refl
none_told Creqv r f keeps = refl
none_told Crorc r f keeps = refl
none_told Cror r f keeps = refl
none_told Bcctr r f keeps = refl
none_told Cmp r f keeps = refl
none_told Tw r f keeps = refl
none_told Subfc r f keeps = refl
none_told Addc r f keeps = refl
none_told Mulhwu r f keeps = refl
none_told Mfcr r f keeps = refl
none_told Lwzx r f keeps = refl
none_told Slw r f keeps = refl
none_told Cntlzw r f keeps = refl
none_told And r f keeps = refl
none_told Cmpl r f keeps = refl
none_told Subf r f keeps = refl
none_told Lwzux r f keeps = refl
none_told Andc r f keeps = refl
none_told Mulhw r f keeps = refl
none_told Lbzx r f keeps = refl
none_told Neg r f keeps = refl
none_told Lbzux r f keeps = refl
none_told Nor r f keeps = refl
none_told Subfe r f keeps = refl
none_told Adde r f keeps = refl
none_told Mtcrf r f keeps = refl
none_told Stwx r f keeps = absurd keeps
none_told Stwux r f keeps = absurd keeps
none_told Subfze r f keeps = refl
none_told Addze r f keeps = refl
none_told Stbx r f keeps = absurd keeps
none_told Subfme r f keeps = refl
none_told Addme r f keeps = refl
none_told Mullw r f keeps = refl
none_told Stbux r f keeps = absurd keeps
none_told Add r f keeps = refl
none_told Lhzx r f keeps = refl
none_told Eqv r f keeps = refl
none_told Lhzux r f keeps = refl
none_told Xor r f keeps = refl
none_told Mfxer r f keeps = refl
none_told Mflr r f keeps = refl
none_told Mfctr r f keeps = refl
none_told Lhax r f keeps = refl
none_told Lhaux r f keeps = refl
none_told Sthx r f keeps = absurd keeps
none_told Orc r f keeps = refl
none_told Sthux r f keeps = absurd keeps
none_told Or r f keeps = refl
none_told Divwu r f keeps = refl
none_told Mtxer r f keeps = refl
none_told Mtlr r f keeps = refl
none_told Mtctr r f keeps = refl
none_told Nand r f keeps = refl
none_told Divw r f keeps = refl
none_told Mcrxr r f keeps = refl
none_told Lswx r f keeps = refl
none_told Lwbrx r f keeps = refl
none_told Srw r f keeps = refl
none_told Lswi r f keeps = refl
none_told Sync r f keeps = refl
none_told Stswx r f keeps = absurd keeps
none_told Stwbrx r f keeps = absurd keeps
none_told Stswi r f keeps = absurd keeps
none_told Lhbrx r f keeps = refl
none_told Sraw r f keeps = refl
none_told Srawi r f keeps = refl
none_told Sthbrx r f keeps = absurd keeps
none_told Extsh r f keeps = refl
none_told Extsb r f keeps = refl
none_told Invalid r f keeps = refl

-- all operations but those that store
pub others_keep : (x : OpPpc) → (x ≡ Stw → ⊥) → (x ≡ Stwu → ⊥) → (x ≡ Stb → ⊥) → (x ≡ Stbu → ⊥) → (x ≡ Sth → ⊥) → (x ≡ Sthu → ⊥) → (x ≡ Stmw → ⊥) → (x ≡ Stwx → ⊥) → (x ≡ Stwux → ⊥) → (x ≡ Stbx → ⊥) → (x ≡ Stbux → ⊥) → (x ≡ Sthx → ⊥) → (x ≡ Sthux → ⊥) → (x ≡ Stwbrx → ⊥) → (x ≡ Sthbrx → ⊥) → (x ≡ Stswi → ⊥) → (x ≡ Stswx → ⊥) → KeepsMemory x
others_keep x stw stwu stb stbu sth sthu stmw stwx stwux stbx stbux sthx sthux stwbrx sthbrx stswi stswx =
    elim x as (λ (o : OpPpc). x ≡ o → KeepsMemory o) [
      | Twi ↦ λ is. tt
      | Mulli ↦ λ is. tt
      | Subfic ↦ λ is. tt
      | Cmpli ↦ λ is. tt
      | Cmpi ↦ λ is. tt
      | Addic ↦ λ is. tt
      | AddicRecord ↦ λ is. tt
      | Addi ↦ λ is. tt
      | Addis ↦ λ is. tt
      | Bc ↦ λ is. tt
      | B ↦ λ is. tt
      | Rlwimi ↦ λ is. tt
      | Rlwinm ↦ λ is. tt
      | Rlwnm ↦ λ is. tt
      | Ori ↦ λ is. tt
      | Oris ↦ λ is. tt
      | Xori ↦ λ is. tt
      | Xoris ↦ λ is. tt
      | Andi ↦ λ is. tt
      | Andis ↦ λ is. tt
      | Lwz ↦ λ is. tt
      | Lwzu ↦ λ is. tt
      | Lbz ↦ λ is. tt
      | Lbzu ↦ λ is. tt
      | Stw ↦ λ is. absurd (stw is)
      | Stwu ↦ λ is. absurd (stwu is)
      | Stb ↦ λ is. absurd (stb is)
      | Stbu ↦ λ is. absurd (stbu is)
      | Lhz ↦ λ is. tt
      | Lhzu ↦ λ is. tt
      | Lha ↦ λ is. tt
      | Lhau ↦ λ is. tt
      | Sth ↦ λ is. absurd (sth is)
      | Sthu ↦ λ is. absurd (sthu is)
      | Lmw ↦ λ is. tt
      | Stmw ↦ λ is. absurd (stmw is)
      | Mcrf ↦ λ is. tt
      | Bclr ↦ λ is. tt
      | Crnor ↦ λ is. tt
      | Crandc ↦ λ is. tt
      | Isync ↦ λ is. tt
      | Crxor ↦ λ is. tt
      | Crnand ↦ λ is. tt
      | Crand ↦ λ is. tt
      | Creqv ↦ λ is. tt
      | Crorc ↦ λ is. tt
      | Cror ↦ λ is. tt
      | Bcctr ↦ λ is. tt
      | Cmp ↦ λ is. tt
      | Tw ↦ λ is. tt
      | Subfc ↦ λ is. tt
      | Addc ↦ λ is. tt
      | Mulhwu ↦ λ is. tt
      | Mfcr ↦ λ is. tt
      | Lwzx ↦ λ is. tt
      | Slw ↦ λ is. tt
      | Cntlzw ↦ λ is. tt
      | And ↦ λ is. tt
      | Cmpl ↦ λ is. tt
      | Subf ↦ λ is. tt
      | Lwzux ↦ λ is. tt
      | Andc ↦ λ is. tt
      | Mulhw ↦ λ is. tt
      | Lbzx ↦ λ is. tt
      | Neg ↦ λ is. tt
      | Lbzux ↦ λ is. tt
      | Nor ↦ λ is. tt
      | Subfe ↦ λ is. tt
      | Adde ↦ λ is. tt
      | Mtcrf ↦ λ is. tt
      | Stwx ↦ λ is. absurd (stwx is)
      | Stwux ↦ λ is. absurd (stwux is)
      | Subfze ↦ λ is. tt
      | Addze ↦ λ is. tt
      | Stbx ↦ λ is. absurd (stbx is)
      | Subfme ↦ λ is. tt
      | Addme ↦ λ is. tt
      | Mullw ↦ λ is. tt
      | Stbux ↦ λ is. absurd (stbux is)
      | Add ↦ λ is. tt
      | Lhzx ↦ λ is. tt
      | Eqv ↦ λ is. tt
      | Lhzux ↦ λ is. tt
      | Xor ↦ λ is. tt
      | Mfxer ↦ λ is. tt
      | Mflr ↦ λ is. tt
      | Mfctr ↦ λ is. tt
      | Lhax ↦ λ is. tt
      | Lhaux ↦ λ is. tt
      | Sthx ↦ λ is. absurd (sthx is)
      | Orc ↦ λ is. tt
      | Sthux ↦ λ is. absurd (sthux is)
      | Or ↦ λ is. tt
      | Divwu ↦ λ is. tt
      | Mtxer ↦ λ is. tt
      | Mtlr ↦ λ is. tt
      | Mtctr ↦ λ is. tt
      | Nand ↦ λ is. tt
      | Divw ↦ λ is. tt
      | Mcrxr ↦ λ is. tt
      | Lswx ↦ λ is. tt
      | Lwbrx ↦ λ is. tt
      | Srw ↦ λ is. tt
      | Lswi ↦ λ is. tt
      | Sync ↦ λ is. tt
      | Stswx ↦ λ is. absurd (stswx is)
      | Stwbrx ↦ λ is. absurd (stwbrx is)
      | Stswi ↦ λ is. absurd (stswi is)
      | Lhbrx ↦ λ is. tt
      | Sraw ↦ λ is. tt
      | Srawi ↦ λ is. tt
      | Sthbrx ↦ λ is. absurd (sthbrx is)
      | Extsh ↦ λ is. tt
      | Extsb ↦ λ is. tt
      | Invalid ↦ λ is. tt
    ] refl
