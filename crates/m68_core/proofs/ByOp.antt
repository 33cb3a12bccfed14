-- What a step does is what the operation of its first word does, where no word is missing.
use Rattle.std.proofs.Common.{◌≡◌, ℕ, zero, suc, ◌≢◌, ◌*◌, ◌%◌, ◌<◌, ◌≤◌, ◌⊎◌, ◌∙◌, Bool, true, false, List, [], ◌∷◌, length, take, drop, slice_index, refl, sym, ap, subst, arith}
use Rattle.std.proofs.lemmas.List.{length-take-le}
use Rattle.mix_bits.specs.Addresses.{onward}
use Rattle.mix_bits.specs.declared.fault.FaultKind.TheVariants.{Odd, Outside}
use Rattle.m68_isa.specs.declared.registers.Regs68.{Regs68}
use Rattle.m68_isa.specs.declared.instructions.Decoded68.{Decoded68}
use Rattle.m68_isa.specs.declared.instructions.Decoded68.TheVariants.{Short, LineA as LineA-word}
use Rattle.m68_isa.specs.declared.found.Found.{Found}
use Rattle.m68_isa.specs.declared.found.Found.TheVariants.{Made, Privileged as NotAllowed, Illegal as NoInstruction}
use Rattle.m68_isa.specs.First.{first_of}
use Rattle.m68_isa.specs.Decode.{ended, decoded}
use Rattle.m68_isa.specs.Operations.{operation, read}
use Rattle.m68_isa.specs.declared.op.Op68.{Op68}
use Rattle.m68_isa.specs.declared.op.Op68.TheVariants.{Ori, Andi, Subi, Addi, Eori, Cmpi, LogicToCcr, BitByNumber, BitByRegister, Movep, MoveByte, MoveWord, MoveLong, MoveaWord, MoveaLong, Negx, Clr, Neg, Not, MoveFromSr, MoveToCcr, Nbcd, Swap, Pea, Ext, ExtByte, MovemToMemory, MovemFromMemory, MulLong, DivLong, Tst, Tas, Trap, Link, LinkLong, Unlk, Nop, Rtd, Rts, Trapv, Rtr, Jsr, Jmp, Chk, Lea, Addq, Subq, Scc, Dbcc, BraByte, BraWord, BraLong, BsrByte, BsrWord, BsrLong, BccByte, BccWord, BccLong, Moveq, OrToRegister, OrToMemory, Divu, Divs, Sbcd, SubToRegister, SubToMemory, Suba, Subx, Cmp, Cmpa, Eor, Cmpm, AndToRegister, AndToMemory, Mulu, Muls, Abcd, Exg, AddToRegister, AddToMemory, Adda, Addx, Shift, ShiftMemory, Illegal, Privileged, LineA, LineF}
use Rattle.m68_isa.specs.Made.{made}
use Rattle.m68_isa.specs.laws.Needs.{OpLaws, whole}
use Rattle.big_memory.specs.Memory.{Memory}
use Rattle.m68_ea.specs.Words.{words_at}
use Rattle.m68_effects.specs.laws.Ops.{by_op, runs_made}
use Rattle.m68_effects.specs.Step.{stops, runs_decoded, stepped}
use Rattle.m68_core.specs.laws.Edge.{IsFirst, IsThere}
use Rattle.m68_core.specs.inner.Edge.{TellsShort}

-- an instruction that is whole
whole-runs : (r : Regs68) (m : Memory) (ws : List ℕ) (found : Found) → runs_decoded r m ws (whole found) ≡ runs_made r m (slice_index ws 0) found
whole-runs r m ws (Made i used true) = refl
whole-runs r m ws (Made i used false) = refl
whole-runs r m ws NotAllowed = refl
whole-runs r m ws NoInstruction = refl

made-runs : (r : Regs68) (m : Memory) (ws : List ℕ) (w : ℕ) (found : Found) → w ≡ slice_index ws 0 → ended found (length ws) ≡ whole found
    → runs_decoded r m ws (ended found (length ws)) ≡ runs_made r m w found
made-runs r m ws w found first is = ap (runs_decoded r m ws) is ∙ (whole-runs r m ws found ∙ ap (λ v. runs_made r m v found) (sym first))

-- each operation
read-runs : (laws : OpLaws) (r : Regs68) (m : Memory) (w : ℕ) (op : Op68) → w ≡ slice_index (words_at m r.pc) 0
    → (5 ≤ length (words_at m r.pc)) ⊎ (read op (first_of w) (words_at m r.pc) ≢ Short) → runs_decoded r m (words_at m r.pc) (read op (first_of w) (words_at m r.pc)) ≡ by_op op r m w
read-runs laws r m w Ori first there = made-runs r m (words_at m r.pc) w (made Ori (first_of w) (words_at m r.pc)) first (laws.none_missing Ori (first_of w) (words_at m r.pc) there)
read-runs laws r m w Andi first there = made-runs r m (words_at m r.pc) w (made Andi (first_of w) (words_at m r.pc)) first (laws.none_missing Andi (first_of w) (words_at m r.pc) there)
read-runs laws r m w Subi first there = made-runs r m (words_at m r.pc) w (made Subi (first_of w) (words_at m r.pc)) first (laws.none_missing Subi (first_of w) (words_at m r.pc) there)
read-runs laws r m w Addi first there = made-runs r m (words_at m r.pc) w (made Addi (first_of w) (words_at m r.pc)) first (laws.none_missing Addi (first_of w) (words_at m r.pc) there)
read-runs laws r m w Eori first there = made-runs r m (words_at m r.pc) w (made Eori (first_of w) (words_at m r.pc)) first (laws.none_missing Eori (first_of w) (words_at m r.pc) there)
read-runs laws r m w Cmpi first there = made-runs r m (words_at m r.pc) w (made Cmpi (first_of w) (words_at m r.pc)) first (laws.none_missing Cmpi (first_of w) (words_at m r.pc) there)
read-runs laws r m w LogicToCcr first there = made-runs r m (words_at m r.pc) w (made LogicToCcr (first_of w) (words_at m r.pc)) first (laws.none_missing LogicToCcr (first_of w) (words_at m r.pc) there)
read-runs laws r m w BitByNumber first there = made-runs r m (words_at m r.pc) w (made BitByNumber (first_of w) (words_at m r.pc)) first (laws.none_missing BitByNumber (first_of w) (words_at m r.pc) there)
read-runs laws r m w BitByRegister first there = made-runs r m (words_at m r.pc) w (made BitByRegister (first_of w) (words_at m r.pc)) first (laws.none_missing BitByRegister (first_of w) (words_at m r.pc) there)
read-runs laws r m w Movep first there = made-runs r m (words_at m r.pc) w (made Movep (first_of w) (words_at m r.pc)) first (laws.none_missing Movep (first_of w) (words_at m r.pc) there)
read-runs laws r m w MoveByte first there = made-runs r m (words_at m r.pc) w (made MoveByte (first_of w) (words_at m r.pc)) first (laws.none_missing MoveByte (first_of w) (words_at m r.pc) there)
read-runs laws r m w MoveWord first there = made-runs r m (words_at m r.pc) w (made MoveWord (first_of w) (words_at m r.pc)) first (laws.none_missing MoveWord (first_of w) (words_at m r.pc) there)
read-runs laws r m w MoveLong first there = made-runs r m (words_at m r.pc) w (made MoveLong (first_of w) (words_at m r.pc)) first (laws.none_missing MoveLong (first_of w) (words_at m r.pc) there)
read-runs laws r m w MoveaWord first there = made-runs r m (words_at m r.pc) w (made MoveaWord (first_of w) (words_at m r.pc)) first (laws.none_missing MoveaWord (first_of w) (words_at m r.pc) there)
read-runs laws r m w MoveaLong first there = made-runs r m (words_at m r.pc) w (made MoveaLong (first_of w) (words_at m r.pc)) first (laws.none_missing MoveaLong (first_of w) (words_at m r.pc) there)
read-runs laws r m w Negx first there = made-runs r m (words_at m r.pc) w (made Negx (first_of w) (words_at m r.pc)) first (laws.none_missing Negx (first_of w) (words_at m r.pc) there)
read-runs laws r m w Clr first there = made-runs r m (words_at m r.pc) w (made Clr (first_of w) (words_at m r.pc)) first (laws.none_missing Clr (first_of w) (words_at m r.pc) there)
read-runs laws r m w Neg first there = made-runs r m (words_at m r.pc) w (made Neg (first_of w) (words_at m r.pc)) first (laws.none_missing Neg (first_of w) (words_at m r.pc) there)
read-runs laws r m w Not first there = made-runs r m (words_at m r.pc) w (made Not (first_of w) (words_at m r.pc)) first (laws.none_missing Not (first_of w) (words_at m r.pc) there)
read-runs laws r m w MoveFromSr first there = made-runs r m (words_at m r.pc) w (made MoveFromSr (first_of w) (words_at m r.pc)) first (laws.none_missing MoveFromSr (first_of w) (words_at m r.pc) there)
read-runs laws r m w MoveToCcr first there = made-runs r m (words_at m r.pc) w (made MoveToCcr (first_of w) (words_at m r.pc)) first (laws.none_missing MoveToCcr (first_of w) (words_at m r.pc) there)
read-runs laws r m w Nbcd first there = made-runs r m (words_at m r.pc) w (made Nbcd (first_of w) (words_at m r.pc)) first (laws.none_missing Nbcd (first_of w) (words_at m r.pc) there)
read-runs laws r m w Swap first there = made-runs r m (words_at m r.pc) w (made Swap (first_of w) (words_at m r.pc)) first (laws.none_missing Swap (first_of w) (words_at m r.pc) there)
read-runs laws r m w Pea first there = made-runs r m (words_at m r.pc) w (made Pea (first_of w) (words_at m r.pc)) first (laws.none_missing Pea (first_of w) (words_at m r.pc) there)
read-runs laws r m w Ext first there = made-runs r m (words_at m r.pc) w (made Ext (first_of w) (words_at m r.pc)) first (laws.none_missing Ext (first_of w) (words_at m r.pc) there)
read-runs laws r m w ExtByte first there = made-runs r m (words_at m r.pc) w (made ExtByte (first_of w) (words_at m r.pc)) first (laws.none_missing ExtByte (first_of w) (words_at m r.pc) there)
read-runs laws r m w MovemToMemory first there = made-runs r m (words_at m r.pc) w (made MovemToMemory (first_of w) (words_at m r.pc)) first (laws.none_missing MovemToMemory (first_of w) (words_at m r.pc) there)
read-runs laws r m w MovemFromMemory first there = made-runs r m (words_at m r.pc) w (made MovemFromMemory (first_of w) (words_at m r.pc)) first (laws.none_missing MovemFromMemory (first_of w) (words_at m r.pc) there)
read-runs laws r m w MulLong first there = made-runs r m (words_at m r.pc) w (made MulLong (first_of w) (words_at m r.pc)) first (laws.none_missing MulLong (first_of w) (words_at m r.pc) there)
read-runs laws r m w DivLong first there = made-runs r m (words_at m r.pc) w (made DivLong (first_of w) (words_at m r.pc)) first (laws.none_missing DivLong (first_of w) (words_at m r.pc) there)
read-runs laws r m w Tst first there = made-runs r m (words_at m r.pc) w (made Tst (first_of w) (words_at m r.pc)) first (laws.none_missing Tst (first_of w) (words_at m r.pc) there)
read-runs laws r m w Tas first there = made-runs r m (words_at m r.pc) w (made Tas (first_of w) (words_at m r.pc)) first (laws.none_missing Tas (first_of w) (words_at m r.pc) there)
read-runs laws r m w Trap first there = made-runs r m (words_at m r.pc) w (made Trap (first_of w) (words_at m r.pc)) first (laws.none_missing Trap (first_of w) (words_at m r.pc) there)
read-runs laws r m w Link first there = made-runs r m (words_at m r.pc) w (made Link (first_of w) (words_at m r.pc)) first (laws.none_missing Link (first_of w) (words_at m r.pc) there)
read-runs laws r m w LinkLong first there = made-runs r m (words_at m r.pc) w (made LinkLong (first_of w) (words_at m r.pc)) first (laws.none_missing LinkLong (first_of w) (words_at m r.pc) there)
read-runs laws r m w Unlk first there = made-runs r m (words_at m r.pc) w (made Unlk (first_of w) (words_at m r.pc)) first (laws.none_missing Unlk (first_of w) (words_at m r.pc) there)
read-runs laws r m w Nop first there = made-runs r m (words_at m r.pc) w (made Nop (first_of w) (words_at m r.pc)) first (laws.none_missing Nop (first_of w) (words_at m r.pc) there)
read-runs laws r m w Rtd first there = made-runs r m (words_at m r.pc) w (made Rtd (first_of w) (words_at m r.pc)) first (laws.none_missing Rtd (first_of w) (words_at m r.pc) there)
read-runs laws r m w Rts first there = made-runs r m (words_at m r.pc) w (made Rts (first_of w) (words_at m r.pc)) first (laws.none_missing Rts (first_of w) (words_at m r.pc) there)
read-runs laws r m w Trapv first there = made-runs r m (words_at m r.pc) w (made Trapv (first_of w) (words_at m r.pc)) first (laws.none_missing Trapv (first_of w) (words_at m r.pc) there)
read-runs laws r m w Rtr first there = made-runs r m (words_at m r.pc) w (made Rtr (first_of w) (words_at m r.pc)) first (laws.none_missing Rtr (first_of w) (words_at m r.pc) there)
read-runs laws r m w Jsr first there = made-runs r m (words_at m r.pc) w (made Jsr (first_of w) (words_at m r.pc)) first (laws.none_missing Jsr (first_of w) (words_at m r.pc) there)
read-runs laws r m w Jmp first there = made-runs r m (words_at m r.pc) w (made Jmp (first_of w) (words_at m r.pc)) first (laws.none_missing Jmp (first_of w) (words_at m r.pc) there)
read-runs laws r m w Chk first there = made-runs r m (words_at m r.pc) w (made Chk (first_of w) (words_at m r.pc)) first (laws.none_missing Chk (first_of w) (words_at m r.pc) there)
read-runs laws r m w Lea first there = made-runs r m (words_at m r.pc) w (made Lea (first_of w) (words_at m r.pc)) first (laws.none_missing Lea (first_of w) (words_at m r.pc) there)
read-runs laws r m w Addq first there = made-runs r m (words_at m r.pc) w (made Addq (first_of w) (words_at m r.pc)) first (laws.none_missing Addq (first_of w) (words_at m r.pc) there)
read-runs laws r m w Subq first there = made-runs r m (words_at m r.pc) w (made Subq (first_of w) (words_at m r.pc)) first (laws.none_missing Subq (first_of w) (words_at m r.pc) there)
read-runs laws r m w Scc first there = made-runs r m (words_at m r.pc) w (made Scc (first_of w) (words_at m r.pc)) first (laws.none_missing Scc (first_of w) (words_at m r.pc) there)
read-runs laws r m w Dbcc first there = made-runs r m (words_at m r.pc) w (made Dbcc (first_of w) (words_at m r.pc)) first (laws.none_missing Dbcc (first_of w) (words_at m r.pc) there)
read-runs laws r m w BraByte first there = made-runs r m (words_at m r.pc) w (made BraByte (first_of w) (words_at m r.pc)) first (laws.none_missing BraByte (first_of w) (words_at m r.pc) there)
read-runs laws r m w BraWord first there = made-runs r m (words_at m r.pc) w (made BraWord (first_of w) (words_at m r.pc)) first (laws.none_missing BraWord (first_of w) (words_at m r.pc) there)
read-runs laws r m w BraLong first there = made-runs r m (words_at m r.pc) w (made BraLong (first_of w) (words_at m r.pc)) first (laws.none_missing BraLong (first_of w) (words_at m r.pc) there)
read-runs laws r m w BsrByte first there = made-runs r m (words_at m r.pc) w (made BsrByte (first_of w) (words_at m r.pc)) first (laws.none_missing BsrByte (first_of w) (words_at m r.pc) there)
read-runs laws r m w BsrWord first there = made-runs r m (words_at m r.pc) w (made BsrWord (first_of w) (words_at m r.pc)) first (laws.none_missing BsrWord (first_of w) (words_at m r.pc) there)
read-runs laws r m w BsrLong first there = made-runs r m (words_at m r.pc) w (made BsrLong (first_of w) (words_at m r.pc)) first (laws.none_missing BsrLong (first_of w) (words_at m r.pc) there)
read-runs laws r m w BccByte first there = made-runs r m (words_at m r.pc) w (made BccByte (first_of w) (words_at m r.pc)) first (laws.none_missing BccByte (first_of w) (words_at m r.pc) there)
read-runs laws r m w BccWord first there = made-runs r m (words_at m r.pc) w (made BccWord (first_of w) (words_at m r.pc)) first (laws.none_missing BccWord (first_of w) (words_at m r.pc) there)
read-runs laws r m w BccLong first there = made-runs r m (words_at m r.pc) w (made BccLong (first_of w) (words_at m r.pc)) first (laws.none_missing BccLong (first_of w) (words_at m r.pc) there)
read-runs laws r m w Moveq first there = made-runs r m (words_at m r.pc) w (made Moveq (first_of w) (words_at m r.pc)) first (laws.none_missing Moveq (first_of w) (words_at m r.pc) there)
read-runs laws r m w OrToRegister first there = made-runs r m (words_at m r.pc) w (made OrToRegister (first_of w) (words_at m r.pc)) first (laws.none_missing OrToRegister (first_of w) (words_at m r.pc) there)
read-runs laws r m w OrToMemory first there = made-runs r m (words_at m r.pc) w (made OrToMemory (first_of w) (words_at m r.pc)) first (laws.none_missing OrToMemory (first_of w) (words_at m r.pc) there)
read-runs laws r m w Divu first there = made-runs r m (words_at m r.pc) w (made Divu (first_of w) (words_at m r.pc)) first (laws.none_missing Divu (first_of w) (words_at m r.pc) there)
read-runs laws r m w Divs first there = made-runs r m (words_at m r.pc) w (made Divs (first_of w) (words_at m r.pc)) first (laws.none_missing Divs (first_of w) (words_at m r.pc) there)
read-runs laws r m w Sbcd first there = made-runs r m (words_at m r.pc) w (made Sbcd (first_of w) (words_at m r.pc)) first (laws.none_missing Sbcd (first_of w) (words_at m r.pc) there)
read-runs laws r m w SubToRegister first there = made-runs r m (words_at m r.pc) w (made SubToRegister (first_of w) (words_at m r.pc)) first (laws.none_missing SubToRegister (first_of w) (words_at m r.pc) there)
read-runs laws r m w SubToMemory first there = made-runs r m (words_at m r.pc) w (made SubToMemory (first_of w) (words_at m r.pc)) first (laws.none_missing SubToMemory (first_of w) (words_at m r.pc) there)
read-runs laws r m w Suba first there = made-runs r m (words_at m r.pc) w (made Suba (first_of w) (words_at m r.pc)) first (laws.none_missing Suba (first_of w) (words_at m r.pc) there)
read-runs laws r m w Subx first there = made-runs r m (words_at m r.pc) w (made Subx (first_of w) (words_at m r.pc)) first (laws.none_missing Subx (first_of w) (words_at m r.pc) there)
read-runs laws r m w Cmp first there = made-runs r m (words_at m r.pc) w (made Cmp (first_of w) (words_at m r.pc)) first (laws.none_missing Cmp (first_of w) (words_at m r.pc) there)
read-runs laws r m w Cmpa first there = made-runs r m (words_at m r.pc) w (made Cmpa (first_of w) (words_at m r.pc)) first (laws.none_missing Cmpa (first_of w) (words_at m r.pc) there)
read-runs laws r m w Eor first there = made-runs r m (words_at m r.pc) w (made Eor (first_of w) (words_at m r.pc)) first (laws.none_missing Eor (first_of w) (words_at m r.pc) there)
read-runs laws r m w Cmpm first there = made-runs r m (words_at m r.pc) w (made Cmpm (first_of w) (words_at m r.pc)) first (laws.none_missing Cmpm (first_of w) (words_at m r.pc) there)
read-runs laws r m w AndToRegister first there = made-runs r m (words_at m r.pc) w (made AndToRegister (first_of w) (words_at m r.pc)) first (laws.none_missing AndToRegister (first_of w) (words_at m r.pc) there)
read-runs laws r m w AndToMemory first there = made-runs r m (words_at m r.pc) w (made AndToMemory (first_of w) (words_at m r.pc)) first (laws.none_missing AndToMemory (first_of w) (words_at m r.pc) there)
read-runs laws r m w Mulu first there = made-runs r m (words_at m r.pc) w (made Mulu (first_of w) (words_at m r.pc)) first (laws.none_missing Mulu (first_of w) (words_at m r.pc) there)
read-runs laws r m w Muls first there = made-runs r m (words_at m r.pc) w (made Muls (first_of w) (words_at m r.pc)) first (laws.none_missing Muls (first_of w) (words_at m r.pc) there)
read-runs laws r m w Abcd first there = made-runs r m (words_at m r.pc) w (made Abcd (first_of w) (words_at m r.pc)) first (laws.none_missing Abcd (first_of w) (words_at m r.pc) there)
read-runs laws r m w Exg first there = made-runs r m (words_at m r.pc) w (made Exg (first_of w) (words_at m r.pc)) first (laws.none_missing Exg (first_of w) (words_at m r.pc) there)
read-runs laws r m w AddToRegister first there = made-runs r m (words_at m r.pc) w (made AddToRegister (first_of w) (words_at m r.pc)) first (laws.none_missing AddToRegister (first_of w) (words_at m r.pc) there)
read-runs laws r m w AddToMemory first there = made-runs r m (words_at m r.pc) w (made AddToMemory (first_of w) (words_at m r.pc)) first (laws.none_missing AddToMemory (first_of w) (words_at m r.pc) there)
read-runs laws r m w Adda first there = made-runs r m (words_at m r.pc) w (made Adda (first_of w) (words_at m r.pc)) first (laws.none_missing Adda (first_of w) (words_at m r.pc) there)
read-runs laws r m w Addx first there = made-runs r m (words_at m r.pc) w (made Addx (first_of w) (words_at m r.pc)) first (laws.none_missing Addx (first_of w) (words_at m r.pc) there)
read-runs laws r m w Shift first there = made-runs r m (words_at m r.pc) w (made Shift (first_of w) (words_at m r.pc)) first (laws.none_missing Shift (first_of w) (words_at m r.pc) there)
read-runs laws r m w ShiftMemory first there = made-runs r m (words_at m r.pc) w (made ShiftMemory (first_of w) (words_at m r.pc)) first (laws.none_missing ShiftMemory (first_of w) (words_at m r.pc) there)
read-runs laws r m w Illegal first there = made-runs r m (words_at m r.pc) w (made Illegal (first_of w) (words_at m r.pc)) first (laws.none_missing Illegal (first_of w) (words_at m r.pc) there)
read-runs laws r m w Privileged first there = made-runs r m (words_at m r.pc) w (made Privileged (first_of w) (words_at m r.pc)) first (laws.none_missing Privileged (first_of w) (words_at m r.pc) there)
read-runs laws r m w LineA first there = ap (λ v. runs_decoded r m (words_at m r.pc) (LineA-word v)) (sym first)
read-runs laws r m w LineF first there = refl

-- a list by its first element
list-of : (w : ℕ) (ws : List ℕ) → 0 < length ws → w ≡ slice_index ws 0 → ws ≡ w ∷ drop 1 ws
list-of w [] some first = absurd (omega (arith, some))
list-of w (v ∷ vs) some first = ap (λ x. x ∷ vs) (sym first)

is-read : (laws : OpLaws) (op : Op68) (w : ℕ) (ws : List ℕ) → op ≡ operation (first_of w) → ws ≡ w ∷ drop 1 ws → decoded ws ≡ read op (first_of w) ws
is-read laws op w ws its is = ap decoded is ∙ laws.by_operation w (drop 1 ws) ∙ (ap (λ o. read o (first_of w) (w ∷ drop 1 ws)) (sym its) ∙ ap (read op (first_of w)) (sym is))

now-there : (ws : List ℕ) (d : Decoded68) → decoded ws ≡ d → IsThere ws → (5 ≤ length ws) ⊎ (d ≢ Short)
now-there ws d is there = subst (λ x. (5 ≤ length ws) ⊎ (x ≢ Short)) is there

even-goes : (r : Regs68) (m : Memory) → r.pc % 2 ≡ 0 → stepped r m ≡ runs_decoded r m (words_at m r.pc) (decoded (words_at m r.pc))
unfolding stepped
even-goes r m even = rw even refl

pub step_by_op : (laws : OpLaws) (r : Regs68) (m : Memory) (w : ℕ) (op : Op68) → r.pc % 2 ≡ 0 → IsFirst w (words_at m r.pc) → IsThere (words_at m r.pc) → op ≡ operation (first_of w)
    → stepped r m ≡ by_op op r m w
step_by_op laws r m w op even (some, first) there its =
    let is : decoded (words_at m r.pc) ≡ read op (first_of w) (words_at m r.pc) = is-read laws op w (words_at m r.pc) its (list-of w (words_at m r.pc) some first) in
    even-goes r m even ∙ (ap (runs_decoded r m (words_at m r.pc)) is ∙ read-runs laws r m w op first (now-there (words_at m r.pc) _ is there))

-- a step that is none of an operation: the program is at an odd address, or a word of its instruction is missing
pub step_odd : (r : Regs68) (m : Memory) → r.pc % 2 ≡ 1 → stepped r m ≡ stops r Odd r.pc
unfolding stepped
step_odd r m odd = rw odd refl

short-is : (short : Bool) (d : Decoded68) → short ≡ true → TellsShort short d → d ≡ Short
short-is true d is tells = tells
short-is false d is tells = cc

pub step_short : (r : Regs68) (m : Memory) (count : ℕ) (words : List ℕ) (short : Bool) → r.pc % 2 ≡ 0 → count ≤ length words → take count words ≡ words_at m r.pc
    → short ≡ true → TellsShort short (decoded (take count words)) → stepped r m ≡ stops r Outside (onward r.pc (2 * count))
step_short r m count words short even most are is tells =
    let none : decoded (words_at m r.pc) ≡ Short = ap decoded (sym are) ∙ short-is short _ is tells in
    let long : length (words_at m r.pc) ≡ count = ap length (sym are) ∙ length-take-le count words most in
    even-goes r m even ∙ (ap (runs_decoded r m (words_at m r.pc)) none ∙ ap (λ k. stops r Outside (onward r.pc (2 * k))) long)

-- the words that were read are all of the instruction where they do not end too early
not-short : (short : Bool) (d : Decoded68) → short ≡ false → TellsShort short d → d ≢ Short
not-short true d is tells = cc
not-short false d is tells = tells

pub none_missing : (count : ℕ) (words ws : List ℕ) (short : Bool) → take count words ≡ ws → short ≡ false → TellsShort short (decoded (take count words)) → decoded ws ≢ Short
none_missing count words ws short are is tells = subst (λ (vs : List ℕ). decoded vs ≢ Short) are (not-short short _ is tells)

some-word : (ws : List ℕ) → decoded ws ≢ Short → 0 < length ws
some-word [] there = absurd (there refl)
some-word (w ∷ ws) there = omega arith

front : (count : ℕ) (words ws : List ℕ) → take count words ≡ ws → 0 < length ws → slice_index words 0 ≡ slice_index ws 0
front zero words ws are some = absurd (let none : 0 ≡ length ws = ap length are in omega (arith, some, none))
front (suc n) [] ws are some = absurd (let none : 0 ≡ length ws = ap length are in omega (arith, some, none))
front (suc n) (w ∷ words) ws are some = ap (λ (vs : List ℕ). slice_index vs 0) are

-- and the first of them is the program's
pub first_there : (count : ℕ) (words ws : List ℕ) (word : ℕ) → word ≡ slice_index words 0 → take count words ≡ ws → decoded ws ≢ Short → IsFirst word ws
first_there count words ws word is are there = let some = some-word ws there in (some, is ∙ front count words ws are some)
