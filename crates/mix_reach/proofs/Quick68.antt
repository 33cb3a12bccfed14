-- Where an instruction of 68K code stores, as its first word and the modes in it tell.
use Rattle.std.proofs.Common.{◌≡◌, ℕ, ◌+◌, ◌%◌, ◌≤◌, ◌==◌, ◌&&◌, nat_lt, Bool, true, false, if◌then◌else◌, List, [], ◌∷◌, length, slice_index, Option, Some, None, arith, ap, sym, subst, ◌∙◌, refl}
use Rattle.std.specs.Prelude.{IfSome}
use Rattle.std.proofs.lemmas.Bool.{eqb-true, le-ltb, ne_eqb}
use Rattle.mix_bits.specs.declared.size.Size.{Size}
use Rattle.mix_bits.specs.declared.size.Size.TheVariants.{One, Two, Four}
use Rattle.m68_isa.specs.declared.registers.Regs68.{Regs68}
use Rattle.m68_isa.specs.declared.ea.Ea.{Ea}
use Rattle.m68_isa.specs.declared.ea.Ea.TheVariants.{Dn, Pre}
use Rattle.m68_isa.specs.declared.found.Found.{Found}
use Rattle.m68_isa.specs.declared.found.Found.TheVariants.{Made}
use Rattle.m68_isa.specs.declared.found.Found.TheVariants as Row
use Rattle.m68_isa.specs.declared.instructions.Instr68.{Instr68}
use Rattle.m68_isa.specs.declared.instructions.Instr68.TheVariants.{Move}
use Rattle.m68_isa.specs.declared.instructions.Instr68.TheVariants as Instr
use Rattle.m68_isa.specs.declared.instructions.QuickOp.TheVariants as QuickBy
use Rattle.m68_isa.specs.declared.instructions.Decoded68.TheVariants as Decoded
use Rattle.m68_isa.specs.declared.op.Op68.{Op68}
use Rattle.m68_isa.specs.declared.op.Op68.TheVariants.{Ori, Andi, Subi, Addi, Eori, Cmpi, LogicToCcr, BitByNumber, BitByRegister, Movep, MoveByte, MoveWord, MoveLong, MoveaWord, MoveaLong, Negx, Clr, Neg, Not, MoveFromSr, MoveToCcr, Nbcd, Swap, Pea, Ext, ExtByte, MovemToMemory, MovemFromMemory, MulLong, DivLong, Tst, Tas, Trap, Link, LinkLong, Unlk, Nop, Rtd, Rts, Trapv, Rtr, Jsr, Jmp, Chk, Lea, Addq, Subq, Scc, Dbcc, BraByte, BraWord, BraLong, BsrByte, BsrWord, BsrLong, BccByte, BccWord, BccLong, Moveq, OrToRegister, OrToMemory, Divu, Divs, Sbcd, SubToRegister, SubToMemory, Suba, Subx, Cmp, Cmpa, Eor, Cmpm, AndToRegister, AndToMemory, Mulu, Muls, Abcd, Exg, AddToRegister, AddToMemory, Adda, Addx, Shift, ShiftMemory, Illegal, Privileged, LineA, LineF}
use Rattle.m68_isa.specs.declared.operand.Operand.{Operand}
use Rattle.m68_isa.specs.Decode.{decoded, ended}
use Rattle.m68_isa.specs.Operations.{operation, read}
use Rattle.m68_isa.specs.First.{First, condition_of, first_of, long_or_word, one_to_eight, size_of}
use Rattle.m68_isa.specs.laws.Fits.{Fits}
use Rattle.m68_isa.specs.Made.{made}
use Rattle.m68_isa.proofs.ByOperation.{by_operation}
use Rattle.m68_isa.specs.Miscellaneous.{masked}
use Rattle.m68_isa.specs.Moves.{move_mode, moved_of}
use Rattle.m68_isa.specs.Operands.{extended_word, immediate_at, immediate_words, operand_at, plain as plain_operand}
use Rattle.m68_isa.specs.Rows.{sized, taken}
use Rattle.mix_bits.specs.declared.fault.Fault.{Fault}
use Rattle.m68_ea.specs.declared.operands.Target.{Target}
use Rattle.m68_ea.specs.declared.places.Place68.{Place68}
use Rattle.m68_ea.specs.FindsClauses.{Finds}
use Rattle.m68_ea.specs.Places.{placed}
use Rattle.m68_ea.specs.Words.{words_at}
use Rattle.big_memory.specs.Memory.{Memory}
use Rattle.mix_reach.specs.declared.reach.Reach.{Reach}
use Rattle.mix_reach.specs.laws.Ranges.{nothing, plain}
use Rattle.mix_reach.specs.laws.Rows68.{at_place, behind, branches, into, links, stores}
use Rattle.m68_effects.specs.Bits.{bit_size}
use Rattle.m68_effects.specs.Parts.{partner}
use Rattle.m68_isa.specs.Immediates.{immediate_with}
use Rattle.m68_isa.specs.declared.instructions.ImmediateOp.{ImmediateOp}
use Rattle.m68_isa.specs.declared.instructions.ImmediateOp.TheVariants as ImmediateBy
use Rattle.mix_reach.specs.inner.Quick.{Changes, ChangesBy, IsInto, Moves, Saves, keeps_memory}
use Rattle.mix_reach.specs.inner.Steps.{Tells, TellsBy}
use Rattle.mix_reach.specs.laws.Steps.{decoded_stores}

-- an instruction whose words are all there
ended-told : (r : Regs68) (i : Instr68) (used count : ℕ) (good : Bool) (w : Reach) → used ≤ count → good ≡ true → stores r i ≡ w → decoded_stores r (ended (Made i used good) count) ≡ plain w
ended-told r i used count good w few is told = rw (le-ltb count used few, is) (ap plain told)

-- one that does not store, whether they are there or not
abbrev StoresNone : Regs68 → Found → Type 0
StoresNone r (Made i used good) = stores r i ≡ nothing
StoresNone r Row.Privileged = Unit {0}
StoresNone r Row.Illegal = Unit {0}

by-tests : (r : Regs68) (i : Instr68) (used : ℕ) (short good : Bool) → stores r i ≡ nothing
    → decoded_stores r (if short then Decoded.Short else if good then Decoded.Op i used else Decoded.Illegal) ≡ plain nothing
by-tests r i used true good none = refl
by-tests r i used false true none = ap plain none
by-tests r i used false false none = refl

found-none : (r : Regs68) (x : Found) (count : ℕ) → StoresNone r x → decoded_stores r (ended x count) ≡ plain nothing
found-none r (Made i used good) count none = by-tests r i used (nat_lt count used) good none
found-none r Row.Privileged count none = refl
found-none r Row.Illegal count none = refl

branches-none : (r : Regs68) (condition : ℕ) → 2 ≤ condition → branches r condition ≡ nothing
branches-none r condition fits = rw (ne_eqb condition 1 (λ e. omega (arith, e, fits))) refl

-- a data register is no place in memory
data-operand : (ws : List ℕ) (at : ℕ) (size : Size) (mode lower : ℕ) → (mode == 0) ≡ true → operand_at ws at size mode lower ≡ plain_operand (Dn lower) at
data-operand ws at size mode lower is = rw is refl

data-into : (r : Regs68) (ws : List ℕ) (at : ℕ) (size t : Size) (mode lower : ℕ) → (mode == 0) ≡ true → into r t (operand_at ws at size mode lower).ea ≡ nothing
data-into r ws at size t mode lower is = ap (λ (e : Operand). into r t e.ea) (data-operand ws at size mode lower is)

data-bit : (r : Regs68) (ws : List ℕ) (at : ℕ) (mode lower : ℕ) → (mode == 0) ≡ true → into r (bit_size (operand_at ws at One mode lower).ea) (operand_at ws at One mode lower).ea ≡ nothing
data-bit r ws at mode lower is = ap (λ (e : Operand). into r (bit_size e.ea) e.ea) (data-operand ws at One mode lower is)

data-moved : (r : Regs68) (ws : List ℕ) (f : First) (size : Size) → (move_mode f == 0) ≡ true
    → into (placed r (operand_at ws 1 size f.mode f.lower).ea size).0 size (operand_at ws (operand_at ws 1 size f.mode f.lower).next size (move_mode f) f.upper).ea ≡ nothing
data-moved r ws f size is =
    data-into (placed r (operand_at ws 1 size f.mode f.lower).ea size).0 ws (operand_at ws 1 size f.mode f.lower).next size size (move_mode f) f.upper is

data-pair : (r : Regs68) (size : Size) (mode from to : ℕ) → (mode == 0) ≡ true → behind r size (partner (mode == 1) from) (partner (mode == 1) to) ≡ nothing
data-pair r size mode from to is = ap (λ (m : ℕ). behind r size (partner (m == 1) from) (partner (m == 1) to)) (eqb-true mode 0 is)

pub none_told : (op : Op68) (word : ℕ) (r : Regs68) (ws : List ℕ) → keeps_memory op (first_of word) ≡ true → Fits op word → decoded_stores r (read op (first_of word) ws) ≡ plain nothing
none_told Ori word r ws keeps fits = found-none r (made Ori (first_of word) ws) (length ws) (data-into r ws (1 + immediate_words (size_of (first_of word).size)) (size_of (first_of word).size) (size_of (first_of word).size) (first_of word).mode (first_of word).lower keeps)
none_told Andi word r ws keeps fits = found-none r (made Andi (first_of word) ws) (length ws) (data-into r ws (1 + immediate_words (size_of (first_of word).size)) (size_of (first_of word).size) (size_of (first_of word).size) (first_of word).mode (first_of word).lower keeps)
none_told Subi word r ws keeps fits = found-none r (made Subi (first_of word) ws) (length ws) (data-into r ws (1 + immediate_words (size_of (first_of word).size)) (size_of (first_of word).size) (size_of (first_of word).size) (first_of word).mode (first_of word).lower keeps)
none_told Addi word r ws keeps fits = found-none r (made Addi (first_of word) ws) (length ws) (data-into r ws (1 + immediate_words (size_of (first_of word).size)) (size_of (first_of word).size) (size_of (first_of word).size) (first_of word).mode (first_of word).lower keeps)
none_told Eori word r ws keeps fits = found-none r (made Eori (first_of word) ws) (length ws) (data-into r ws (1 + immediate_words (size_of (first_of word).size)) (size_of (first_of word).size) (size_of (first_of word).size) (first_of word).mode (first_of word).lower keeps)
none_told Cmpi word r ws keeps fits = found-none r (made Cmpi (first_of word) ws) (length ws) (data-into r ws (1 + immediate_words (size_of (first_of word).size)) (size_of (first_of word).size) (size_of (first_of word).size) (first_of word).mode (first_of word).lower keeps)
none_told LogicToCcr word r ws keeps fits = found-none r (made LogicToCcr (first_of word) ws) (length ws) refl
none_told BitByNumber word r ws keeps fits = found-none r (made BitByNumber (first_of word) ws) (length ws) (data-bit r ws 2 (first_of word).mode (first_of word).lower keeps)
none_told BitByRegister word r ws keeps fits = found-none r (made BitByRegister (first_of word) ws) (length ws) (data-bit r ws 1 (first_of word).mode (first_of word).lower keeps)
none_told Movep word r ws keeps fits = absurd (let e : false ≡ true = keeps in cc)
none_told MoveByte word r ws keeps fits = found-none r (made MoveByte (first_of word) ws) (length ws) (data-moved r ws (first_of word) One keeps)
none_told MoveWord word r ws keeps fits = found-none r (made MoveWord (first_of word) ws) (length ws) (data-moved r ws (first_of word) Two keeps)
none_told MoveLong word r ws keeps fits = found-none r (made MoveLong (first_of word) ws) (length ws) (data-moved r ws (first_of word) Four keeps)
none_told MoveaWord word r ws keeps fits = found-none r (made MoveaWord (first_of word) ws) (length ws) refl
none_told MoveaLong word r ws keeps fits = found-none r (made MoveaLong (first_of word) ws) (length ws) refl
none_told Negx word r ws keeps fits = found-none r (made Negx (first_of word) ws) (length ws) (data-into r ws 1 (size_of (first_of word).size) (size_of (first_of word).size) (first_of word).mode (first_of word).lower keeps)
none_told Clr word r ws keeps fits = found-none r (made Clr (first_of word) ws) (length ws) (data-into r ws 1 (size_of (first_of word).size) (size_of (first_of word).size) (first_of word).mode (first_of word).lower keeps)
none_told Neg word r ws keeps fits = found-none r (made Neg (first_of word) ws) (length ws) (data-into r ws 1 (size_of (first_of word).size) (size_of (first_of word).size) (first_of word).mode (first_of word).lower keeps)
none_told Not word r ws keeps fits = found-none r (made Not (first_of word) ws) (length ws) (data-into r ws 1 (size_of (first_of word).size) (size_of (first_of word).size) (first_of word).mode (first_of word).lower keeps)
none_told MoveFromSr word r ws keeps fits = found-none r (made MoveFromSr (first_of word) ws) (length ws) (data-into r ws 1 Two Two (first_of word).mode (first_of word).lower keeps)
none_told MoveToCcr word r ws keeps fits = found-none r (made MoveToCcr (first_of word) ws) (length ws) refl
none_told Nbcd word r ws keeps fits = found-none r (made Nbcd (first_of word) ws) (length ws) (data-into r ws 1 One One (first_of word).mode (first_of word).lower keeps)
none_told Swap word r ws keeps fits = found-none r (made Swap (first_of word) ws) (length ws) refl
none_told Pea word r ws keeps fits = absurd (let e : false ≡ true = keeps in cc)
none_told Ext word r ws keeps fits = found-none r (made Ext (first_of word) ws) (length ws) refl
none_told ExtByte word r ws keeps fits = found-none r (made ExtByte (first_of word) ws) (length ws) refl
none_told MovemToMemory word r ws keeps fits = absurd (let e : false ≡ true = keeps in cc)
none_told MovemFromMemory word r ws keeps fits = found-none r (made MovemFromMemory (first_of word) ws) (length ws) refl
none_told MulLong word r ws keeps fits = found-none r (made MulLong (first_of word) ws) (length ws) refl
none_told DivLong word r ws keeps fits = found-none r (made DivLong (first_of word) ws) (length ws) refl
none_told Tst word r ws keeps fits = found-none r (made Tst (first_of word) ws) (length ws) refl
none_told Tas word r ws keeps fits = found-none r (made Tas (first_of word) ws) (length ws) (data-into r ws 1 One One (first_of word).mode (first_of word).lower keeps)
none_told Trap word r ws keeps fits = found-none r (made Trap (first_of word) ws) (length ws) refl
none_told Link word r ws keeps fits = absurd (let e : false ≡ true = keeps in cc)
none_told LinkLong word r ws keeps fits = absurd (let e : false ≡ true = keeps in cc)
none_told Unlk word r ws keeps fits = found-none r (made Unlk (first_of word) ws) (length ws) refl
none_told Nop word r ws keeps fits = found-none r (made Nop (first_of word) ws) (length ws) refl
none_told Rtd word r ws keeps fits = found-none r (made Rtd (first_of word) ws) (length ws) refl
none_told Rts word r ws keeps fits = found-none r (made Rts (first_of word) ws) (length ws) refl
none_told Trapv word r ws keeps fits = found-none r (made Trapv (first_of word) ws) (length ws) refl
none_told Rtr word r ws keeps fits = found-none r (made Rtr (first_of word) ws) (length ws) refl
none_told Jsr word r ws keeps fits = absurd (let e : false ≡ true = keeps in cc)
none_told Jmp word r ws keeps fits = found-none r (made Jmp (first_of word) ws) (length ws) refl
none_told Chk word r ws keeps fits = found-none r (made Chk (first_of word) ws) (length ws) refl
none_told Lea word r ws keeps fits = found-none r (made Lea (first_of word) ws) (length ws) refl
none_told Addq word r ws keeps fits = found-none r (made Addq (first_of word) ws) (length ws) (data-into r ws 1 (size_of (first_of word).size) (size_of (first_of word).size) (first_of word).mode (first_of word).lower keeps)
none_told Subq word r ws keeps fits = found-none r (made Subq (first_of word) ws) (length ws) (data-into r ws 1 (size_of (first_of word).size) (size_of (first_of word).size) (first_of word).mode (first_of word).lower keeps)
none_told Scc word r ws keeps fits = found-none r (made Scc (first_of word) ws) (length ws) (data-into r ws 1 One One (first_of word).mode (first_of word).lower keeps)
none_told Dbcc word r ws keeps fits = found-none r (made Dbcc (first_of word) ws) (length ws) refl
none_told BraByte word r ws keeps fits = found-none r (made BraByte (first_of word) ws) (length ws) refl
none_told BraWord word r ws keeps fits = found-none r (made BraWord (first_of word) ws) (length ws) refl
none_told BraLong word r ws keeps fits = found-none r (made BraLong (first_of word) ws) (length ws) refl
none_told BsrByte word r ws keeps fits = absurd (let e : false ≡ true = keeps in cc)
none_told BsrWord word r ws keeps fits = absurd (let e : false ≡ true = keeps in cc)
none_told BsrLong word r ws keeps fits = absurd (let e : false ≡ true = keeps in cc)
none_told BccByte word r ws keeps fits = found-none r (made BccByte (first_of word) ws) (length ws) (branches-none r (condition_of (first_of word)) fits)
none_told BccWord word r ws keeps fits = found-none r (made BccWord (first_of word) ws) (length ws) (branches-none r (condition_of (first_of word)) fits)
none_told BccLong word r ws keeps fits = found-none r (made BccLong (first_of word) ws) (length ws) (branches-none r (condition_of (first_of word)) fits)
none_told Moveq word r ws keeps fits = found-none r (made Moveq (first_of word) ws) (length ws) refl
none_told OrToRegister word r ws keeps fits = found-none r (made OrToRegister (first_of word) ws) (length ws) refl
none_told OrToMemory word r ws keeps fits = absurd (let e : false ≡ true = keeps in cc)
none_told Divu word r ws keeps fits = found-none r (made Divu (first_of word) ws) (length ws) refl
none_told Divs word r ws keeps fits = found-none r (made Divs (first_of word) ws) (length ws) refl
none_told Sbcd word r ws keeps fits = found-none r (made Sbcd (first_of word) ws) (length ws) (data-pair r One (first_of word).mode (first_of word).lower (first_of word).upper keeps)
none_told SubToRegister word r ws keeps fits = found-none r (made SubToRegister (first_of word) ws) (length ws) refl
none_told SubToMemory word r ws keeps fits = absurd (let e : false ≡ true = keeps in cc)
none_told Suba word r ws keeps fits = found-none r (made Suba (first_of word) ws) (length ws) refl
none_told Subx word r ws keeps fits = found-none r (made Subx (first_of word) ws) (length ws) (data-pair r (size_of (first_of word).size) (first_of word).mode (first_of word).lower (first_of word).upper keeps)
none_told Cmp word r ws keeps fits = found-none r (made Cmp (first_of word) ws) (length ws) refl
none_told Cmpa word r ws keeps fits = found-none r (made Cmpa (first_of word) ws) (length ws) refl
none_told Eor word r ws keeps fits = found-none r (made Eor (first_of word) ws) (length ws) (data-into r ws 1 (size_of (first_of word).size) (size_of (first_of word).size) (first_of word).mode (first_of word).lower keeps)
none_told Cmpm word r ws keeps fits = found-none r (made Cmpm (first_of word) ws) (length ws) refl
none_told AndToRegister word r ws keeps fits = found-none r (made AndToRegister (first_of word) ws) (length ws) refl
none_told AndToMemory word r ws keeps fits = absurd (let e : false ≡ true = keeps in cc)
none_told Mulu word r ws keeps fits = found-none r (made Mulu (first_of word) ws) (length ws) refl
none_told Muls word r ws keeps fits = found-none r (made Muls (first_of word) ws) (length ws) refl
none_told Abcd word r ws keeps fits = found-none r (made Abcd (first_of word) ws) (length ws) (data-pair r One (first_of word).mode (first_of word).lower (first_of word).upper keeps)
none_told Exg word r ws keeps fits = found-none r (made Exg (first_of word) ws) (length ws) refl
none_told AddToRegister word r ws keeps fits = found-none r (made AddToRegister (first_of word) ws) (length ws) refl
none_told AddToMemory word r ws keeps fits = absurd (let e : false ≡ true = keeps in cc)
none_told Adda word r ws keeps fits = found-none r (made Adda (first_of word) ws) (length ws) refl
none_told Addx word r ws keeps fits = found-none r (made Addx (first_of word) ws) (length ws) (data-pair r (size_of (first_of word).size) (first_of word).mode (first_of word).lower (first_of word).upper keeps)
none_told Shift word r ws keeps fits = found-none r (made Shift (first_of word) ws) (length ws) refl
none_told ShiftMemory word r ws keeps fits = absurd (let e : false ≡ true = keeps in cc)
none_told Illegal word r ws keeps fits = found-none r (made Illegal (first_of word) ws) (length ws) tt
none_told Privileged word r ws keeps fits = found-none r (made Privileged (first_of word) ws) (length ws) tt
none_told LineA word r ws keeps fits = absurd (let e : false ≡ true = keeps in cc)
none_told LineF word r ws keeps fits = refl

-- one operand is changed
pub changed_told : (r : Regs68) (ws : List ℕ) (f : First) (make : Size → Ea → Instr68) (w : Reach) → 5 ≤ length ws
    → ((e : Ea) → stores r (make (size_of f.size) e) ≡ into r (size_of f.size) e) → Changes r ws f w → decoded_stores r (ended (sized make f ws) (length ws)) ≡ plain w
changed_told r ws f make w few each told =
    let e : Operand = operand_at ws 1 (size_of f.size) f.mode f.lower in
    let ends : e.next ≤ 5 = told.1 in
    ended-told r (make (size_of f.size) e.ea) e.next (length ws) e.good w (omega (arith, few, ends)) told.0 (each e.ea ∙ sym told.2)

-- the same behind an immediate
pub immediate_told : (r : Regs68) (ws : List ℕ) (f : First) (op : ImmediateOp) (w : Reach) → 5 ≤ length ws → ChangesBy r ws f w → decoded_stores r (ended (immediate_with op f ws) (length ws)) ≡ plain w
immediate_told r ws f op w few told =
    let size : Size = size_of f.size in
    let e : Operand = operand_at ws (1 + immediate_words size) size f.mode f.lower in
    let ends : e.next ≤ 5 = told.1 in
    ended-told r (Instr.Immediate op size (immediate_at ws 1 size) e.ea) e.next (length ws) e.good w (omega (arith, few, ends)) told.0 (sym told.2)

-- a value is moved
both : (a b : Bool) → a ≡ true → b ≡ true → (a && b) ≡ true
both a b first second = rw (first, second) refl

pub moved_told : (r : Regs68) (ws : List ℕ) (f : First) (size : Size) (w : Reach) → 5 ≤ length ws → Moves r ws f size w
    → decoded_stores r (ended (moved_of size f ws) (length ws)) ≡ plain w
moved_told r ws f size w few told =
    let from : Operand = operand_at ws 1 size f.mode f.lower in
    let to : Operand = operand_at ws from.next size (move_mode f) f.upper in
    let into_it : IsInto (placed r from.ea size).0 ws from.next size (move_mode f) f.upper w = told.1 in
    let ends : to.next ≤ 5 = into_it.1 in
    ended-told r (Move size from.ea to.ea) to.next (length ws) (from.good && to.good) w (omega (arith, few, ends)) (both from.good to.good told.0 into_it.0) (sym into_it.2)

-- registers are stored downwards
pre-operand : (ws : List ℕ) (size : Size) (mode lower : ℕ) → mode ≡ 4 → operand_at ws 2 size mode lower ≡ plain_operand (Pre lower) 2
pre-operand ws size mode lower is = rw is refl

pub saved_told : (r : Regs68) (ws : List ℕ) (f : First) (w : Reach) → 5 ≤ length ws → Saves r f w → decoded_stores r (ended (masked Instr.MovemToMemory f ws) (length ws)) ≡ plain w
saved_told r ws f w few told =
    let size : Size = long_or_word (f.size % 2) in
    ap (λ (e : Operand). decoded_stores r (ended (taken (Instr.MovemToMemory size (slice_index ws 1) e.ea) e) (length ws))) (pre-operand ws size f.mode f.lower told.0)
    ∙ ended-told r (Instr.MovemToMemory size (slice_index ws 1) (Pre f.lower)) 2 (length ws) true w (omega (arith, few)) refl (sym told.1)

-- link
pub linked_told : (r : Regs68) (register disp count : ℕ) → 2 ≤ count → decoded_stores r (ended (Made (Instr.Link register disp) 2 true) count) ≡ plain (links r)
linked_told r register disp count few = ended-told r (Instr.Link register disp) 2 count true (links r) few refl refl

-- the words that begin with a first word
first-read : (ws : List ℕ) → 5 ≤ length ws → decoded ws ≡ read (operation (first_of (slice_index ws 0))) (first_of (slice_index ws 0)) ws
first-read [] few = absurd (omega (arith, few))
first-read (w ∷ ws) few = by_operation w ws

pub told : (r : Regs68) (ws : List ℕ) (word : ℕ) (op : Op68) (w : Reach) → 5 ≤ length ws → word ≡ slice_index ws 0 → operation (first_of word) ≡ op
    → decoded_stores r (read op (first_of word) ws) ≡ plain w → decoded_stores r (decoded ws) ≡ plain w
told r ws word op w few first is holds =
    ap (decoded_stores r) (first-read ws few ∙ ap (λ (n : ℕ). read (operation (first_of n)) (first_of n) ws) (sym first) ∙ ap (λ (o : Op68). read o (first_of word) ws) is) ∙ holds

pub some_told : (x : Option Reach) (P Q : Reach → Type 0) → IfSome x P → ((w : Reach) → P w → Q w) → IfSome x Q
some_told (Some w) P Q holds each = each w holds
some_told None P Q holds each = tt

-- what is told by an operation
by-op : (r : Regs68) (ws : List ℕ) (f : First) (op o : Op68) (w : Reach) → op ≡ o → decoded_stores r (read o f ws) ≡ plain w → TellsBy r ws f op w
by-op r ws f op o w is holds = record { is = ap (λ (x : Op68). decoded_stores r (read x f ws)) is ∙ holds }

pub by_first : (r : Regs68) (ws : List ℕ) (word : ℕ) (op : Op68) (x : Option Reach) → 5 ≤ length ws → word ≡ slice_index ws 0 → operation (first_of word) ≡ op
    → IfSome x (TellsBy r ws (first_of word) op) → IfSome x (Tells r ws)
by_first r ws word op x few first is holds =
    some_told x (TellsBy r ws (first_of word) op) (Tells r ws) holds (λ w by. record { is = told r ws word op w few first is by.is })

pub told_is : (r : Regs68) (ws : List ℕ) (x : Option Reach) (w : Reach) → x ≡ Some w → IfSome x (Tells r ws) → plain w ≡ decoded_stores r (decoded ws)
told_is r ws x w is holds = let all : IfSome (Some w) (Tells r ws) = subst (λ (y : Option Reach). IfSome y (Tells r ws)) is holds in sym all.is

-- an operand that is found
pub found_into : (r : Regs68) (ws : List ℕ) (first : ℕ) (word : ℕ) (size : Size) (mode lower : ℕ) (x : Option Target) (t : Target) (next : ℕ) (cell : Fault) (q : Regs68) (p : Reach)
    → x ≡ Some t → Finds r word size (operand_at ws first size mode lower) x next cell q → next ≤ 5 → p ≡ at_place t.place → IsInto r ws first size mode lower p
found_into r ws first word size mode lower x t next cell q p is finds near put =
    let e : Operand = operand_at ws first size mode lower in
    let all : Finds r word size e (Some t) next cell q = subst (λ (y : Option Target). Finds r word size e y next cell q) is finds in
    let last : next ≡ e.next = all.2 in
    (all.0, omega (arith, near, last), put ∙ ap (λ (z : Regs68 × Place68). at_place z.1) (sym all.1))

pub into_same : (r : Regs68) (ws : List ℕ) (first : ℕ) (size s : Size) (mode m lower l : ℕ) (x : Option Reach) → size ≡ s → mode ≡ m → lower ≡ l
    → IfSome x (IsInto r ws first size mode lower) → IfSome x (IsInto r ws first s m l)
into_same r ws first size s mode m lower l x same one other holds =
    subst (λ (y : Size). IfSome x (IsInto r ws first y m l)) same
    (subst (λ (y : ℕ). IfSome x (IsInto r ws first size y l)) one (subst (λ (y : ℕ). IfSome x (IsInto r ws first size mode y)) other holds))

pub moves_found : (r q : Regs68) (m : Memory) (f : First) (word : ℕ) (size : Size) (mode lower to register : ℕ) (y : Option Target) (t : Target) (next : ℕ) (cell : Fault) (x : Option Reach)
    → mode ≡ f.mode → lower ≡ f.lower → to ≡ move_mode f → register ≡ f.upper → y ≡ Some t
    → Finds r word size (operand_at (words_at m r.pc) 1 size mode lower) y next cell q
    → IfSome x (IsInto q (words_at m q.pc) next size to register) → IfSome x (Moves r (words_at m r.pc) f size)
moves_found r q m f word size mode lower to register y t next cell x one other three four is finds holds =
    let e : Operand = operand_at (words_at m r.pc) 1 size f.mode f.lower in
    let same : operand_at (words_at m r.pc) 1 size mode lower ≡ e = ap (λ (n : ℕ). operand_at (words_at m r.pc) 1 size n lower) one ∙ ap (operand_at (words_at m r.pc) 1 size f.mode) other in
    let all : Finds r word size e (Some t) next cell q =
    subst (λ (o : Operand). Finds r word size o (Some t) next cell q) same (subst (λ (z : Option Target). Finds r word size (operand_at (words_at m r.pc) 1 size mode lower) z next cell q) is finds) in
    let file : q ≡ (placed r e.ea size).0 = ap (λ (z : Regs68 × Place68). z.0) (sym all.1) in
    let pc : q.pc ≡ r.pc = all.4.pc in
    let here : IfSome x (IsInto q (words_at m r.pc) next size (move_mode f) f.upper) =
    subst (λ (n : ℕ). IfSome x (IsInto q (words_at m n) next size (move_mode f) f.upper)) pc (into_same q (words_at m q.pc) next size size to (move_mode f) register f.upper x refl three four holds) in
    let there : IfSome x (IsInto (placed r e.ea size).0 (words_at m r.pc) e.next size (move_mode f) f.upper) =
    subst (λ (n : ℕ). IfSome x (IsInto (placed r e.ea size).0 (words_at m r.pc) n size (move_mode f) f.upper)) all.2
    (subst (λ (z : Regs68). IfSome x (IsInto z (words_at m r.pc) next size (move_mode f) f.upper)) file here) in
    some_told x (IsInto (placed r e.ea size).0 (words_at m r.pc) e.next size (move_mode f) f.upper) (Moves r (words_at m r.pc) f size) there (λ w goes. (all.0, goes))

-- each operation by its row
pub saves_by : (r : Regs68) (ws : List ℕ) (word : ℕ) (op : Op68) (x : Option Reach) → 5 ≤ length ws → op ≡ MovemToMemory → IfSome x (Saves r (first_of word)) → IfSome x (TellsBy r ws (first_of word) op)
saves_by r ws word op x few is holds =
    some_told x (Saves r (first_of word)) (TellsBy r ws (first_of word) op) holds (λ w goes. by-op r ws (first_of word) op MovemToMemory w is (saved_told r ws (first_of word) w few goes))

pub moves_MoveByte : (r : Regs68) (ws : List ℕ) (word : ℕ) (op : Op68) (x : Option Reach) → 5 ≤ length ws → op ≡ MoveByte → IfSome x (Moves r ws (first_of word) One) → IfSome x (TellsBy r ws (first_of word) op)
moves_MoveByte r ws word op x few is holds =
    some_told x (Moves r ws (first_of word) One) (TellsBy r ws (first_of word) op) holds (λ w goes. by-op r ws (first_of word) op MoveByte w is (moved_told r ws (first_of word) One w few goes))

pub moves_MoveWord : (r : Regs68) (ws : List ℕ) (word : ℕ) (op : Op68) (x : Option Reach) → 5 ≤ length ws → op ≡ MoveWord → IfSome x (Moves r ws (first_of word) Two) → IfSome x (TellsBy r ws (first_of word) op)
moves_MoveWord r ws word op x few is holds =
    some_told x (Moves r ws (first_of word) Two) (TellsBy r ws (first_of word) op) holds (λ w goes. by-op r ws (first_of word) op MoveWord w is (moved_told r ws (first_of word) Two w few goes))

pub moves_MoveLong : (r : Regs68) (ws : List ℕ) (word : ℕ) (op : Op68) (x : Option Reach) → 5 ≤ length ws → op ≡ MoveLong → IfSome x (Moves r ws (first_of word) Four) → IfSome x (TellsBy r ws (first_of word) op)
moves_MoveLong r ws word op x few is holds =
    some_told x (Moves r ws (first_of word) Four) (TellsBy r ws (first_of word) op) holds (λ w goes. by-op r ws (first_of word) op MoveLong w is (moved_told r ws (first_of word) Four w few goes))

pub changes_Negx : (r : Regs68) (ws : List ℕ) (word : ℕ) (op : Op68) (x : Option Reach) → 5 ≤ length ws → op ≡ Negx → IfSome x (Changes r ws (first_of word)) → IfSome x (TellsBy r ws (first_of word) op)
changes_Negx r ws word op x few is holds =
    some_told x (Changes r ws (first_of word)) (TellsBy r ws (first_of word) op) holds (λ w goes. by-op r ws (first_of word) op Negx w is (changed_told r ws (first_of word) Instr.Negx w few (λ e. refl) goes))

pub changes_Clr : (r : Regs68) (ws : List ℕ) (word : ℕ) (op : Op68) (x : Option Reach) → 5 ≤ length ws → op ≡ Clr → IfSome x (Changes r ws (first_of word)) → IfSome x (TellsBy r ws (first_of word) op)
changes_Clr r ws word op x few is holds =
    some_told x (Changes r ws (first_of word)) (TellsBy r ws (first_of word) op) holds (λ w goes. by-op r ws (first_of word) op Clr w is (changed_told r ws (first_of word) Instr.Clr w few (λ e. refl) goes))

pub changes_Neg : (r : Regs68) (ws : List ℕ) (word : ℕ) (op : Op68) (x : Option Reach) → 5 ≤ length ws → op ≡ Neg → IfSome x (Changes r ws (first_of word)) → IfSome x (TellsBy r ws (first_of word) op)
changes_Neg r ws word op x few is holds =
    some_told x (Changes r ws (first_of word)) (TellsBy r ws (first_of word) op) holds (λ w goes. by-op r ws (first_of word) op Neg w is (changed_told r ws (first_of word) Instr.Neg w few (λ e. refl) goes))

pub changes_Not : (r : Regs68) (ws : List ℕ) (word : ℕ) (op : Op68) (x : Option Reach) → 5 ≤ length ws → op ≡ Not → IfSome x (Changes r ws (first_of word)) → IfSome x (TellsBy r ws (first_of word) op)
changes_Not r ws word op x few is holds =
    some_told x (Changes r ws (first_of word)) (TellsBy r ws (first_of word) op) holds (λ w goes. by-op r ws (first_of word) op Not w is (changed_told r ws (first_of word) Instr.Not w few (λ e. refl) goes))

pub changes_Addq : (r : Regs68) (ws : List ℕ) (word : ℕ) (op : Op68) (x : Option Reach) → 5 ≤ length ws → op ≡ Addq → IfSome x (Changes r ws (first_of word)) → IfSome x (TellsBy r ws (first_of word) op)
changes_Addq r ws word op x few is holds =
    some_told x (Changes r ws (first_of word)) (TellsBy r ws (first_of word) op) holds (λ w goes. by-op r ws (first_of word) op Addq w is (changed_told r ws (first_of word) (λ s e. Instr.Quick QuickBy.Addq s (one_to_eight (first_of word).upper) e) w few (λ e. refl) goes))

pub changes_Subq : (r : Regs68) (ws : List ℕ) (word : ℕ) (op : Op68) (x : Option Reach) → 5 ≤ length ws → op ≡ Subq → IfSome x (Changes r ws (first_of word)) → IfSome x (TellsBy r ws (first_of word) op)
changes_Subq r ws word op x few is holds =
    some_told x (Changes r ws (first_of word)) (TellsBy r ws (first_of word) op) holds (λ w goes. by-op r ws (first_of word) op Subq w is (changed_told r ws (first_of word) (λ s e. Instr.Quick QuickBy.Subq s (one_to_eight (first_of word).upper) e) w few (λ e. refl) goes))

pub changes_OrToMemory : (r : Regs68) (ws : List ℕ) (word : ℕ) (op : Op68) (x : Option Reach) → 5 ≤ length ws → op ≡ OrToMemory → IfSome x (Changes r ws (first_of word)) → IfSome x (TellsBy r ws (first_of word) op)
changes_OrToMemory r ws word op x few is holds =
    some_told x (Changes r ws (first_of word)) (TellsBy r ws (first_of word) op) holds (λ w goes. by-op r ws (first_of word) op OrToMemory w is (changed_told r ws (first_of word) (λ s e. Instr.Or s true (first_of word).upper e) w few (λ e. refl) goes))

pub changes_SubToMemory : (r : Regs68) (ws : List ℕ) (word : ℕ) (op : Op68) (x : Option Reach) → 5 ≤ length ws → op ≡ SubToMemory → IfSome x (Changes r ws (first_of word)) → IfSome x (TellsBy r ws (first_of word) op)
changes_SubToMemory r ws word op x few is holds =
    some_told x (Changes r ws (first_of word)) (TellsBy r ws (first_of word) op) holds (λ w goes. by-op r ws (first_of word) op SubToMemory w is (changed_told r ws (first_of word) (λ s e. Instr.Sub s true (first_of word).upper e) w few (λ e. refl) goes))

pub changes_Eor : (r : Regs68) (ws : List ℕ) (word : ℕ) (op : Op68) (x : Option Reach) → 5 ≤ length ws → op ≡ Eor → IfSome x (Changes r ws (first_of word)) → IfSome x (TellsBy r ws (first_of word) op)
changes_Eor r ws word op x few is holds =
    some_told x (Changes r ws (first_of word)) (TellsBy r ws (first_of word) op) holds (λ w goes. by-op r ws (first_of word) op Eor w is (changed_told r ws (first_of word) (λ s e. Instr.Eor s (first_of word).upper e) w few (λ e. refl) goes))

pub changes_AndToMemory : (r : Regs68) (ws : List ℕ) (word : ℕ) (op : Op68) (x : Option Reach) → 5 ≤ length ws → op ≡ AndToMemory → IfSome x (Changes r ws (first_of word)) → IfSome x (TellsBy r ws (first_of word) op)
changes_AndToMemory r ws word op x few is holds =
    some_told x (Changes r ws (first_of word)) (TellsBy r ws (first_of word) op) holds (λ w goes. by-op r ws (first_of word) op AndToMemory w is (changed_told r ws (first_of word) (λ s e. Instr.And s true (first_of word).upper e) w few (λ e. refl) goes))

pub changes_AddToMemory : (r : Regs68) (ws : List ℕ) (word : ℕ) (op : Op68) (x : Option Reach) → 5 ≤ length ws → op ≡ AddToMemory → IfSome x (Changes r ws (first_of word)) → IfSome x (TellsBy r ws (first_of word) op)
changes_AddToMemory r ws word op x few is holds =
    some_told x (Changes r ws (first_of word)) (TellsBy r ws (first_of word) op) holds (λ w goes. by-op r ws (first_of word) op AddToMemory w is (changed_told r ws (first_of word) (λ s e. Instr.Add s true (first_of word).upper e) w few (λ e. refl) goes))

pub changes_Ori : (r : Regs68) (ws : List ℕ) (word : ℕ) (op : Op68) (x : Option Reach) → 5 ≤ length ws → op ≡ Ori → IfSome x (ChangesBy r ws (first_of word)) → IfSome x (TellsBy r ws (first_of word) op)
changes_Ori r ws word op x few is holds =
    some_told x (ChangesBy r ws (first_of word)) (TellsBy r ws (first_of word) op) holds (λ w goes. by-op r ws (first_of word) op Ori w is (immediate_told r ws (first_of word) ImmediateBy.Ori w few goes))

pub changes_Andi : (r : Regs68) (ws : List ℕ) (word : ℕ) (op : Op68) (x : Option Reach) → 5 ≤ length ws → op ≡ Andi → IfSome x (ChangesBy r ws (first_of word)) → IfSome x (TellsBy r ws (first_of word) op)
changes_Andi r ws word op x few is holds =
    some_told x (ChangesBy r ws (first_of word)) (TellsBy r ws (first_of word) op) holds (λ w goes. by-op r ws (first_of word) op Andi w is (immediate_told r ws (first_of word) ImmediateBy.Andi w few goes))

pub changes_Subi : (r : Regs68) (ws : List ℕ) (word : ℕ) (op : Op68) (x : Option Reach) → 5 ≤ length ws → op ≡ Subi → IfSome x (ChangesBy r ws (first_of word)) → IfSome x (TellsBy r ws (first_of word) op)
changes_Subi r ws word op x few is holds =
    some_told x (ChangesBy r ws (first_of word)) (TellsBy r ws (first_of word) op) holds (λ w goes. by-op r ws (first_of word) op Subi w is (immediate_told r ws (first_of word) ImmediateBy.Subi w few goes))

pub changes_Addi : (r : Regs68) (ws : List ℕ) (word : ℕ) (op : Op68) (x : Option Reach) → 5 ≤ length ws → op ≡ Addi → IfSome x (ChangesBy r ws (first_of word)) → IfSome x (TellsBy r ws (first_of word) op)
changes_Addi r ws word op x few is holds =
    some_told x (ChangesBy r ws (first_of word)) (TellsBy r ws (first_of word) op) holds (λ w goes. by-op r ws (first_of word) op Addi w is (immediate_told r ws (first_of word) ImmediateBy.Addi w few goes))

pub changes_Eori : (r : Regs68) (ws : List ℕ) (word : ℕ) (op : Op68) (x : Option Reach) → 5 ≤ length ws → op ≡ Eori → IfSome x (ChangesBy r ws (first_of word)) → IfSome x (TellsBy r ws (first_of word) op)
changes_Eori r ws word op x few is holds =
    some_told x (ChangesBy r ws (first_of word)) (TellsBy r ws (first_of word) op) holds (λ w goes. by-op r ws (first_of word) op Eori w is (immediate_told r ws (first_of word) ImmediateBy.Eori w few goes))

pub changes_Cmpi : (r : Regs68) (ws : List ℕ) (word : ℕ) (op : Op68) (x : Option Reach) → 5 ≤ length ws → op ≡ Cmpi → IfSome x (ChangesBy r ws (first_of word)) → IfSome x (TellsBy r ws (first_of word) op)
changes_Cmpi r ws word op x few is holds =
    some_told x (ChangesBy r ws (first_of word)) (TellsBy r ws (first_of word) op) holds (λ w goes. by-op r ws (first_of word) op Cmpi w is (immediate_told r ws (first_of word) ImmediateBy.Cmpi w few goes))

pub linked_by : (r : Regs68) (ws : List ℕ) (word : ℕ) (op : Op68) (w : Reach) → 5 ≤ length ws → op ≡ Link → w ≡ links r → TellsBy r ws (first_of word) op w
linked_by r ws word op w few is told =
    by-op r ws (first_of word) op Link w is (linked_told r (first_of word).lower (extended_word ws 1) (length ws) (omega (arith, few)) ∙ ap plain (sym told))
