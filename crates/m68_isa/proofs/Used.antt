-- Each operation uses one to five words, and looks at no others.
use Rattle.std.proofs.Common.{ℕ, ◌≡◌, ◌+◌, ◌%◌, ◌≤◌, ◌==◌, ◌&&◌, nat_lt, Bool, true, false, List, slice_index, refl, ap, ◌∙◌, arith}
use Rattle.mix_bits.specs.Sizes.{sign_extended}
use Rattle.mix_bits.specs.declared.size.Size.{Size}
use Rattle.mix_bits.specs.declared.size.Size.TheVariants.{One, Two, Four}
use Rattle.m68_isa.specs.declared.ea.Ea.{Ea}
use Rattle.m68_isa.specs.declared.instructions.ImmediateOp.{ImmediateOp}
use Rattle.m68_isa.specs.declared.instructions.ImmediateOp.TheVariants as ImmediateBy
use Rattle.m68_isa.specs.declared.instructions.JumpOp.TheVariants as JumpBy
use Rattle.m68_isa.specs.declared.instructions.QuickOp.TheVariants as QuickBy
use Rattle.m68_isa.specs.declared.instructions.Instr68.{Instr68}
use Rattle.m68_isa.specs.declared.instructions.Instr68.TheVariants as Instr
use Rattle.m68_isa.specs.declared.operand.Operand.{Operand}
use Rattle.m68_isa.specs.declared.found.Found.{Found}
use Rattle.m68_isa.specs.declared.found.Found.TheVariants as Row
use Rattle.m68_isa.specs.First.{First, size_of, long_or_word, condition_of, one_to_eight}
use Rattle.m68_isa.specs.Operands.{operand_at, immediate_words, immediate_at, long_at}
use Rattle.m68_isa.specs.Products.{by_registers, low_of, high_of, is_signed, is_wide, is_register_word}
use Rattle.m68_isa.specs.Rows.{words, taken, one}
use Rattle.m68_isa.specs.Immediates.{immediate_with, logic_op, bit_op}
use Rattle.m68_isa.specs.Moves.{moved_of, move_mode}
use Rattle.m68_isa.specs.Shifts.{shift_op}
use Rattle.m68_isa.specs.declared.op.Op68.{Op68}
use Rattle.m68_isa.specs.declared.op.Op68.TheVariants.{Ori, Andi, Subi, Addi, Eori, Cmpi, LogicToCcr, BitByNumber, BitByRegister, Movep, MoveByte, MoveWord, MoveLong, MoveaWord, MoveaLong, Negx, Clr, Neg, Not, MoveFromSr, MoveToCcr, Nbcd, Swap, Pea, Ext, ExtByte, MovemToMemory, MovemFromMemory, MulLong, DivLong, Tst, Tas, Trap, Link, LinkLong, Unlk, Nop, Rtd, Rts, Trapv, Rtr, Jsr, Jmp, Chk, Lea, Addq, Subq, Scc, Dbcc, BraByte, BraWord, BraLong, BsrByte, BsrWord, BsrLong, BccByte, BccWord, BccLong, Moveq, OrToRegister, OrToMemory, Divu, Divs, Sbcd, SubToRegister, SubToMemory, Suba, Subx, Cmp, Cmpa, Eor, Cmpm, AndToRegister, AndToMemory, Mulu, Muls, Abcd, Exg, AddToRegister, AddToMemory, Adda, Addx, Shift, ShiftMemory, Illegal, Privileged, LineA, LineF}
use Rattle.m68_isa.specs.Made.{made}
use Rattle.m68_isa.specs.laws.Needs.{used_by, HasUsed, AreSame}
use Rattle.m68_isa.proofs.Words.{operand_near, immediate_same, few_words, long_same}

-- what is made of some words is made of others that begin with those it uses
abbrev pub Keeps : List ℕ → List ℕ → Found → Found → Type 0
Keeps ws us found again = HasUsed found × (AreSame (used_by found) ws us → again ≡ found)

word_keeps : (make : ℕ → Instr68) (ws us : List ℕ) → Keeps ws us (words 2 (make (slice_index ws 1))) (words 2 (make (slice_index us 1)))
word_keeps make ws us = ((omega arith, omega arith), λ same. ap (λ v. words 2 (make v)) (same 1 (omega arith)))

long_keeps : (make : ℕ → Instr68) (ws us : List ℕ) → Keeps ws us (words 3 (make (long_at ws 1))) (words 3 (make (long_at us 1)))
long_keeps make ws us = ((omega arith, omega arith), λ same. ap (λ v. words 3 (make v)) (long_same 1 ws us same))

one_keeps : (make : Ea → Instr68) (s : Size) (f : First) (ws us : List ℕ) → Keeps ws us (one make s f ws) (one make s f us)
one_keeps make s f ws us =
    let near = operand_near ws us 1 s f.mode f.lower in
    let from : 1 ≤ (operand_at ws 1 s f.mode f.lower).next = near.0 in
    let to : (operand_at ws 1 s f.mode f.lower).next ≤ 1 + 2 = near.1 in
    ((omega arith, omega arith), λ same. ap (λ e. taken (make e.ea) e) (near.2 same))

-- a word, then an operand
behind_keeps : (make : ℕ → Ea → Instr68) (s : Size) (f : First) (ws us : List ℕ) →
    Keeps ws us (let e = operand_at ws 2 s f.mode f.lower in taken (make (slice_index ws 1) e.ea) e) (let e = operand_at us 2 s f.mode f.lower in taken (make (slice_index us 1) e.ea) e)
behind_keeps make s f ws us =
    let near = operand_near ws us 2 s f.mode f.lower in
    let from : 2 ≤ (operand_at ws 2 s f.mode f.lower).next = near.0 in
    let to : (operand_at ws 2 s f.mode f.lower).next ≤ 2 + 2 = near.1 in (
      (omega arith, omega arith),
      λ same. ap (λ v. let e = operand_at us 2 s f.mode f.lower in taken (make v e.ea) e) (same 1 (omega arith))
          ∙ ap (λ e. taken (make (slice_index ws 1) e.ea) e) (near.2 same),
    )

-- the word of the registers, then an operand
registers_keep : (make : Bool → Bool → Ea → ℕ → ℕ → Instr68) (f : First) (ws us : List ℕ) → Keeps ws us (by_registers make f ws) (by_registers make f us)
registers_keep make f ws us =
    let near = operand_near ws us 2 Four f.mode f.lower in
    let from : 2 ≤ (operand_at ws 2 Four f.mode f.lower).next = near.0 in
    let to : (operand_at ws 2 Four f.mode f.lower).next ≤ 2 + 2 = near.1 in
    let with : ℕ → Operand → Found = λ w by. Row.Made (make (is_signed w) (is_wide w) by.ea (high_of w) (low_of w)) by.next (is_register_word w && by.good) in (
      (omega arith, omega arith),
      λ same. ap (λ w. with w (operand_at us 2 Four f.mode f.lower)) (same 1 (omega arith)) ∙ ap (λ by. with (slice_index ws 1) by) (near.2 same),
    )

immediate_keeps : (op : ImmediateOp) (f : First) (ws us : List ℕ) → Keeps ws us (immediate_with op f ws) (immediate_with op f us)
immediate_keeps op f ws us =
    let s = size_of f.size in
    let at = 1 + immediate_words s in
    let few : immediate_words s ≤ 2 = few_words s in
    let near = operand_near ws us at s f.mode f.lower in
    let from : at ≤ (operand_at ws at s f.mode f.lower).next = near.0 in
    let to : (operand_at ws at s f.mode f.lower).next ≤ at + 2 = near.1 in (
      (omega arith, omega arith),
      λ same. ap (λ v. let e = operand_at us at s f.mode f.lower in taken (Instr.Immediate op s v e.ea) e) (immediate_same 1 s ws us (λ k below. same k (omega arith)))
          ∙ ap (λ e. taken (Instr.Immediate op s (immediate_at ws 1 s) e.ea) e) (near.2 same),
    )

move_keeps : (s : Size) (f : First) (ws us : List ℕ) → Keeps ws us (moved_of s f ws) (moved_of s f us)
move_keeps s f ws us =
    let from = operand_at ws 1 s f.mode f.lower in
    let first = operand_near ws us 1 s f.mode f.lower in
    let second = operand_near ws us from.next s (move_mode f) f.upper in
    let to = operand_at ws from.next s (move_mode f) f.upper in
    let low : 1 ≤ from.next = first.0 in
    let high : from.next ≤ 1 + 2 = first.1 in
    let behind : from.next ≤ to.next = second.0 in
    let most : to.next ≤ from.next + 2 = second.1 in (
      (omega arith, omega arith),
      λ same. ap (λ o. let e = operand_at us o.next s (move_mode f) f.upper in Row.Made (Instr.Move s o.ea e.ea) e.next (o.good && e.good)) (first.2 (λ k below. same k (omega arith)))
          ∙ ap (λ e. Row.Made (Instr.Move s from.ea e.ea) e.next (from.good && e.good)) (second.2 same),
    )

pub keeps : (op : Op68) (f : First) (ws us : List ℕ) → Keeps ws us (made op f ws) (made op f us)
keeps Ori f ws us = immediate_keeps ImmediateBy.Ori f ws us
keeps Andi f ws us = immediate_keeps ImmediateBy.Andi f ws us
keeps Subi f ws us = immediate_keeps ImmediateBy.Subi f ws us
keeps Addi f ws us = immediate_keeps ImmediateBy.Addi f ws us
keeps Eori f ws us = immediate_keeps ImmediateBy.Eori f ws us
keeps Cmpi f ws us = immediate_keeps ImmediateBy.Cmpi f ws us
keeps LogicToCcr f ws us = word_keeps (λ v. Instr.ImmediateToCcr (logic_op f.upper) (v % 256)) ws us
keeps BitByNumber f ws us = behind_keeps (λ v. Instr.BitByNumber (bit_op f.size) (v % 256)) One f ws us
keeps BitByRegister f ws us = one_keeps (Instr.BitByRegister (bit_op f.size) f.upper) One f ws us
keeps Movep f ws us = word_keeps (λ v. Instr.Movep (long_or_word (f.size % 2)) (nat_lt 1 f.size) f.upper f.lower (sign_extended v Two)) ws us
keeps MoveByte f ws us = move_keeps One f ws us
keeps MoveWord f ws us = move_keeps Two f ws us
keeps MoveLong f ws us = move_keeps Four f ws us
keeps MoveaWord f ws us = one_keeps (λ e. Instr.Movea Two e f.upper) Two f ws us
keeps MoveaLong f ws us = one_keeps (λ e. Instr.Movea Four e f.upper) Four f ws us
keeps Negx f ws us = one_keeps (Instr.Negx (size_of f.size)) (size_of f.size) f ws us
keeps Clr f ws us = one_keeps (Instr.Clr (size_of f.size)) (size_of f.size) f ws us
keeps Neg f ws us = one_keeps (Instr.Neg (size_of f.size)) (size_of f.size) f ws us
keeps Not f ws us = one_keeps (Instr.Not (size_of f.size)) (size_of f.size) f ws us
keeps MoveFromSr f ws us = one_keeps (Instr.MoveFromSr) Two f ws us
keeps MoveToCcr f ws us = one_keeps (Instr.MoveToCcr) Two f ws us
keeps Nbcd f ws us = one_keeps (Instr.Nbcd) One f ws us
keeps Swap f ws us = ((omega arith, omega arith), λ same. refl)
keeps Pea f ws us = one_keeps (Instr.Pea) Four f ws us
keeps Ext f ws us = ((omega arith, omega arith), λ same. refl)
keeps ExtByte f ws us = ((omega arith, omega arith), λ same. refl)
keeps MovemToMemory f ws us = behind_keeps (Instr.MovemToMemory (long_or_word (f.size % 2))) (long_or_word (f.size % 2)) f ws us
keeps MovemFromMemory f ws us = behind_keeps (Instr.MovemFromMemory (long_or_word (f.size % 2))) (long_or_word (f.size % 2)) f ws us
keeps MulLong f ws us = registers_keep Instr.MulLong f ws us
keeps DivLong f ws us = registers_keep Instr.DivLong f ws us
keeps Tst f ws us = one_keeps (Instr.Tst (size_of f.size)) (size_of f.size) f ws us
keeps Tas f ws us = one_keeps (Instr.Tas) One f ws us
keeps Trap f ws us = ((omega arith, omega arith), λ same. refl)
keeps Link f ws us = word_keeps (λ v. Instr.Link f.lower (sign_extended v Two)) ws us
keeps LinkLong f ws us = long_keeps (Instr.LinkLong f.lower) ws us
keeps Unlk f ws us = ((omega arith, omega arith), λ same. refl)
keeps Nop f ws us = ((omega arith, omega arith), λ same. refl)
keeps Rtd f ws us = word_keeps (λ v. Instr.Rtd (sign_extended v Two)) ws us
keeps Rts f ws us = ((omega arith, omega arith), λ same. refl)
keeps Trapv f ws us = ((omega arith, omega arith), λ same. refl)
keeps Rtr f ws us = ((omega arith, omega arith), λ same. refl)
keeps Jsr f ws us = one_keeps (Instr.Jump JumpBy.Jsr) Four f ws us
keeps Jmp f ws us = one_keeps (Instr.Jump JumpBy.Jmp) Four f ws us
keeps Chk f ws us = one_keeps (λ e. Instr.Chk e f.upper) Two f ws us
keeps Lea f ws us = one_keeps (λ e. Instr.Lea e f.upper) Four f ws us
keeps Addq f ws us = one_keeps (Instr.Quick QuickBy.Addq (size_of f.size) (one_to_eight f.upper)) (size_of f.size) f ws us
keeps Subq f ws us = one_keeps (Instr.Quick QuickBy.Subq (size_of f.size) (one_to_eight f.upper)) (size_of f.size) f ws us
keeps Scc f ws us = one_keeps (Instr.Scc (condition_of f)) One f ws us
keeps Dbcc f ws us = word_keeps (λ v. Instr.Dbcc (condition_of f) f.lower (sign_extended v Two)) ws us
keeps BraByte f ws us = ((omega arith, omega arith), λ same. refl)
keeps BraWord f ws us = word_keeps (λ v. Instr.Bcc 0 (sign_extended v Two)) ws us
keeps BraLong f ws us = long_keeps (Instr.BccLong 0) ws us
keeps BsrByte f ws us = ((omega arith, omega arith), λ same. refl)
keeps BsrWord f ws us = word_keeps (λ v. Instr.Bcc 1 (sign_extended v Two)) ws us
keeps BsrLong f ws us = long_keeps (Instr.BccLong 1) ws us
keeps BccByte f ws us = ((omega arith, omega arith), λ same. refl)
keeps BccWord f ws us = word_keeps (λ v. Instr.Bcc (condition_of f) (sign_extended v Two)) ws us
keeps BccLong f ws us = long_keeps (Instr.BccLong (condition_of f)) ws us
keeps Moveq f ws us = ((omega arith, omega arith), λ same. refl)
keeps OrToRegister f ws us = one_keeps (Instr.Or (size_of f.size) false f.upper) (size_of f.size) f ws us
keeps OrToMemory f ws us = one_keeps (Instr.Or (size_of f.size) true f.upper) (size_of f.size) f ws us
keeps Divu f ws us = one_keeps (λ e. Instr.Div false e f.upper) Two f ws us
keeps Divs f ws us = one_keeps (λ e. Instr.Div true e f.upper) Two f ws us
keeps Sbcd f ws us = ((omega arith, omega arith), λ same. refl)
keeps SubToRegister f ws us = one_keeps (Instr.Sub (size_of f.size) false f.upper) (size_of f.size) f ws us
keeps SubToMemory f ws us = one_keeps (Instr.Sub (size_of f.size) true f.upper) (size_of f.size) f ws us
keeps Suba f ws us = one_keeps (λ e. Instr.Suba (long_or_word f.bit8) e f.upper) (long_or_word f.bit8) f ws us
keeps Subx f ws us = ((omega arith, omega arith), λ same. refl)
keeps Cmp f ws us = one_keeps (λ e. Instr.Cmp (size_of f.size) e f.upper) (size_of f.size) f ws us
keeps Cmpa f ws us = one_keeps (λ e. Instr.Cmpa (long_or_word f.bit8) e f.upper) (long_or_word f.bit8) f ws us
keeps Eor f ws us = one_keeps (Instr.Eor (size_of f.size) f.upper) (size_of f.size) f ws us
keeps Cmpm f ws us = ((omega arith, omega arith), λ same. refl)
keeps AndToRegister f ws us = one_keeps (Instr.And (size_of f.size) false f.upper) (size_of f.size) f ws us
keeps AndToMemory f ws us = one_keeps (Instr.And (size_of f.size) true f.upper) (size_of f.size) f ws us
keeps Mulu f ws us = one_keeps (λ e. Instr.Mul false e f.upper) Two f ws us
keeps Muls f ws us = one_keeps (λ e. Instr.Mul true e f.upper) Two f ws us
keeps Abcd f ws us = ((omega arith, omega arith), λ same. refl)
keeps Exg f ws us = ((omega arith, omega arith), λ same. refl)
keeps AddToRegister f ws us = one_keeps (Instr.Add (size_of f.size) false f.upper) (size_of f.size) f ws us
keeps AddToMemory f ws us = one_keeps (Instr.Add (size_of f.size) true f.upper) (size_of f.size) f ws us
keeps Adda f ws us = one_keeps (λ e. Instr.Adda (long_or_word f.bit8) e f.upper) (long_or_word f.bit8) f ws us
keeps Addx f ws us = ((omega arith, omega arith), λ same. refl)
keeps Shift f ws us = ((omega arith, omega arith), λ same. refl)
keeps ShiftMemory f ws us = one_keeps (Instr.ShiftMemory (shift_op f.upper) (f.bit8 == 1)) Two f ws us
keeps Illegal f ws us = (tt, λ same. refl)
keeps Privileged f ws us = (tt, λ same. refl)
keeps LineA f ws us = (tt, λ same. refl)
keeps LineF f ws us = (tt, λ same. refl)
