-- Each name that an instruction has is in the list of names.
use Rattle.std.proofs.Common.{ℕ, ◌≡◌, ◌==◌, ◌++◌, List, length, codes, Bool, true, false, if◌then◌else◌, refl}
use Rattle.mix_bits.specs.declared.size.Size.{Size}
use Rattle.mix_bits.specs.declared.size.Size.TheVariants.{Zero, One, Two, Four}
use Rattle.m68_isa.specs.declared.instructions.BitOp.TheVariants.{Btst, Bchg, Bclr, Bset}
use Rattle.m68_isa.specs.declared.instructions.ImmediateOp.TheVariants.{Ori, Andi, Subi, Addi, Eori, Cmpi}
use Rattle.m68_isa.specs.declared.instructions.LogicOp.TheVariants.{And as LogicAnd, Or as LogicOr, Eor as LogicEor}
use Rattle.m68_isa.specs.declared.instructions.ShiftOp.TheVariants.{As, Ls, Rox, Ro}
use Rattle.m68_isa.specs.declared.instructions.PlainOp.TheVariants.{Nop, Rts}
use Rattle.m68_isa.specs.declared.instructions.JumpOp.TheVariants.{Jsr, Jmp}
use Rattle.m68_isa.specs.declared.instructions.QuickOp.TheVariants.{Addq, Subq}
use Rattle.m68_isa.specs.declared.instructions.Instr68.{Instr68}
use Rattle.m68_isa.specs.declared.instructions.Instr68.TheVariants.{Immediate, ImmediateToCcr, BitByRegister, BitByNumber, Movep, Move, Movea, Negx, Clr, Neg, Not, MoveFromSr, MoveToCcr, Nbcd, Swap, Pea, Ext, ExtByte, MovemToMemory, MovemFromMemory, MulLong, DivLong, Tst, Tas, Trap, Link, LinkLong, Unlk, Plain, Rtd, Trapv, Rtr, Jump, Chk, Lea, Quick, Scc, Dbcc, Bcc, BccLong, Moveq, Or, Div, Sbcd, Sub, Suba, Subx, Cmp, Cmpa, Eor, Cmpm, And, Mul, Abcd, Exg, Add, Adda, Addx, Shift, ShiftMemory}
use Rattle.m68_isa.specs.laws.Widths.{has_size, is_any, is_wide}
use Rattle.m68_text.specs.Instructions.{name}
use Rattle.m68_text.specs.Names.{suffix, condition_name, branch_name, branch_suffix}
use Rattle.m68_text.specs.Listed.{stems, wide_stems, plain_names, tested, conditions, names, is_name}

pub all_names : length names ≡ 234
unfolding names stems wide_stems plain_names tested conditions
all_names = refl

-- what both cases of a choice have, the choice has
chosen : (P : List ℕ → Bool) (b : Bool) (x y : List ℕ) → P x ≡ true → (b ≡ false → P y ≡ true) → P (if b then x else y) ≡ true
chosen P true x y first second = first
chosen P false x y first second = second refl

left : (P : List ℕ → Bool) (b : Bool) (x y : List ℕ) → b ≡ false → P y ≡ true → P (if b then x else y) ≡ true
left P true x y is first = cc
left P false x y is first = first

-- what each condition from 2 on has
at_tested : (P : List ℕ → Bool) (c : ℕ) → (c == 0) ≡ false → (c == 1) ≡ false → P (codes "hi") ≡ true → P (codes "ls") ≡ true → P (codes "cc") ≡ true → P (codes "cs") ≡ true → P (codes "ne") ≡ true → P (codes "eq") ≡ true → P (codes "vc") ≡ true → P (codes "vs") ≡ true → P (codes "pl") ≡ true → P (codes "mi") ≡ true → P (codes "ge") ≡ true → P (codes "lt") ≡ true → P (codes "gt") ≡ true → P (codes "le") ≡ true → P (condition_name c) ≡ true
at_tested P c n0 n1 h2 h3 h4 h5 h6 h7 h8 h9 h10 h11 h12 h13 h14 h15 =
    left P (c == 0) (codes "t") _ n0 (left P (c == 1) (codes "f") _ n1 (chosen P (c == 2) (codes "hi") _ h2 (λ _. (chosen P (c == 3) (codes "ls") _ h3 (λ _. (chosen P (c == 4) (codes "cc") _ h4 (λ _. (chosen P (c == 5) (codes "cs") _ h5 (λ _. (chosen P (c == 6) (codes "ne") _ h6 (λ _. (chosen P (c == 7) (codes "eq") _ h7 (λ _. (chosen P (c == 8) (codes "vc") _ h8 (λ _. (chosen P (c == 9) (codes "vs") _ h9 (λ _. (chosen P (c == 10) (codes "pl") _ h10 (λ _. (chosen P (c == 11) (codes "mi") _ h11 (λ _. (chosen P (c == 12) (codes "ge") _ h12 (λ _. (chosen P (c == 13) (codes "lt") _ h13 (λ _. (chosen P (c == 14) (codes "gt") _ h14 (λ _. h15)))))))))))))))))))))))))))

at_condition : (P : List ℕ → Bool) (c : ℕ) → P (codes "t") ≡ true → P (codes "f") ≡ true → P (codes "hi") ≡ true → P (codes "ls") ≡ true → P (codes "cc") ≡ true → P (codes "cs") ≡ true → P (codes "ne") ≡ true → P (codes "eq") ≡ true → P (codes "vc") ≡ true → P (codes "vs") ≡ true → P (codes "pl") ≡ true → P (codes "mi") ≡ true → P (codes "ge") ≡ true → P (codes "lt") ≡ true → P (codes "gt") ≡ true → P (codes "le") ≡ true → P (condition_name c) ≡ true
at_condition P c h0 h1 h2 h3 h4 h5 h6 h7 h8 h9 h10 h11 h12 h13 h14 h15 = chosen P (c == 0) (codes "t") _ h0 (λ _. (chosen P (c == 1) (codes "f") _ h1 (λ _. (chosen P (c == 2) (codes "hi") _ h2 (λ _. (chosen P (c == 3) (codes "ls") _ h3 (λ _. (chosen P (c == 4) (codes "cc") _ h4 (λ _. (chosen P (c == 5) (codes "cs") _ h5 (λ _. (chosen P (c == 6) (codes "ne") _ h6 (λ _. (chosen P (c == 7) (codes "eq") _ h7 (λ _. (chosen P (c == 8) (codes "vc") _ h8 (λ _. (chosen P (c == 9) (codes "vs") _ h9 (λ _. (chosen P (c == 10) (codes "pl") _ h10 (λ _. (chosen P (c == 11) (codes "mi") _ h11 (λ _. (chosen P (c == 12) (codes "ge") _ h12 (λ _. (chosen P (c == 13) (codes "lt") _ h13 (λ _. (chosen P (c == 14) (codes "gt") _ h14 (λ _. h15)))))))))))))))))))))))))))))

at_any : (P : Size → Bool) (s : Size) → P One ≡ true → P Two ≡ true → P Four ≡ true → is_any s ≡ true → P s ≡ true
at_any P Zero one two four is = cc
at_any P One one two four is = one
at_any P Two one two four is = two
at_any P Four one two four is = four

at_wide : (P : Size → Bool) (s : Size) → P Two ≡ true → P Four ≡ true → is_wide s ≡ true → P s ≡ true
at_wide P Zero two four is = cc
at_wide P One two four is = cc
at_wide P Two two four is = two
at_wide P Four two four is = four

at_branch : (c : ℕ) (end : List ℕ) → is_name (codes "bra" ++ end) ≡ true → is_name (codes "bsr" ++ end) ≡ true → ((c == 0) ≡ false → (c == 1) ≡ false → is_name ((codes "b" ++ condition_name c) ++ end) ≡ true) → is_name (branch_name c ++ end) ≡ true
at_branch c end bra bsr rest = chosen (λ n. is_name (n ++ end)) (c == 0) (codes "bra") _ bra (λ n0. chosen (λ n. is_name (n ++ end)) (c == 1) (codes "bsr") _ bsr (λ n1. rest n0 n1))

branch : (c used : ℕ) → is_name (branch_name c ++ branch_suffix used) ≡ true
unfolding names stems wide_stems plain_names tested conditions
branch c used =
    chosen (λ end. is_name (branch_name c ++ end)) (used == 1) (codes ".b") (codes ".w")
    (at_branch c (codes ".b") refl refl (λ n0 n1. at_tested (λ n. is_name ((codes "b" ++ n) ++ codes ".b")) c n0 n1 refl refl refl refl refl refl refl refl refl refl refl refl refl refl))
    (λ _. at_branch c (codes ".w") refl refl (λ n0 n1. at_tested (λ n. is_name ((codes "b" ++ n) ++ codes ".w")) c n0 n1 refl refl refl refl refl refl refl refl refl refl refl refl refl refl))

branch_long : (c : ℕ) → is_name (branch_name c ++ codes ".l") ≡ true
unfolding names stems wide_stems plain_names tested conditions
branch_long c = at_branch c (codes ".l") refl refl (λ n0 n1. at_tested (λ n. is_name ((codes "b" ++ n) ++ codes ".l")) c n0 n1 refl refl refl refl refl refl refl refl refl refl refl refl refl refl)

pub listed : (i : Instr68) (used : ℕ) → has_size i ≡ true → is_name (name i used) ≡ true
unfolding names stems wide_stems plain_names tested conditions
listed (Immediate Ori size value to) used h = at_any (λ s. is_name (codes "ori" ++ suffix s)) size refl refl refl h
listed (Immediate Andi size value to) used h = at_any (λ s. is_name (codes "andi" ++ suffix s)) size refl refl refl h
listed (Immediate Subi size value to) used h = at_any (λ s. is_name (codes "subi" ++ suffix s)) size refl refl refl h
listed (Immediate Addi size value to) used h = at_any (λ s. is_name (codes "addi" ++ suffix s)) size refl refl refl h
listed (Immediate Eori size value to) used h = at_any (λ s. is_name (codes "eori" ++ suffix s)) size refl refl refl h
listed (Immediate Cmpi size value to) used h = at_any (λ s. is_name (codes "cmpi" ++ suffix s)) size refl refl refl h
listed (ImmediateToCcr LogicAnd value) used h = refl
listed (ImmediateToCcr LogicOr value) used h = refl
listed (ImmediateToCcr LogicEor value) used h = refl
listed (BitByRegister Btst register to) used h = refl
listed (BitByRegister Bchg register to) used h = refl
listed (BitByRegister Bclr register to) used h = refl
listed (BitByRegister Bset register to) used h = refl
listed (BitByNumber Btst bit to) used h = refl
listed (BitByNumber Bchg bit to) used h = refl
listed (BitByNumber Bclr bit to) used h = refl
listed (BitByNumber Bset bit to) used h = refl
listed (Movep size to_memory register base disp) used h = at_wide (λ s. is_name (codes "movep" ++ suffix s)) size refl refl h
listed (Move size from to) used h = at_any (λ s. is_name (codes "move" ++ suffix s)) size refl refl refl h
listed (Movea size from to) used h = at_wide (λ s. is_name (codes "movea" ++ suffix s)) size refl refl h
listed (Negx size to) used h = at_any (λ s. is_name (codes "negx" ++ suffix s)) size refl refl refl h
listed (Clr size to) used h = at_any (λ s. is_name (codes "clr" ++ suffix s)) size refl refl refl h
listed (Neg size to) used h = at_any (λ s. is_name (codes "neg" ++ suffix s)) size refl refl refl h
listed (Not size to) used h = at_any (λ s. is_name (codes "not" ++ suffix s)) size refl refl refl h
listed (MoveFromSr to) used h = refl
listed (MoveToCcr from) used h = refl
listed (Nbcd to) used h = refl
listed (Swap register) used h = refl
listed (Pea from) used h = refl
listed (Ext size register) used h = at_wide (λ s. is_name (codes "ext" ++ suffix s)) size refl refl h
listed (ExtByte register) used h = refl
listed (MovemToMemory size mask to) used h = at_wide (λ s. is_name (codes "movem" ++ suffix s)) size refl refl h
listed (MovemFromMemory size mask from) used h = at_wide (λ s. is_name (codes "movem" ++ suffix s)) size refl refl h
listed (MulLong true wide by high low) used h = refl
listed (MulLong false wide by high low) used h = refl
listed (DivLong true wide by high low) used h = refl
listed (DivLong false wide by high low) used h = refl
listed (Tst size of) used h = at_any (λ s. is_name (codes "tst" ++ suffix s)) size refl refl refl h
listed (Tas to) used h = refl
listed (Trap number) used h = refl
listed (Link register disp) used h = refl
listed (LinkLong register disp) used h = refl
listed (Unlk register) used h = refl
listed (Plain Nop) used h = refl
listed (Plain Rts) used h = refl
listed (Rtd disp) used h = refl
listed Trapv used h = refl
listed Rtr used h = refl
listed (Jump Jsr to) used h = refl
listed (Jump Jmp to) used h = refl
listed (Chk bound register) used h = refl
listed (Lea from to) used h = refl
listed (Quick Addq size number to) used h = at_any (λ s. is_name (codes "addq" ++ suffix s)) size refl refl refl h
listed (Quick Subq size number to) used h = at_any (λ s. is_name (codes "subq" ++ suffix s)) size refl refl refl h
listed (Scc condition to) used h = at_condition (λ n. is_name (codes "s" ++ n)) condition refl refl refl refl refl refl refl refl refl refl refl refl refl refl refl refl
listed (Dbcc condition register disp) used h = at_condition (λ n. is_name (codes "db" ++ n)) condition refl refl refl refl refl refl refl refl refl refl refl refl refl refl refl refl
listed (Bcc condition disp) used h = branch condition used
listed (BccLong condition disp) used h = branch_long condition
listed (Moveq value to) used h = refl
listed (Or size to_memory register operand) used h = at_any (λ s. is_name (codes "or" ++ suffix s)) size refl refl refl h
listed (Div true by register) used h = refl
listed (Div false by register) used h = refl
listed (Sbcd memory from to) used h = refl
listed (Sub size to_memory register operand) used h = at_any (λ s. is_name (codes "sub" ++ suffix s)) size refl refl refl h
listed (Suba size from to) used h = at_wide (λ s. is_name (codes "suba" ++ suffix s)) size refl refl h
listed (Subx size memory from to) used h = at_any (λ s. is_name (codes "subx" ++ suffix s)) size refl refl refl h
listed (Cmp size with register) used h = at_any (λ s. is_name (codes "cmp" ++ suffix s)) size refl refl refl h
listed (Cmpa size with register) used h = at_wide (λ s. is_name (codes "cmpa" ++ suffix s)) size refl refl h
listed (Eor size register to) used h = at_any (λ s. is_name (codes "eor" ++ suffix s)) size refl refl refl h
listed (Cmpm size from to) used h = at_any (λ s. is_name (codes "cmpm" ++ suffix s)) size refl refl refl h
listed (And size to_memory register operand) used h = at_any (λ s. is_name (codes "and" ++ suffix s)) size refl refl refl h
listed (Mul true by register) used h = refl
listed (Mul false by register) used h = refl
listed (Abcd memory from to) used h = refl
listed (Exg kind upper lower) used h = refl
listed (Add size to_memory register operand) used h = at_any (λ s. is_name (codes "add" ++ suffix s)) size refl refl refl h
listed (Adda size from to) used h = at_wide (λ s. is_name (codes "adda" ++ suffix s)) size refl refl h
listed (Addx size memory from to) used h = at_any (λ s. is_name (codes "addx" ++ suffix s)) size refl refl refl h
listed (Shift As true size count register) used h = at_any (λ s. is_name (codes "asl" ++ suffix s)) size refl refl refl h
listed (Shift As false size count register) used h = at_any (λ s. is_name (codes "asr" ++ suffix s)) size refl refl refl h
listed (Shift Ls true size count register) used h = at_any (λ s. is_name (codes "lsl" ++ suffix s)) size refl refl refl h
listed (Shift Ls false size count register) used h = at_any (λ s. is_name (codes "lsr" ++ suffix s)) size refl refl refl h
listed (Shift Rox true size count register) used h = at_any (λ s. is_name (codes "roxl" ++ suffix s)) size refl refl refl h
listed (Shift Rox false size count register) used h = at_any (λ s. is_name (codes "roxr" ++ suffix s)) size refl refl refl h
listed (Shift Ro true size count register) used h = at_any (λ s. is_name (codes "rol" ++ suffix s)) size refl refl refl h
listed (Shift Ro false size count register) used h = at_any (λ s. is_name (codes "ror" ++ suffix s)) size refl refl refl h
listed (ShiftMemory As true to) used h = refl
listed (ShiftMemory As false to) used h = refl
listed (ShiftMemory Ls true to) used h = refl
listed (ShiftMemory Ls false to) used h = refl
listed (ShiftMemory Rox true to) used h = refl
listed (ShiftMemory Rox false to) used h = refl
listed (ShiftMemory Ro true to) used h = refl
listed (ShiftMemory Ro false to) used h = refl
