use Rattle.std.proofs.Common.{◌≡◌, ◌%◌, ◌<◌, ◌==◌, false, arith, refl}
use Rattle.mix_bits.specs.Digits.{digit_of}
use Rattle.ppc_isa.specs.Operations.{operation}
use Rattle.ppc_isa.proofs.Apart.{apart, apart_both}
use Rattle.ppc_isa.proofs.operation.op_31.Goals as goal

pub returns-in_default-45 : goal.returns-in_default-45
unfolding operation
returns-in_default-45 c =
    let small : digit_of c.args.word 1 10 < 1024 = omega arith in
    let n8 : ((digit_of c.args.word 1 10 % 512) == 8) ≡ false = apart_both (digit_of c.args.word 1 10) 8 small (omega arith) (omega arith) (omega arith) in
    let n10 : ((digit_of c.args.word 1 10 % 512) == 10) ≡ false = apart_both (digit_of c.args.word 1 10) 10 small (omega arith) (omega arith) (omega arith) in
    let n40 : ((digit_of c.args.word 1 10 % 512) == 40) ≡ false = apart_both (digit_of c.args.word 1 10) 40 small (omega arith) (omega arith) (omega arith) in
    let n104 : ((digit_of c.args.word 1 10 % 512) == 104) ≡ false = apart_both (digit_of c.args.word 1 10) 104 small (omega arith) (omega arith) (omega arith) in
    let n136 : ((digit_of c.args.word 1 10 % 512) == 136) ≡ false = apart_both (digit_of c.args.word 1 10) 136 small (omega arith) (omega arith) (omega arith) in
    let n138 : ((digit_of c.args.word 1 10 % 512) == 138) ≡ false = apart_both (digit_of c.args.word 1 10) 138 small (omega arith) (omega arith) (omega arith) in
    let n200 : ((digit_of c.args.word 1 10 % 512) == 200) ≡ false = apart_both (digit_of c.args.word 1 10) 200 small (omega arith) (omega arith) (omega arith) in
    let n202 : ((digit_of c.args.word 1 10 % 512) == 202) ≡ false = apart_both (digit_of c.args.word 1 10) 202 small (omega arith) (omega arith) (omega arith) in
    let n232 : ((digit_of c.args.word 1 10 % 512) == 232) ≡ false = apart_both (digit_of c.args.word 1 10) 232 small (omega arith) (omega arith) (omega arith) in
    let n234 : ((digit_of c.args.word 1 10 % 512) == 234) ≡ false = apart_both (digit_of c.args.word 1 10) 234 small (omega arith) (omega arith) (omega arith) in
    let n235 : ((digit_of c.args.word 1 10 % 512) == 235) ≡ false = apart_both (digit_of c.args.word 1 10) 235 small (omega arith) (omega arith) (omega arith) in
    let n266 : ((digit_of c.args.word 1 10 % 512) == 266) ≡ false = apart_both (digit_of c.args.word 1 10) 266 small (omega arith) (omega arith) (omega arith) in
    let n459 : ((digit_of c.args.word 1 10 % 512) == 459) ≡ false = apart_both (digit_of c.args.word 1 10) 459 small (omega arith) (omega arith) (omega arith) in
    let n491 : ((digit_of c.args.word 1 10 % 512) == 491) ≡ false = apart_both (digit_of c.args.word 1 10) 491 small (omega arith) (omega arith) (omega arith) in
    let n0 : (digit_of c.args.word 1 10 == 0) ≡ false = apart (digit_of c.args.word 1 10) 0 (omega arith) in
    let n4 : (digit_of c.args.word 1 10 == 4) ≡ false = apart (digit_of c.args.word 1 10) 4 (omega arith) in
    let n11 : (digit_of c.args.word 1 10 == 11) ≡ false = apart (digit_of c.args.word 1 10) 11 (omega arith) in
    let n19 : (digit_of c.args.word 1 10 == 19) ≡ false = apart (digit_of c.args.word 1 10) 19 (omega arith) in
    let n23 : (digit_of c.args.word 1 10 == 23) ≡ false = apart (digit_of c.args.word 1 10) 23 (omega arith) in
    let n24 : (digit_of c.args.word 1 10 == 24) ≡ false = apart (digit_of c.args.word 1 10) 24 (omega arith) in
    let n26 : (digit_of c.args.word 1 10 == 26) ≡ false = apart (digit_of c.args.word 1 10) 26 (omega arith) in
    let n28 : (digit_of c.args.word 1 10 == 28) ≡ false = apart (digit_of c.args.word 1 10) 28 (omega arith) in
    let n32 : (digit_of c.args.word 1 10 == 32) ≡ false = apart (digit_of c.args.word 1 10) 32 (omega arith) in
    let n55 : (digit_of c.args.word 1 10 == 55) ≡ false = apart (digit_of c.args.word 1 10) 55 (omega arith) in
    let n60 : (digit_of c.args.word 1 10 == 60) ≡ false = apart (digit_of c.args.word 1 10) 60 (omega arith) in
    let n75 : (digit_of c.args.word 1 10 == 75) ≡ false = apart (digit_of c.args.word 1 10) 75 (omega arith) in
    let n87 : (digit_of c.args.word 1 10 == 87) ≡ false = apart (digit_of c.args.word 1 10) 87 (omega arith) in
    let n119 : (digit_of c.args.word 1 10 == 119) ≡ false = apart (digit_of c.args.word 1 10) 119 (omega arith) in
    let n124 : (digit_of c.args.word 1 10 == 124) ≡ false = apart (digit_of c.args.word 1 10) 124 (omega arith) in
    let n144 : (digit_of c.args.word 1 10 == 144) ≡ false = apart (digit_of c.args.word 1 10) 144 (omega arith) in
    let n151 : (digit_of c.args.word 1 10 == 151) ≡ false = apart (digit_of c.args.word 1 10) 151 (omega arith) in
    let n183 : (digit_of c.args.word 1 10 == 183) ≡ false = apart (digit_of c.args.word 1 10) 183 (omega arith) in
    let n215 : (digit_of c.args.word 1 10 == 215) ≡ false = apart (digit_of c.args.word 1 10) 215 (omega arith) in
    let n247 : (digit_of c.args.word 1 10 == 247) ≡ false = apart (digit_of c.args.word 1 10) 247 (omega arith) in
    let n279 : (digit_of c.args.word 1 10 == 279) ≡ false = apart (digit_of c.args.word 1 10) 279 (omega arith) in
    let n284 : (digit_of c.args.word 1 10 == 284) ≡ false = apart (digit_of c.args.word 1 10) 284 (omega arith) in
    let n311 : (digit_of c.args.word 1 10 == 311) ≡ false = apart (digit_of c.args.word 1 10) 311 (omega arith) in
    let n316 : (digit_of c.args.word 1 10 == 316) ≡ false = apart (digit_of c.args.word 1 10) 316 (omega arith) in
    let n339 : (digit_of c.args.word 1 10 == 339) ≡ false = apart (digit_of c.args.word 1 10) 339 (omega arith) in
    let n343 : (digit_of c.args.word 1 10 == 343) ≡ false = apart (digit_of c.args.word 1 10) 343 (omega arith) in
    let n375 : (digit_of c.args.word 1 10 == 375) ≡ false = apart (digit_of c.args.word 1 10) 375 (omega arith) in
    let n407 : (digit_of c.args.word 1 10 == 407) ≡ false = apart (digit_of c.args.word 1 10) 407 (omega arith) in
    let n412 : (digit_of c.args.word 1 10 == 412) ≡ false = apart (digit_of c.args.word 1 10) 412 (omega arith) in
    let n439 : (digit_of c.args.word 1 10 == 439) ≡ false = apart (digit_of c.args.word 1 10) 439 (omega arith) in
    let n444 : (digit_of c.args.word 1 10 == 444) ≡ false = apart (digit_of c.args.word 1 10) 444 (omega arith) in
    let n467 : (digit_of c.args.word 1 10 == 467) ≡ false = apart (digit_of c.args.word 1 10) 467 (omega arith) in
    let n476 : (digit_of c.args.word 1 10 == 476) ≡ false = apart (digit_of c.args.word 1 10) 476 (omega arith) in
    let n512 : (digit_of c.args.word 1 10 == 512) ≡ false = apart (digit_of c.args.word 1 10) 512 (omega arith) in
    let n533 : (digit_of c.args.word 1 10 == 533) ≡ false = apart (digit_of c.args.word 1 10) 533 (omega arith) in
    let n534 : (digit_of c.args.word 1 10 == 534) ≡ false = apart (digit_of c.args.word 1 10) 534 (omega arith) in
    let n536 : (digit_of c.args.word 1 10 == 536) ≡ false = apart (digit_of c.args.word 1 10) 536 (omega arith) in
    let n597 : (digit_of c.args.word 1 10 == 597) ≡ false = apart (digit_of c.args.word 1 10) 597 (omega arith) in
    let n598 : (digit_of c.args.word 1 10 == 598) ≡ false = apart (digit_of c.args.word 1 10) 598 (omega arith) in
    let n661 : (digit_of c.args.word 1 10 == 661) ≡ false = apart (digit_of c.args.word 1 10) 661 (omega arith) in
    let n662 : (digit_of c.args.word 1 10 == 662) ≡ false = apart (digit_of c.args.word 1 10) 662 (omega arith) in
    let n725 : (digit_of c.args.word 1 10 == 725) ≡ false = apart (digit_of c.args.word 1 10) 725 (omega arith) in
    let n790 : (digit_of c.args.word 1 10 == 790) ≡ false = apart (digit_of c.args.word 1 10) 790 (omega arith) in
    let n792 : (digit_of c.args.word 1 10 == 792) ≡ false = apart (digit_of c.args.word 1 10) 792 (omega arith) in
    let n824 : (digit_of c.args.word 1 10 == 824) ≡ false = apart (digit_of c.args.word 1 10) 824 (omega arith) in
    let n918 : (digit_of c.args.word 1 10 == 918) ≡ false = apart (digit_of c.args.word 1 10) 918 (omega arith) in
    let n922 : (digit_of c.args.word 1 10 == 922) ≡ false = apart (digit_of c.args.word 1 10) 922 (omega arith) in
    let n954 : (digit_of c.args.word 1 10 == 954) ≡ false = apart (digit_of c.args.word 1 10) 954 (omega arith) in
    rw (c.requires, n8, n10, n40, n104, n136, n138, n200, n202, n232, n234, n235, n266, n459, n491, n0, n4, n11, n19, n23, n24, n26, n28, n32, n55, n60, n75, n87, n119, n124, n144, n151, n183, n215, n247, n279, n284, n311, n316, n339, n343, n375, n407, n412, n439, n444, n467, n476, n512, n533, n534, n536, n597, n598, n661, n662, n725, n790, n792, n824, n918, n922, n954) refl
