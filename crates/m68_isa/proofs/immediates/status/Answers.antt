use Rattle.std.proofs.Common.{◌≡◌, ◌≢◌, false, inl, inr, arith}
use Rattle.m68_isa.specs.First.{first_of}
use Rattle.m68_isa.specs.Immediates.{is_immediate}
use Rattle.m68_isa.proofs.Absent.{apart, never_both, no_status}
use Rattle.m68_isa.proofs.immediates.status.Goals as goal

pub returns-then-not-is_immediate-clause-value : goal.returns-then-not-is_immediate-clause-value
returns-then-not-is_immediate-clause-value c =
    let none : is_immediate (first_of c.args.word) ≡ false = cc in
    no_status c.args.word c.requires.line c.requires.even c.requires.logic c.requires.other (never_both _ _ (inr none)) (never_both _ _ (inr none))

pub returns-in_default-clause-value : goal.returns-in_default-clause-value
returns-in_default-clause-value c =
    let byte : (first_of c.args.word).size ≢ 0 = omega arith in
    let word : (first_of c.args.word).size ≢ 1 = omega arith in
    no_status c.args.word c.requires.line c.requires.even c.requires.logic c.requires.other (never_both _ _ (inl (apart _ 0 byte))) (never_both _ _ (inl (apart _ 1 word)))
