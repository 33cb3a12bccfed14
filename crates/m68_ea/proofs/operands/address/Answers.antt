use Rattle.std.proofs.Common.{◌≡◌, ℕ, ◌<◌, false, nat_eq, arith}
use Rattle.std.proofs.lemmas.Bool.Decides.{nat_tests}
use Rattle.m68_ea.proofs.operands.address.Goals as goal

differs : (n k : ℕ) → k < n → nat_eq n k ≡ false
differs n k h = grind (arith, nat_tests)

-- what is left of the control modes is mode 7
pub returns-in_default-clause-is : goal.returns-in_default-clause-is
returns-in_default-clause-is c =
    let h : 6 < c.args.mode = grind (arith, nat_tests, c.requires.control) in
    let not0 : nat_eq c.args.mode 0 ≡ false = differs _ 0 (omega (arith, h)) in
    let not1 : nat_eq c.args.mode 1 ≡ false = differs _ 1 (omega (arith, h)) in
    let not2 : nat_eq c.args.mode 2 ≡ false = differs _ 2 (omega (arith, h)) in
    let not3 : nat_eq c.args.mode 3 ≡ false = differs _ 3 (omega (arith, h)) in
    let not4 : nat_eq c.args.mode 4 ≡ false = differs _ 4 (omega (arith, h)) in
    let not5 : nat_eq c.args.mode 5 ≡ false = differs _ 5 (omega (arith, h)) in
    let not6 : nat_eq c.args.mode 6 ≡ false = differs _ 6 (omega (arith, h)) in
    rw (not0, not1, not2, not3, not4, not5, not6) c.special_address.ensures.is
