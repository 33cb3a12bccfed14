use Rattle.std.proofs.Common.{◌≡◌, nat_eq, false, sym, add-zero, refl, arith}
use Rattle.std.proofs.lemmas.Bool.{ne_eqb}
use Rattle.m68_ea.proofs.words.extension_words.Goals as goal

pub returns-in-0-clause-count : goal.returns-in-0-clause-count
returns-in-0-clause-count c = λ ws at. rw c.in-0.is (sym (add-zero at))

pub returns-in-1-clause-count : goal.returns-in-1-clause-count
returns-in-1-clause-count c = λ ws at. rw c.in-1.is (sym (add-zero at))

pub returns-in-2-clause-count : goal.returns-in-2-clause-count
returns-in-2-clause-count c = λ ws at. rw c.in-2.is (sym (add-zero at))

pub returns-in-3-clause-count : goal.returns-in-3-clause-count
returns-in-3-clause-count c = λ ws at. rw c.in-3.is (sym (add-zero at))

pub returns-in-4-clause-count : goal.returns-in-4-clause-count
returns-in-4-clause-count c = λ ws at. rw c.in-4.is (sym (add-zero at))

pub returns-in-5-clause-count : goal.returns-in-5-clause-count
returns-in-5-clause-count c = λ ws at. rw c.in-5.is refl

pub returns-in-6-clause-count : goal.returns-in-6-clause-count
returns-in-6-clause-count c = λ ws at. rw c.in-6.is refl

-- what is left is mode 7
pub returns-in_default-clause-count : goal.returns-in_default-clause-count
returns-in_default-clause-count c = λ ws at.
    let not0 : nat_eq c.args.mode 0 ≡ false = ne_eqb _ 0 (omega arith) in
    let not1 : nat_eq c.args.mode 1 ≡ false = ne_eqb _ 1 (omega arith) in
    let not2 : nat_eq c.args.mode 2 ≡ false = ne_eqb _ 2 (omega arith) in
    let not3 : nat_eq c.args.mode 3 ≡ false = ne_eqb _ 3 (omega arith) in
    let not4 : nat_eq c.args.mode 4 ≡ false = ne_eqb _ 4 (omega arith) in
    let not5 : nat_eq c.args.mode 5 ≡ false = ne_eqb _ 5 (omega arith) in
    let not6 : nat_eq c.args.mode 6 ≡ false = ne_eqb _ 6 (omega arith) in
    rw (not0, not1, not2, not3, not4, not5, not6) (c.special_words.ensures.count ws at)

pub returns-in_default-clause-most : goal.returns-in_default-clause-most
returns-in_default-clause-most c = c.special_words.ensures.most
