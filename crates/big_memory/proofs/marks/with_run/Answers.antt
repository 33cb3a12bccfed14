use Rattle.std.proofs.Common.{◌≡◌, ℕ, ◌-◌, ◌*◌, ◌%◌, ◌^◌, ◌≤◌, ◌==◌, bit_and, bit_or, inl, inr, lit<, arith, ap, sym, ◌∙◌}
use Rattle.std.proofs.Math.Nat.{pow-le-pow_right}
use Rattle.std.specs.Int.{bit_at}
use Rattle.big_memory.proofs.Packed.{bits-or, bits-or_kept, bits-and, bits-and_kept, mask-is, power-fits}
use Rattle.big_memory.proofs.marks.with_run.Goals as goal

pub overflow_sub-run : goal.overflow_sub-run
overflow_sub-run c =
    let first : 1 * 2 ^ c.args.place % 2 ^ 64 ≡ 2 ^ c.args.place = power-fits c.args.place (omega arith) in
    let last : 1 * 2 ^ c.args.end % 2 ^ 64 ≡ 2 ^ c.args.end = power-fits c.args.end c.requires.within in
    let more : 2 ^ c.args.place ≤ 2 ^ c.args.end = pow-le-pow_right (lit< tt) c.requires.order in
    omega arith

-- a bit of the word with the mask's ones, and with its zeros
with_ones : (word place end k v : ℕ) → place ≤ end → end ≤ 32 → bit_at (bit_or word (2 ^ end - 2 ^ place)) k ≡ v → bit_at (bit_or word (1 * 2 ^ end % 2 ^ 64 - 1 * 2 ^ place % 2 ^ 64)) k ≡ v
with_ones word place end k v order within is = ap (λ mask. bit_at (bit_or word mask) k) (mask-is place end order within) ∙ is

with_zeros : (word place end k v : ℕ) → place ≤ end → end ≤ 32 → bit_at (bit_and word (4294967295 - (2 ^ end - 2 ^ place))) k ≡ v → bit_at (bit_and word (4294967295 - (1 * 2 ^ end % 2 ^ 64 - 1 * 2 ^ place % 2 ^ 64))) k ≡ v
with_zeros word place end k v order within is = ap (λ mask. bit_at (bit_and word (4294967295 - mask)) k) (mask-is place end order within) ∙ is

pub returns-then-on-clause-inside : goal.returns-then-on-clause-inside
returns-then-on-clause-inside c k from to =
    ap (λ bit. bit == 1) (with_ones c.args.word c.args.place c.args.end k 1 c.requires.order c.requires.within (bits-or c.args.word c.args.place c.args.end k from to)) ∙ sym c.if-on.true

pub returns-then-on-clause-below : goal.returns-then-on-clause-below
returns-then-on-clause-below c k low =
    with_ones c.args.word c.args.place c.args.end k _ c.requires.order c.requires.within (bits-or_kept c.args.word c.args.place c.args.end k (inl low))

pub returns-then-on-clause-above : goal.returns-then-on-clause-above
returns-then-on-clause-above c k high small =
    with_ones c.args.word c.args.place c.args.end k _ c.requires.order c.requires.within (bits-or_kept c.args.word c.args.place c.args.end k (inr high))

pub returns-else-on-clause-inside : goal.returns-else-on-clause-inside
returns-else-on-clause-inside c k from to =
    ap (λ bit. bit == 1) (with_zeros c.args.word c.args.place c.args.end k 0 c.requires.order c.requires.within (bits-and c.args.word c.args.place c.args.end k c.requires.within from to)) ∙ sym c.if-on.false

pub returns-else-on-clause-below : goal.returns-else-on-clause-below
returns-else-on-clause-below c k low =
    with_zeros c.args.word c.args.place c.args.end k _ c.requires.order c.requires.within (bits-and_kept c.args.word c.args.place c.args.end k c.requires.within (omega (arith, low, c.requires.order, c.requires.within)) (inl low))

pub returns-else-on-clause-above : goal.returns-else-on-clause-above
returns-else-on-clause-above c k high small =
    with_zeros c.args.word c.args.place c.args.end k _ c.requires.order c.requires.within (bits-and_kept c.args.word c.args.place c.args.end k c.requires.within small (inr high))
