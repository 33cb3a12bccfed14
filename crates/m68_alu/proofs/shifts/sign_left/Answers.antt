use Rattle.std.proofs.Common.{◌≡◌, ◌-◌, ◌*◌, ◌^◌, ◌∙◌, true, false, ap, sym}
use Rattle.mix_bits.specs.Sizes.{modulus, truncated}
use Rattle.std.specs.Prelude.{nat_le, nat_lt}
use Rattle.mix_bits.specs.Signs.{half, is_negative}
use Rattle.m68_alu.specs.Shifts.{ended}
use Rattle.m68_alu.proofs.Overflows.{at-half, from-half, negative_all, plain_all}
use Rattle.m68_alu.proofs.Signs.{below-half}
use Rattle.m68_alu.proofs.Zeros.{left_after, left_all}
use Rattle.m68_alu.proofs.shifts.sign_left.Goals as goal

pub returns-then-is_negative-clause-value : goal.returns-then-is_negative-clause-value
returns-then-is_negative-clause-value c =
    let s = c.args.s in
    let t = truncated c.args.v s in
    let is : is_negative s t ≡ true = rw (← c.trunc-from.ensures) (sym c.is_negative.ensures ∙ c.if-is_negative.true) in
    let same : c.zeros_left-out.result ≡ ended s (left_after s (t * 2 ^ c.args.count) c.args.old.x c.args.count) =
    c.zeros_left-out.ensures.value ∙ ap (ended s) (left_all s c.args.v c.args.old c.args.count c.requires.size) in
    let changed : c.has_left-changed.result ≡ nat_lt (half s) ((modulus s - t) * 2 ^ c.args.count) =
    rw (c.half.ensures.value, c.modulus.ensures.value, c.from.ensures, c.trunc-from.ensures) at c.has_left-changed.ensures in
    rw (same, changed) (ap (ended s) (sym (negative_all s c.args.v c.args.old c.args.count c.requires.size (at-half s t is))))

pub returns-else-is_negative-clause-value : goal.returns-else-is_negative-clause-value
returns-else-is_negative-clause-value c =
    let s = c.args.s in
    let t = truncated c.args.v s in
    let is : is_negative s t ≡ false = rw (← c.trunc-from.ensures) (sym c.is_negative.ensures ∙ c.if-is_negative.false) in
    let same : c.zeros_left-out.result ≡ ended s (left_after s (t * 2 ^ c.args.count) c.args.old.x c.args.count) =
    c.zeros_left-out.ensures.value ∙ ap (ended s) (left_all s c.args.v c.args.old c.args.count c.requires.size) in
    let changed : c.has_left-changed-else-is_negative.result ≡ nat_le (half s) (t * 2 ^ c.args.count) =
    (rw (c.half-else-is_negative.ensures.value, c.trunc-from.ensures) at c.has_left-changed-else-is_negative.ensures) ∙ from-half s (t * 2 ^ c.args.count) in
    rw (same, changed) (ap (ended s) (sym (plain_all s c.args.v c.args.old c.args.count c.requires.size (below-half s t is))))
