use Rattle.std.proofs.Common.{◌≡◌, ◌<◌, ◌-◌, ◌+◌, suc, length, ap, ◌∙◌, true, false, arith, refl, filter}
use Rattle.std.specs.List.{range_with_len}
use Rattle.m68_effects.specs.Multiple.{loaded_along}
use Rattle.m68_movement.proofs.Masks.{has, has_bit, lacks_bit, left_has, left_lacks, one_loaded, one_refused, same_pc}
use Rattle.m68_movement.proofs.multiple.load_along.Goals as goal
use Rattle.m68_movement.proofs.multiple.load_along.Goals.{then-digit-eq1+in-Some, else-digit-eq1}

pub returns-in_default : goal.returns-in_default
returns-in_default c =
    let is : has c.args.mask c.loop-k.k ≡ true = has_bit c.args.mask c.loop-k.k c.digit.result c.digit.ensures (omega arith) in
    let below : c.loop-k.k < 16 = omega arith in
    record {
      is = (
        c.loop-k.invariant.0
            ∙ ap (λ ks. loaded_along c.args.regs.now.pc c.loop-k.regs c.args.ram.now c.loop-k.at c.args.size ks) (left_has c.args.mask c.loop-k.k below is)
            ∙ one_refused _ _ _ _ _ _ _ _ c.in_default.ensures.is,
        refl,
      );
    }

pub loop-k-preserved : goal.loop-k-preserved
loop-k-preserved c =
    let below : c.loop-k.k < 16 = omega arith in
    elim c.if-digit-eq1.branch [
      | then-digit-eq1+in-Some w ↦
          let is : has c.args.mask c.loop-k.k ≡ true = has_bit c.args.mask c.loop-k.k c.digit.result c.digit.ensures (omega arith) in
          let left = left_has c.args.mask c.loop-k.k below is in
          let long : length (filter (has c.args.mask) (range_with_len c.loop-k.k (16 - c.loop-k.k))) ≡ suc (length (filter (has c.args.mask) (range_with_len (c.loop-k.k + 1) (16 - (c.loop-k.k + 1))))) = ap length left in (
            c.loop-k.invariant.0
                ∙ ap (λ ks. loaded_along c.args.regs.now.pc c.loop-k.regs c.args.ram.now c.loop-k.at c.args.size ks) left
                ∙ one_loaded _ _ _ _ _ _ _ _ w.in-Some.ensures.is
                ∙ rw (w.regs-is, w.set_register.ensures, w.sext.ensures, w.at-is, w.onward-at.ensures, w.bytes.ensures) refl,
            omega (arith, c.loop-k.invariant.1, long, w.count-is),
            omega (arith, c.loop-k.invariant.2, w.count-is),
            rw (w.regs-is, w.set_register.ensures) (same_pc c.loop-k.regs c.loop-k.k w.sext.result ∙ c.loop-k.invariant.3),
          )
      | else-digit-eq1 w ↦
          let is : has c.args.mask c.loop-k.k ≡ false = lacks_bit c.args.mask c.loop-k.k c.digit.result c.digit.ensures (λ e. w.if-digit-eq1.false e) in
          let left = left_lacks c.args.mask c.loop-k.k below is in
          let long : length (filter (has c.args.mask) (range_with_len c.loop-k.k (16 - c.loop-k.k))) ≡ length (filter (has c.args.mask) (range_with_len (c.loop-k.k + 1) (16 - (c.loop-k.k + 1)))) = ap length left in
          rw (w.regs-is, w.at-is, w.count-is) (
            c.loop-k.invariant.0
                ∙ ap (λ ks. loaded_along c.args.regs.now.pc c.loop-k.regs c.args.ram.now c.loop-k.at c.args.size ks) left,
            omega (arith, c.loop-k.invariant.1, long),
            omega (arith, c.loop-k.invariant.2),
            c.loop-k.invariant.3,
          )
    ]
