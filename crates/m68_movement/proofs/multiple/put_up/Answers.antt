use Rattle.std.proofs.Common.{◌≡◌, ◌≤◌, ◌<◌, ◌+◌, ◌∙◌, ap, arith, false, map, true}
use Rattle.mix_bits.specs.declared.fault.FaultKind.TheVariants.{Odd}
use Rattle.mix_bits.specs.Addresses.{onward}
use Rattle.mix_bits.specs.Sizes.{bytes_of}
use Rattle.mix_bits.specs.Faults.{fault_at}
use Rattle.mix_bits.proofs.Sizes.{bytes-few}
use Rattle.m68_effects.specs.Multiple.{register_of, stored_along}
use Rattle.m68_movement.specs.inner.Along.{CanStore}
use Rattle.m68_movement.proofs.Up.{may_above, none_up, one_up, onward_within, small_open}
use Rattle.m68_movement.proofs.Masks.{all_listed, has, has_bit, lacks_bit, left_has, left_lacks}
use Rattle.m68_movement.proofs.Stores.{can_store}
use Rattle.m68_movement.proofs.multiple.put_up.Goals as goal
use Rattle.m68_movement.proofs.multiple.put_up.Goals.{then-digit-eq1, else-digit-eq1}

pub loop-k-init : goal.loop-k-init
loop-k-init c = (
  ap (λ ks. stored_along c.args.regs.now.pc c.args.ram.now c.args.a (bytes_of c.args.size) c.args.size (map (register_of c.args.regs.now) ks)) (all_listed c.args.mask),
  c.memory_laws.ensures.nothing c.args.ram.now,
  omega arith,
  omega arith,
)

pub put-requires : goal.put-requires
put-requires c =
    c.memory_laws.ensures.refusals c.args.ram.now c.loop-k.ram c.loop-k.at (bytes_of c.args.size) c.loop-k.invariant.1
    ∙ may_above c.args.ram.now c.args.a c.loop-k.at c.loop-k.k (bytes_of c.args.size) c.memory_laws.ensures.within c.meets_invariant.ensures c.requires
    c.loop-k.invariant.2 c.loop-k.invariant.3 (omega arith) (bytes-few c.args.size)

pub loop-k-preserved : goal.loop-k-preserved
loop-k-preserved c =
    let below : c.loop-k.k < 16 = omega arith in
    elim c.if-digit-eq1.branch [
      | then-digit-eq1 w ↦
          let is : has c.args.mask c.loop-k.k ≡ true = has_bit c.args.mask c.loop-k.k c.digit.result c.digit.ensures (omega arith) in
          let left = left_has c.args.mask c.loop-k.k below is in
          let few : bytes_of c.args.size ≤ 4 = bytes-few c.args.size in
          let none = may_above c.args.ram.now c.args.a c.loop-k.at c.loop-k.k (bytes_of c.args.size) c.memory_laws.ensures.within c.meets_invariant.ensures c.requires
          c.loop-k.invariant.2 c.loop-k.invariant.3 below few in
          let can : CanStore c.args.regs.now.pc c.args.ram.now c.loop-k.at c.args.size true (fault_at 0 Odd 0) =
          can_store _ _ _ _ (fault_at 0 Odd 0) c.memory_laws.ensures.refusals c.memory_laws.ensures.ram c.memory_laws.ensures.joins c.memory_laws.ensures.stores c.meets_invariant.ensures
          none in
          let end : c.args.a + 64 ≤ 16777216 = small_open c.args.ram.now c.args.a c.memory_laws.ensures.passes c.meets_invariant.ensures.most c.requires in
          let next : onward c.loop-k.at (bytes_of c.args.size) ≡ c.loop-k.at + bytes_of c.args.size = onward_within _ _ (omega (arith, few, end, below, c.loop-k.invariant.3)) in
          rw (w.ram-is, w.put.ensures, w.register.ensures, w.at-is, w.onward-at.ensures, w.bytes.ensures) (
            c.loop-k.invariant.0
                ∙ ap (λ ks. stored_along c.args.regs.now.pc c.loop-k.ram c.loop-k.at (bytes_of c.args.size) c.args.size (map (register_of c.args.regs.now) ks)) left
                ∙ one_up _ _ _ _ _ _ _ _ (fault_at 0 Odd 0) can c.loop-k.invariant.1,
            (can c.loop-k.ram (register_of c.args.regs.now c.loop-k.k) c.loop-k.invariant.1).1,
            rw next (omega (arith, c.loop-k.invariant.2)),
            rw next (omega (arith, few, c.loop-k.invariant.3)),
          )
      | else-digit-eq1 w ↦
          let is : has c.args.mask c.loop-k.k ≡ false = lacks_bit c.args.mask c.loop-k.k c.digit.result c.digit.ensures (λ e. w.if-digit-eq1.false e) in
          let left = left_lacks c.args.mask c.loop-k.k below is in
          rw (w.ram-is, w.at-is) (
            c.loop-k.invariant.0
                ∙ ap (λ ks. stored_along c.args.regs.now.pc c.loop-k.ram c.loop-k.at (bytes_of c.args.size) c.args.size (map (register_of c.args.regs.now) ks)) left,
            c.loop-k.invariant.1,
            c.loop-k.invariant.2,
            omega (arith, c.loop-k.invariant.3),
          )
    ]

pub returns-clause-is : goal.returns-clause-is
returns-clause-is c =
    let end : c.loop-k.k ≡ 16 = omega arith in
    (rw end at c.loop-k.invariant.0) ∙ none_up c.args.regs.now.pc c.loop-k.ram c.loop-k.at (bytes_of c.args.size) c.args.size
