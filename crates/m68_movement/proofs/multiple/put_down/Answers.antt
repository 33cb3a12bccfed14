use Rattle.std.proofs.Common.{◌≡◌, ◌≤◌, ◌<◌, ◌+◌, ◌-◌, ◌*◌, ◌^◌, ◌∙◌, ap, arith, false, filter, length, map, suc, true}
use Rattle.std.specs.List.{range_with_len}
use Rattle.mix_bits.specs.declared.fault.FaultKind.TheVariants.{Odd}
use Rattle.mix_bits.specs.Sizes.{bytes_of}
use Rattle.mix_bits.specs.Faults.{fault_at}
use Rattle.mix_bits.proofs.Sizes.{bytes-few}
use Rattle.m68_effects.specs.Multiple.{listed, register_of, stored_down}
use Rattle.m68_movement.specs.inner.Along.{CanStore}
use Rattle.m68_movement.proofs.Down.{last_place, may_below, none_down, one_down, one_less, place_below}
use Rattle.m68_movement.proofs.Masks.{all_listed, has, has_bit, lacks_bit, left_has, left_lacks}
use Rattle.m68_movement.proofs.Stores.{can_store}
use Rattle.m68_movement.proofs.multiple.put_down.Goals as goal
use Rattle.m68_movement.proofs.multiple.put_down.Goals.{then-digit-eq1, else-digit-eq1}

pub loop-k-init : goal.loop-k-init
loop-k-init c = (
  ap (λ ks. stored_down c.args.regs.now.pc c.args.ram.now c.args.base c.args.size (map (λ k. register_of c.args.regs.now (15 - k)) ks)) (all_listed c.args.mask),
  c.memory_laws.ensures.nothing c.args.ram.now,
  ap (λ ks. c.args.base + bytes_of c.args.size * length ks) (all_listed c.args.mask),
  omega arith,
  omega arith,
)

pub put-requires : goal.put-requires
put-requires c =
    let at : c.bytes-at.result ≡ bytes_of c.args.size = c.bytes-at.ensures in
    let none = may_below c.args.ram.now c.args.base c.loop-k.at c.loop-k.k (bytes_of c.args.size) c.memory_laws.ensures.within c.meets_invariant.ensures c.requires.open c.requires.from
    c.loop-k.invariant.4 (omega arith) c.loop-k.invariant.3 (bytes-few c.args.size) in
    rw at (c.memory_laws.ensures.refusals c.args.ram.now c.loop-k.ram (c.loop-k.at - bytes_of c.args.size) (bytes_of c.args.size) c.loop-k.invariant.1 ∙ none)

pub loop-k-preserved : goal.loop-k-preserved
loop-k-preserved c =
    let below : c.loop-k.k < 16 = omega arith in
    let rest = filter (has c.args.mask) (range_with_len (c.loop-k.k + 1) (16 - (c.loop-k.k + 1))) in
    elim c.if-digit-eq1.branch [
      | then-digit-eq1 w ↦
          let is : has c.args.mask c.loop-k.k ≡ true = has_bit c.args.mask c.loop-k.k c.digit.result c.digit.ensures (omega arith) in
          let left = left_has c.args.mask c.loop-k.k below is in
          let few : bytes_of c.args.size ≤ 4 = bytes-few c.args.size in
          let within : bytes_of c.args.size ≤ c.loop-k.at = omega (arith, few, c.loop-k.invariant.4, c.requires.from, below) in
          let none = may_below c.args.ram.now c.args.base c.loop-k.at c.loop-k.k (bytes_of c.args.size) c.memory_laws.ensures.within c.meets_invariant.ensures c.requires.open c.requires.from
          c.loop-k.invariant.4 below c.loop-k.invariant.3 few in
          let can : CanStore c.args.regs.now.pc c.args.ram.now (c.loop-k.at - bytes_of c.args.size) c.args.size true (fault_at 0 Odd 0) =
          can_store _ _ _ _ (fault_at 0 Odd 0) c.memory_laws.ensures.refusals c.memory_laws.ensures.ram c.memory_laws.ensures.joins c.memory_laws.ensures.stores c.meets_invariant.ensures
          none in
          let fits : c.loop-k.at < 2 ^ 32 = omega (arith, c.loop-k.invariant.3, c.ranges.base.fits) in
          let long : length (filter (has c.args.mask) (range_with_len c.loop-k.k (16 - c.loop-k.k))) ≡ suc (length rest) = ap length left in
          rw (w.ram-is, w.put.ensures, w.register.ensures, w.at-is, w.bytes-at.ensures) (
            c.loop-k.invariant.0
                ∙ ap (λ ks. stored_down c.args.regs.now.pc c.loop-k.ram c.loop-k.at c.args.size (map (λ k. register_of c.args.regs.now (15 - k)) ks)) left
                ∙ one_down _ _ _ _ _ _ _ _ (fault_at 0 Odd 0) can c.loop-k.invariant.1 (place_below c.loop-k.at (bytes_of c.args.size) within fits),
            (can c.loop-k.ram (register_of c.args.regs.now (15 - c.loop-k.k)) c.loop-k.invariant.1).1,
            one_less c.loop-k.at (bytes_of c.args.size) (length (listed c.args.mask)) c.args.base (length rest) within (rw long at c.loop-k.invariant.2),
            omega (arith, c.loop-k.invariant.3),
            omega (arith, few, within, c.loop-k.invariant.4),
          )
      | else-digit-eq1 w ↦
          let is : has c.args.mask c.loop-k.k ≡ false = lacks_bit c.args.mask c.loop-k.k c.digit.result c.digit.ensures (λ e. w.if-digit-eq1.false e) in
          let left = left_lacks c.args.mask c.loop-k.k below is in
          rw (w.ram-is, w.at-is) (
            c.loop-k.invariant.0
                ∙ ap (λ ks. stored_down c.args.regs.now.pc c.loop-k.ram c.loop-k.at c.args.size (map (λ k. register_of c.args.regs.now (15 - k)) ks)) left,
            c.loop-k.invariant.1,
            c.loop-k.invariant.2 ∙ ap (λ ks. c.args.base + bytes_of c.args.size * length ks) left,
            c.loop-k.invariant.3,
            omega (arith, c.loop-k.invariant.4),
          )
    ]

pub returns-clause-is : goal.returns-clause-is
returns-clause-is c =
    let end : c.loop-k.k ≡ 16 = omega arith in
    (rw end at c.loop-k.invariant.0) ∙ none_down c.args.regs.now.pc c.loop-k.ram c.loop-k.at c.args.size

pub returns-clause-end : goal.returns-clause-end
returns-clause-end c =
    let end : c.loop-k.k ≡ 16 = omega arith in
    last_place c.loop-k.at (bytes_of c.args.size) (bytes_of c.args.size * length (listed c.args.mask)) c.args.base (rw end at c.loop-k.invariant.2) c.ranges.base.fits
