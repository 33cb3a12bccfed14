use Rattle.std.proofs.Common.{◌≡◌, ◌≤◌, ◌<◌, ◌+◌, ◌-◌, ◌∙◌, ap, arith, false, filter, length, refl, suc, true}
use Rattle.std.specs.List.{range_with_len}
use Rattle.mix_bits.specs.Addresses.{onward}
use Rattle.mix_bits.specs.Sizes.{bytes_of}
use Rattle.mix_bits.proofs.Sizes.{bytes-few}
use Rattle.m68_effects.specs.Multiple.{listed, loaded_along}
use Rattle.m68_movement.proofs.Up.{is_loaded, not_refused, onward_within, small_end, there_above}
use Rattle.m68_movement.proofs.Masks.{all_listed, has, has_bit, lacks_bit, left_has, left_lacks, none_loaded, one_loaded, same_pc}
use Rattle.m68_movement.proofs.multiple.take_all.Goals as goal
use Rattle.m68_movement.proofs.multiple.take_all.Goals.{then-digit-eq1+in-Ok, else-digit-eq1}

pub loop-k-init : goal.loop-k-init
loop-k-init c =
    let all : length (listed c.args.mask) ≡ length (filter (has c.args.mask) (range_with_len 0 16)) = ap length (all_listed c.args.mask) in (
      ap (λ ks. loaded_along c.args.regs.now.pc c.args.regs.now c.args.ram.now c.args.a c.args.size ks) (all_listed c.args.mask),
      omega (arith, all),
      omega arith,
      refl,
      omega arith,
      omega arith,
    )

pub unreachable-requires : goal.unreachable-requires
unreachable-requires c =
    absurd (not_refused c.args.ram.now c.loop-k.at c.args.size _
    (there_above c.args.ram.now c.args.a c.loop-k.at c.loop-k.k (bytes_of c.args.size) c.memory_laws.ensures.inside c.requires c.loop-k.invariant.4 c.loop-k.invariant.5 (omega arith) (bytes-few c.args.size))
    c.in_default.ensures.is)

pub loop-k-preserved : goal.loop-k-preserved
loop-k-preserved c =
    let below : c.loop-k.k < 16 = omega arith in
    let rest = filter (has c.args.mask) (range_with_len (c.loop-k.k + 1) (16 - (c.loop-k.k + 1))) in
    elim c.if-digit-eq1.branch [
      | then-digit-eq1+in-Ok w ↦
          let is : has c.args.mask c.loop-k.k ≡ true = has_bit c.args.mask c.loop-k.k c.digit.result c.digit.ensures (omega arith) in
          let left = left_has c.args.mask c.loop-k.k below is in
          let few : bytes_of c.args.size ≤ 4 = bytes-few c.args.size in
          let end : c.args.a + 64 ≤ 16777216 = small_end c.args.ram.now c.args.a c.meets_invariant.ensures.most c.requires in
          let next : onward c.loop-k.at (bytes_of c.args.size) ≡ c.loop-k.at + bytes_of c.args.size = onward_within _ _ (omega (arith, few, end, below, c.loop-k.invariant.5)) in
          let long : length (filter (has c.args.mask) (range_with_len c.loop-k.k (16 - c.loop-k.k))) ≡ suc (length rest) = ap length left in (
            c.loop-k.invariant.0
                ∙ ap (λ ks. loaded_along c.args.regs.now.pc c.loop-k.regs c.args.ram.now c.loop-k.at c.args.size ks) left
                ∙ one_loaded _ _ _ _ _ _ _ _ (is_loaded c.args.regs.now.pc c.args.ram.now c.loop-k.at c.args.size _ w.in-Ok.ensures.is)
                ∙ rw (w.regs-is, w.set_register.ensures, w.sext.ensures, w.at-is, w.onward-at.ensures, w.bytes.ensures) refl,
            omega (arith, c.loop-k.invariant.1, long, w.count-is),
            omega (arith, c.loop-k.invariant.2, w.count-is),
            rw (w.regs-is, w.set_register.ensures) (same_pc c.loop-k.regs c.loop-k.k w.sext.result ∙ c.loop-k.invariant.3),
            rw (w.at-is, w.onward-at.ensures, w.bytes.ensures, next) (omega (arith, c.loop-k.invariant.4)),
            rw (w.at-is, w.onward-at.ensures, w.bytes.ensures, next) (omega (arith, few, c.loop-k.invariant.5)),
          )
      | else-digit-eq1 w ↦
          let is : has c.args.mask c.loop-k.k ≡ false = lacks_bit c.args.mask c.loop-k.k c.digit.result c.digit.ensures (λ e. w.if-digit-eq1.false e) in
          let left = left_lacks c.args.mask c.loop-k.k below is in
          let long : length (filter (has c.args.mask) (range_with_len c.loop-k.k (16 - c.loop-k.k))) ≡ length rest = ap length left in
          rw (w.regs-is, w.at-is, w.count-is) (
            c.loop-k.invariant.0
                ∙ ap (λ ks. loaded_along c.args.regs.now.pc c.loop-k.regs c.args.ram.now c.loop-k.at c.args.size ks) left,
            omega (arith, c.loop-k.invariant.1, long),
            omega (arith, c.loop-k.invariant.2),
            c.loop-k.invariant.3,
            c.loop-k.invariant.4,
            omega (arith, c.loop-k.invariant.5),
          )
    ]

pub returns-clause-is : goal.returns-clause-is
returns-clause-is c =
    let end : c.loop-k.k ≡ 16 = omega arith in
    (rw end at c.loop-k.invariant.0) ∙ none_loaded c.args.regs.now.pc c.loop-k.regs c.args.ram.now c.loop-k.at c.args.size

pub returns-clause-count : goal.returns-clause-count
returns-clause-count c =
    let end : c.loop-k.k ≡ 16 = omega arith in
    let all : c.loop-k.count + 0 ≡ length (listed c.args.mask) = rw end at c.loop-k.invariant.1 in
    omega (arith, all)
