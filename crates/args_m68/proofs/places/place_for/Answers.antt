-- The place by each route.
use Rattle.std.proofs.Common.{◌+◌, ◌-◌, arith, sym, ap, ◌∙◌}
use Rattle.mix_bits.proofs.Sizes.{bytes-few}
use Rattle.args_m68.specs.declared.places.Place.TheVariants.{Stack}
use Rattle.args_m68.specs.Places.{place_of}
use Rattle.args_m68.proofs.places.place_for.Goals as goal

pub overflow_add-result : goal.overflow_add-result
overflow_add-result c = omega (arith, c.requires.base, c.requires.later)

pub overflow_sub-result : goal.overflow_sub-result
overflow_sub-result c = omega (arith, c.bytes.ensures, bytes-few c.args.param.now.size)

pub overflow_add-result-in-CStack : goal.overflow_add-result-in-CStack
overflow_add-result-in-CStack c = omega (arith, c.requires.base)

pub returns-in-PascalStack : goal.returns-in-PascalStack
returns-in-PascalStack c =
    record { place = sym (ap (λ r. place_of r c.args.base c.args.param.now c.args.later) c.in-PascalStack.is); there = tt }

pub returns-in-CStack : goal.returns-in-CStack
returns-in-CStack c =
    let base = c.args.base in
    let place = ap (λ n. Stack (base + (4 - n))) c.bytes.ensures ∙ sym (ap (λ r. place_of r base c.args.param.now c.args.later) c.in-CStack.is) in
    record { place = place; there = tt }

pub returns-in-Registers : goal.returns-in-Registers
returns-in-Registers c =
    let place = c.place_numbered.ensures.place ∙ sym (ap (λ r. place_of r c.args.base c.args.param.now c.args.later) c.in-Registers.is) in
    record { place = place; there = c.place_numbered.ensures.there }
