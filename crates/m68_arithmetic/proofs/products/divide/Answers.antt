use Rattle.std.proofs.Common.{◌≡◌, ℕ, ◌*◌, slice_index, ap, sym, ◌∙◌}
use Rattle.mix_bits.specs.Addresses.{onward}
use Rattle.mix_bits.specs.declared.size.Size.TheVariants.{Two}
use Rattle.m68_isa.specs.declared.registers.Regs68.{Regs68}
use Rattle.m68_isa.specs.First.{first_of}
use Rattle.m68_alu.specs.declared.quotients.Quotient.TheVariants.{ByZero}
use Rattle.m68_alu.specs.Products.{divided}
use Rattle.m68_effects.specs.Arithmetic.{quotient_into, with_long}
use Rattle.m68_ea.specs.Places.{with_address}
use Rattle.m68_effects.specs.Parts.{Effect, after, vector, with_ccr}
use Rattle.m68_effects.proofs.Steps.{goes}
use Rattle.m68_arithmetic.proofs.Sources.{read, stops_back, unread}
use Rattle.m68_arithmetic.proofs.products.divide.Goals as goal
use Rattle.m68_arithmetic.proofs.products.divide.Goals.{in-Overflow, in-Done}

pub returns-in_default : goal.returns-in_default
returns-in_default c =
    let r = c.args.regs.now in
    let m = c.args.ram.now in
    let f = first_of c.args.word in
    let row : ℕ → Regs68 × ℕ → Effect = λ next. λ (q, s). quotient_into q m next f.upper (divided c.args.is_signed (slice_index q.d f.upper) s r.ccr) in
    unread r c.source.new.regs m c.args.word Two c.mode_of-mode.result c.lower_of-lower.result c.source.new.next row c.source.new.fault c.mode_of-mode.ensures.is c.lower_of-lower.ensures.is c.in_default.ensures.is

pub returns-in-ByZero : goal.returns-in-ByZero
returns-in-ByZero c =
    let r = c.args.regs.now in
    let m = c.args.ram.now in
    let f = first_of c.args.word in
    let q = c.source.new.regs in
    let v = c.in-Some.by in
    let next = c.source.new.next in
    let took = c.in-Some.ensures.is in
    let lower = c.lower_of-lower.result in
    let restored = with_address q lower (slice_index r.a lower) in
    let row : ℕ → Regs68 × ℕ → Effect = λ next. λ (q, s). quotient_into q m next f.upper (divided c.args.is_signed (slice_index q.d f.upper) s r.ccr) in
    let none : divided c.args.is_signed (slice_index q.d f.upper) v r.ccr ≡ ByZero = sym (c.in-ByZero.ensures ∙ (λ i. divided c.args.is_signed (slice_index q.d (c.upper_of-upper.ensures.is i)) v (took.3.ccr i))) in
    let step =
    read r q m c.args.word Two c.mode_of-mode.result c.lower_of-lower.result v next row c.source.new.fault c.mode_of-mode.ensures.is c.lower_of-lower.ensures.is took
    ∙ ap (λ x. after (quotient_into q m (onward r.pc (2 * next)) f.upper x)) none in
    stops_back r restored m _ c.stop.result (vector q 5) c.stop.new.fault step c.in-Some.ensures.back (c.stop.ensures restored m)

pub returns : goal.returns
returns c =
    let r = c.args.regs.now in
    let m = c.args.ram.now in
    let f = first_of c.args.word in
    let q = c.source.new.regs in
    let v = c.in-Some.by in
    let next = c.source.new.next in
    let took = c.in-Some.ensures.is in
    let upper = c.upper_of-upper.ensures.is in
    let row : ℕ → Regs68 × ℕ → Effect = λ next. λ (q, s). quotient_into q m next f.upper (divided c.args.is_signed (slice_index q.d f.upper) s r.ccr) in
    let step =
    read r q m c.args.word Two c.mode_of-mode.result c.lower_of-lower.result v next row c.source.new.fault c.mode_of-mode.ensures.is c.lower_of-lower.ensures.is took
    ∙ ap (λ x. after (quotient_into q m (onward r.pc (2 * next)) f.upper x)) (sym (c.div.ensures ∙ (λ i. divided c.args.is_signed (slice_index q.d (upper i)) v (took.3.ccr i)))) in
    elim c.match-div.branch [
      | in-Overflow w ↦
          goes _ r c.go_on.new.regs (record (with_ccr q w.in-Overflow.ccr) { pc = onward r.pc (2 * next) }) c.go_on.result c.source.new.fault m c.go_on.ensures.next
          (step ∙ ap (λ x. after (quotient_into q m (onward r.pc (2 * next)) f.upper x)) w.in-Overflow.is)
          (c.go_on.ensures.registers ∙ (λ i. record (w.regs-is i) { pc = onward (w.regs-is i).pc (2 * next) }) ∙ (λ i. record (with_ccr q w.in-Overflow.ccr) { pc = onward (took.3.pc i) (2 * next) }))
      | in-Done w ↦
          goes _ r c.go_on.new.regs (record (with_long q f.upper w.in-Done.out) { pc = onward r.pc (2 * next) }) c.go_on.result c.source.new.fault m c.go_on.ensures.next
          (step ∙ ap (λ x. after (quotient_into q m (onward r.pc (2 * next)) f.upper x)) w.in-Done.is)
          (c.go_on.ensures.registers ∙ (λ i. record (w.regs-is i) { pc = onward (w.regs-is i).pc (2 * next) }) ∙ (λ i. record (with_long q (upper i) w.in-Done.out) { pc = onward (took.3.pc i) (2 * next) }))
    ]
