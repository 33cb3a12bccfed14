use Rattle.std.proofs.Common.{◌≡◌, ℕ, ◌*◌, true, false, Err, if◌then◌else◌, slice_index, ap, sym, ◌∙◌}
use Rattle.mix_bits.specs.Addresses.{onward}
use Rattle.mix_bits.specs.declared.size.Size.TheVariants.{Two}
use Rattle.m68_isa.specs.declared.registers.Regs68.{Regs68}
use Rattle.m68_isa.specs.First.{first_of}
use Rattle.m68_effects.specs.Arithmetic.{is_out}
use Rattle.m68_ea.specs.Places.{with_address}
use Rattle.m68_effects.specs.Parts.{Effect, after, goes_on, vector, with_ccr}
use Rattle.m68_effects.proofs.Steps.{goes}
use Rattle.m68_arithmetic.proofs.Sources.{read, stops_back, unread}
use Rattle.m68_arithmetic.proofs.products.do_chk.Goals as goal

pub returns-in_default : goal.returns-in_default
returns-in_default c =
    let r = c.args.regs.now in
    let m = c.args.ram.now in
    let f = first_of c.args.word in
    let row : ℕ → Regs68 × ℕ → Effect = λ next. λ (q, s). if is_out (slice_index q.d f.upper) s then Err (vector q 6) else goes_on next (with_ccr q (record r.ccr { z = false; v = false; c = false })) m in
    unread r c.source.new.regs m c.args.word Two c.mode_of-mode.result c.lower_of-lower.result c.source.new.next row c.source.new.fault c.mode_of-mode.ensures.is c.lower_of-lower.ensures.is c.in_default.ensures.is

pub returns-then-is_out : goal.returns-then-is_out
returns-then-is_out c =
    let r = c.args.regs.now in
    let m = c.args.ram.now in
    let f = first_of c.args.word in
    let q = c.source.new.regs in
    let v = c.in-Some.bound in
    let next = c.source.new.next in
    let took = c.in-Some.ensures.is in
    let lower = c.lower_of-lower.result in
    let restored = with_address q lower (slice_index r.a lower) in
    let row : ℕ → Regs68 × ℕ → Effect = λ next. λ (q, s). if is_out (slice_index q.d f.upper) s then Err (vector q 6) else goes_on next (with_ccr q (record r.ccr { z = false; v = false; c = false })) m in
    let beyond : is_out (slice_index q.d f.upper) v ≡ true = (λ i. is_out (slice_index q.d (sym c.upper_of-upper.ensures.is i)) v) ∙ sym c.is_out.ensures ∙ c.if-is_out.true in
    let step =
    read r q m c.args.word Two c.mode_of-mode.result c.lower_of-lower.result v next row c.source.new.fault c.mode_of-mode.ensures.is c.lower_of-lower.ensures.is took
    ∙ ap (λ b. after (if b then Err (vector q 6) else goes_on (onward r.pc (2 * next)) (with_ccr q (record r.ccr { z = false; v = false; c = false })) m)) beyond in
    stops_back r restored m _ c.stop.result (vector q 6) c.stop.new.fault step c.in-Some.ensures.back (c.stop.ensures restored m)

pub returns : goal.returns
returns c =
    let r = c.args.regs.now in
    let m = c.args.ram.now in
    let f = first_of c.args.word in
    let q = c.source.new.regs in
    let v = c.in-Some.bound in
    let next = c.source.new.next in
    let took = c.in-Some.ensures.is in
    let row : ℕ → Regs68 × ℕ → Effect = λ next. λ (q, s). if is_out (slice_index q.d f.upper) s then Err (vector q 6) else goes_on next (with_ccr q (record r.ccr { z = false; v = false; c = false })) m in
    let within : is_out (slice_index q.d f.upper) v ≡ false = (λ i. is_out (slice_index q.d (sym c.upper_of-upper.ensures.is i)) v) ∙ sym c.is_out.ensures ∙ c.if-is_out.false in
    let step =
    read r q m c.args.word Two c.mode_of-mode.result c.lower_of-lower.result v next row c.source.new.fault c.mode_of-mode.ensures.is c.lower_of-lower.ensures.is took
    ∙ ap (λ b. after (if b then Err (vector q 6) else goes_on (onward r.pc (2 * next)) (with_ccr q (record r.ccr { z = false; v = false; c = false })) m)) within in
    goes _ r c.go_on.new.regs (record (with_ccr q (record r.ccr { z = false; v = false; c = false })) { pc = onward r.pc (2 * next) }) c.go_on.result c.source.new.fault m c.go_on.ensures.next step
    (c.go_on.ensures.registers ∙ (λ i. record (with_ccr q (record (took.3.ccr i) { z = false; v = false; c = false })) { pc = onward (took.3.pc i) (2 * next) }))
