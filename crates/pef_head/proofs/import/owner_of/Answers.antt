use Rattle.std.proofs.Common.{◌≡◌, ◌∙◌, sym, ap, ℕ, Option, arith, unwrap_or, subst}
use Rattle.pef_head.specs.Places.{holds}
use Rattle.pef_head.specs.Owners.{owners}
use Rattle.mix_bits.proofs.Searches.{least_at, none_counted}
use Rattle.pef_head.proofs.import.owner_of.Goals as goal

pub returns-then-holds-clause-is : goal.returns-then-holds-clause-is
returns-then-holds-clause-is c =
    sym (ap (λ (o : Option ℕ). unwrap_or o 0)
    (least_at (holds c.args.bytes.now c.args.l c.args.i) c.args.l.libraries c.loop-j.j c.loop-j-test.true c.loop-j.invariant (sym c.holds.ensures ∙ c.if-holds.true)))

pub unreachable-requires : goal.unreachable-requires
unreachable-requires c =
    let last : c.loop-j.j ≡ c.args.l.libraries = omega (arith, c.loop-j.auto.j-end, c.loop-j-test.false) in
    let test = holds c.args.bytes.now c.args.l c.args.i in
    let none : owners c.args.bytes.now c.args.l c.loop-j.j c.args.i ≡ 0 = none_counted test c.loop-j.j c.loop-j.invariant in
    let one = c.requires.owned in
    let none_all : owners c.args.bytes.now c.args.l c.args.l.libraries c.args.i ≡ 0
    = subst (λ (n : ℕ). owners c.args.bytes.now c.args.l n c.args.i ≡ 0) last none in
    omega (arith, none_all, one)
