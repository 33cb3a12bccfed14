use Rattle.std.proofs.Common.{◌≡◌, ◌∙◌, sym, subst, ℤ, pos, ◌+ℤ◌, ◌<ℤ◌, to_z, of_z, w16, arith}
use Rattle.std.proofs.lemmas.Int.{ints, to_z-of_z}
use Rattle.rsrc_fork.specs.Resources.{bytes_of, named}
use Rattle.rsrc_fork.specs.ResourcesClauses.{seen}
use Rattle.rsrc_fork.proofs.NextId.{none_from, some_seen}
use Rattle.rsrc_fork.proofs.lookup.next_id.Goals as goal

pub returns-then-is_some : goal.returns-then-is_some
returns-then-is_some c =
    let id = to_z w16 (of_z w16 (to_z w16 c.loop-before.before-bits +ℤ pos 1)) in
    let after_is : to_z w16 (of_z w16 c.args.after) ≡ c.args.after = to_z-of_z w16 c.args.after c.ranges.after in
    let id_is : id ≡ to_z w16 c.loop-before.before-bits +ℤ pos 1 = omega (arith, ints, c.loop-before-test.true, c.loop-before.before-is, c.loop-before.auto.before) in (
      some_seen c.find.result (bytes_of (seen c.args.resources.now.entries) (named c.args.kind id)) c.find.ensures (sym c.is_some.ensures ∙ c.if-is_some.true),
      omega (arith, ints, id_is, after_is, c.loop-before.invariant.begun),
      λ other above below. c.loop-before.invariant.none other (subst (λ (a : ℤ). a <ℤ other) (sym after_is) above) (omega (arith, ints, id_is, below)),
    )

pub returns : goal.returns
returns c = λ x above.
    let after_is : to_z w16 (of_z w16 c.args.after) ≡ c.args.after = to_z-of_z w16 c.args.after c.ranges.after in
    none_from c.args.kind (to_z w16 (of_z w16 c.args.after)) (to_z w16 c.loop-before.before-bits) (seen c.args.resources.now.entries) c.requires
    (omega (arith, ints, c.loop-before-test.false, c.loop-before.before-is)) c.loop-before.invariant.none x (subst (λ (a : ℤ). a <ℤ x) (sym after_is) above)
