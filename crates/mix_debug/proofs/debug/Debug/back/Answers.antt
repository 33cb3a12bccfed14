use Rattle.std.proofs.Common.{◌≡◌, ◌∙◌, ℕ, zero, suc, ◌<◌, ◌==◌, true, false, arith, refl, sym, subst, ap, length}
use Rattle.std.proofs.lemmas.Bool.{eqb-false, eqb-true}
use Rattle.mix_debug.specs.Pasts.{entries_in}
use Rattle.mix_debug.specs.Machines.{earlier}
use Rattle.mix_debug.specs.TrailsClauses.{TakesBack, Trail}
use Rattle.mix_debug.proofs.Keeping.{length-earlier, takes-back, takes-none}
use Rattle.mix_debug.proofs.debug.Debug.back.Goals as goal

pub returns-then-is_empty-clause-back : goal.returns-then-is_empty-clause-back
returns-then-is_empty-clause-back c =
    let none : length c.args.self.now.kept ≡ 0 =
    sym (ap (λ (t : Trail). length t.kept) c.self.view_is) ∙ length-earlier c.self.inside.machine (entries_in c.self.inside.history.past) ∙ eqb-true (length (entries_in c.self.inside.history.past)) 0 (sym c.is_empty.ensures ∙ c.if-is_empty.true) in
    takes-none c.args.self.now.kept c.args.self.now none

some-left : (n : ℕ) → (n == 0) ≡ false → 0 < n
some-left zero none = absurd (eqb-false 0 0 none refl)
some-left (suc n) none = omega arith

pub undo-requires-clause-some : goal.undo-requires-clause-some
undo-requires-clause-some c = some-left (length (entries_in c.self.inside.history.past)) (sym c.is_empty.ensures ∙ c.if-is_empty.false)

pub returns-clause-back : goal.returns-clause-back
returns-clause-back c =
    let new : Trail = record { machine = c.undo.new.machine; kept = earlier c.undo.new.machine (entries_in c.undo.new.self.past); breaks = c.self.inside.breaks.items } in
    let step = c.undo.ensures.before in
    subst (λ (t : Trail). TakesBack true t.kept t new) c.self.view_is
    (takes-back c.self.inside.machine c.undo.new.machine step.0 (entries_in c.self.inside.history.past) (entries_in c.undo.new.self.past) c.self.inside.breaks.items step.1 step.2)
