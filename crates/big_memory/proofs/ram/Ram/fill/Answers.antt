use Rattle.std.proofs.Common.{rules, ◌≡◌, ◌+◌, ◌≤◌, Err, length, replicate, arith, subst, sym, ◌∙◌}
use Rattle.std.proofs.lemmas.List.{length-replicate}
use Rattle.big_memory.proofs.Longs.{probe-err, probe-ok}
use Rattle.big_memory.proofs.Writes.{is_done, is_refused, ram_after, room, view_after, view_same}
use Rattle.big_memory.proofs.ram.Ram.fill.Goals as goal

pub returns-in_err-probe : goal.returns-in_err-probe
returns-in_err-probe c =
    let is : c.from_residual.result ≡ Err c.in_err-probe.field-0.0 = search rules in
    is_refused _ _ _ _ _ (probe-err _ _ _ c.probe.ensures c.in_err-probe.was) is

pub zero-requires : goal.zero-requires
zero-requires c = room c.args.self.now _ _ _ c.args.a c.args.n c.self.view_is c.deref_mut.ensures.value c.if-n-gt0.true (probe-ok _ _ c.probe.ensures c.in_ok-probe.was)

pub invariant_of-self : goal.invariant_of-self
invariant_of-self c =
    let within = room c.args.self.now _ _ _ c.args.a c.args.n c.self.view_is c.deref_mut.ensures.value c.if-n-gt0.true (probe-ok _ _ c.probe.ensures c.in_ok-probe.was) in
    ram_after c.args.self.now _ _ _ (replicate c.args.n 0) _ _ c.args.a c.self.view_is c.self.invariant c.deref_mut.ensures.value c.deref_mut.ensures.len
    (subst (λ n. c.args.a + n ≤ length c.deref_mut.result.now) (sym (length-replicate c.args.n 0)) within) c.zero.ensures

pub returns-then-n-gt0 : goal.returns-then-n-gt0
returns-then-n-gt0 c =
    let none = probe-ok _ _ c.probe.ensures c.in_ok-probe.was in
    let within = room c.args.self.now _ _ _ c.args.a c.args.n c.self.view_is c.deref_mut.ensures.value c.if-n-gt0.true none in
    is_done _ _ _ _ none
    (view_after c.args.self.now _ _ _ (replicate c.args.n 0) _ _ c.args.a c.self.view_is c.deref_mut.ensures.value c.deref_mut.ensures.len
    (subst (λ n. c.args.a + n ≤ length c.deref_mut.result.now) (sym (length-replicate c.args.n 0)) within) c.zero.ensures)

pub returns-else-n-gt0 : goal.returns-else-n-gt0
returns-else-n-gt0 c =
    let zero : c.args.n ≡ 0 = omega (arith, c.if-n-gt0.false) in
    is_done _ _ _ _ (probe-ok _ _ c.probe.ensures c.in_ok-probe.was) (view_same c.args.self.now (replicate c.args.n 0) c.args.a (length-replicate c.args.n 0 ∙ zero))
