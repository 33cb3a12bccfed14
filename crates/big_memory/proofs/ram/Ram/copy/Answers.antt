use Rattle.std.proofs.Common.{rules, ◌≡◌, ◌+◌, ◌≤◌, true, None, Some, Err, if◌then◌else◌, length, arith, refl, subst, ap, sym, ◌∙◌}
use Rattle.big_memory.specs.declared.refusals.Access.TheVariants.{Outside}
use Rattle.big_memory.specs.Lists.{part}
use Rattle.big_memory.specs.Memory.{in_memory, refusal, with_bytes}
use Rattle.big_memory.proofs.Free.{length-part}
use Rattle.big_memory.proofs.Longs.{probe-err, probe-ok}
use Rattle.big_memory.proofs.Writes.{holds, is_done, is_refused, lies, ram_after, room, same_bytes, view_after, view_same}
use Rattle.big_memory.proofs.ram.Ram.copy.Goals as goal
use Rattle.big_memory.proofs.ram.Ram.copy.Goals.{else-n-gt0-via-then-n-gt0+else-not-has, else-n-gt0-via-else-n-gt0}

pub returns-then-not-has : goal.returns-then-not-has
returns-then-not-has c =
    let m = c.args.self.now in
    is_refused _ _ _ _ (Outside c.args.from) (ap (λ b. if b then refusal m c.args.to c.args.n else Some (Outside c.args.from)) (sym c.if-not-has.ensures.is)) refl

pub returns-in_err-probe : goal.returns-in_err-probe
returns-in_err-probe c =
    let m = c.args.self.now in
    let is : c.from_residual.result ≡ Err c.in_err-probe.field-0.0 = search rules in
    let inside : in_memory m c.args.from c.args.n ≡ true =
    elim c.else-n-gt0.branch [
      | else-n-gt0-via-then-n-gt0+else-not-has w ↦ sym w.if-not-has.ensures.is
      | else-n-gt0-via-else-n-gt0 w ↦ let zero : c.args.n ≡ 0 = omega (arith, w.if-n-gt0.false) in ap (λ k. in_memory m c.args.from k) zero
    ] in
    is_refused _ _ _ _ _ (ap (λ b. if b then refusal m c.args.to c.args.n else Some (Outside c.args.from)) inside ∙ probe-err _ _ _ c.probe.ensures c.in_err-probe.was) is

pub copy-requires-clause-source : goal.copy-requires-clause-source
copy-requires-clause-source c =
    let m = c.args.self.now in
    let inside : in_memory m c.args.from c.args.n ≡ true =
    elim c.else-n-gt0.branch [
      | else-n-gt0-via-then-n-gt0+else-not-has w ↦ sym w.if-not-has.ensures.is
      | else-n-gt0-via-else-n-gt0 w ↦ let zero : c.args.n ≡ 0 = omega (arith, w.if-n-gt0.false) in ap (λ k. in_memory m c.args.from k) zero
    ] in
    holds m _ _ _ _ c.self-2.view_is c.deref_mut.ensures.value (lies m c.args.from c.args.n c.if-n-gt0-2.true inside)

pub copy-requires-clause-place : goal.copy-requires-clause-place
copy-requires-clause-place c = room c.args.self.now _ _ _ c.args.to c.args.n c.self-2.view_is c.deref_mut.ensures.value c.if-n-gt0-2.true (probe-ok _ _ c.probe.ensures c.in_ok-probe.was)

pub invariant_of-self : goal.invariant_of-self
invariant_of-self c =
    let m = c.args.self.now in
    let old = c.deref_mut.result.now in
    let inside : in_memory m c.args.from c.args.n ≡ true =
    elim c.else-n-gt0.branch [
      | else-n-gt0-via-then-n-gt0+else-not-has w ↦ sym w.if-not-has.ensures.is
      | else-n-gt0-via-else-n-gt0 w ↦ let zero : c.args.n ≡ 0 = omega (arith, w.if-n-gt0.false) in ap (λ k. in_memory m c.args.from k) zero
    ] in
    let source : c.args.from + c.args.n ≤ length old = holds m _ _ _ _ c.self-2.view_is c.deref_mut.ensures.value (lies m c.args.from c.args.n c.if-n-gt0-2.true inside) in
    let within = room m _ _ _ c.args.to c.args.n c.self-2.view_is c.deref_mut.ensures.value c.if-n-gt0-2.true (probe-ok _ _ c.probe.ensures c.in_ok-probe.was) in
    ram_after m _ _ _ (part c.args.from c.args.n old) _ _ c.args.to c.self-2.view_is c.self-2.invariant c.deref_mut.ensures.value c.deref_mut.ensures.len
    (subst (λ n. c.args.to + n ≤ length old) (sym (length-part c.args.from c.args.n old source)) within) c.copy.ensures

pub returns-then-n-gt0-2 : goal.returns-then-n-gt0-2
returns-then-n-gt0-2 c =
    let m = c.args.self.now in
    let old = c.deref_mut.result.now in
    let inside : in_memory m c.args.from c.args.n ≡ true =
    elim c.else-n-gt0.branch [
      | else-n-gt0-via-then-n-gt0+else-not-has w ↦ sym w.if-not-has.ensures.is
      | else-n-gt0-via-else-n-gt0 w ↦ let zero : c.args.n ≡ 0 = omega (arith, w.if-n-gt0.false) in ap (λ k. in_memory m c.args.from k) zero
    ] in
    let none : refusal m c.args.to c.args.n ≡ None = probe-ok _ _ c.probe.ensures c.in_ok-probe.was in
    let source : c.args.from + c.args.n ≤ length old = holds m _ _ _ _ c.self-2.view_is c.deref_mut.ensures.value (lies m c.args.from c.args.n c.if-n-gt0-2.true inside) in
    let within = room m _ _ _ c.args.to c.args.n c.self-2.view_is c.deref_mut.ensures.value c.if-n-gt0-2.true none in
    is_done _ _ _ _ (ap (λ b. if b then refusal m c.args.to c.args.n else Some (Outside c.args.from)) inside ∙ none)
    (view_after m _ _ _ (part c.args.from c.args.n old) _ _ c.args.to c.self-2.view_is c.deref_mut.ensures.value c.deref_mut.ensures.len
    (subst (λ n. c.args.to + n ≤ length old) (sym (length-part c.args.from c.args.n old source)) within) c.copy.ensures
    ∙ ap (λ bytes. with_bytes c.args.to (part c.args.from c.args.n bytes) m) (same_bytes m _ _ _ c.self-2.view_is c.deref_mut.ensures.value))

pub returns-else-n-gt0-2 : goal.returns-else-n-gt0-2
returns-else-n-gt0-2 c =
    let m = c.args.self.now in
    let zero : c.args.n ≡ 0 = omega (arith, c.if-n-gt0-2.false) in
    let inside : in_memory m c.args.from c.args.n ≡ true = ap (λ k. in_memory m c.args.from k) zero in
    is_done _ _ _ _ (ap (λ b. if b then refusal m c.args.to c.args.n else Some (Outside c.args.from)) inside ∙ probe-ok _ _ c.probe.ensures c.in_ok-probe.was)
    (view_same m (part c.args.from c.args.n m.bytes) c.args.to (ap (λ k. length (part c.args.from k m.bytes)) zero))
