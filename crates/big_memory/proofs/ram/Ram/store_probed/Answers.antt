use Rattle.std.proofs.Common.{rules, ◌≡◌, ◌+◌, ◌<◌, ◌≤◌, None, Err, length, arith, subst, ap, sym, ◌∙◌}
use Rattle.byteorder.specs.Endian.{big_bytes}
use Rattle.mix_bits.specs.Sizes.{bytes_of}
use Rattle.big_memory.specs.Memory.{refusal}
use Rattle.big_memory.proofs.Longs.{probe-err, probe-ok, size-bytes}
use Rattle.big_memory.proofs.Writes.{is_done, is_refused, ram_after, room, view_after, view_same}
use Rattle.big_memory.proofs.ram.Ram.store_probed.Goals as goal

pub returns-in_err-probe : goal.returns-in_err-probe
returns-in_err-probe c =
    let is : c.from_residual.result ≡ Err c.in_err-probe.field-0.0 = search rules in
    is_refused _ _ _ _ _ (ap (λ n. refusal c.args.self.now c.args.a n) (sym c.bytes-count.ensures) ∙ probe-err _ _ _ c.probe.ensures c.in_err-probe.was) is

pub write_number-requires : goal.write_number-requires
write_number-requires c =
    let none : refusal c.args.self.now c.args.a (bytes_of c.args.s) ≡ None = ap (λ n. refusal c.args.self.now c.args.a n) (sym c.bytes-count.ensures) ∙ probe-ok _ _ c.probe.ensures c.in_ok-probe.was in
    room c.args.self.now _ _ _ c.args.a (bytes_of c.args.s) c.self.view_is c.deref_mut.ensures.value (subst (λ n. 0 < n) c.bytes-count.ensures c.if-count-gt0.true) none

pub invariant_of-self : goal.invariant_of-self
invariant_of-self c =
    let none : refusal c.args.self.now c.args.a (bytes_of c.args.s) ≡ None = ap (λ n. refusal c.args.self.now c.args.a n) (sym c.bytes-count.ensures) ∙ probe-ok _ _ c.probe.ensures c.in_ok-probe.was in
    let within = room c.args.self.now _ _ _ c.args.a (bytes_of c.args.s) c.self.view_is c.deref_mut.ensures.value (subst (λ n. 0 < n) c.bytes-count.ensures c.if-count-gt0.true) none in
    ram_after c.args.self.now _ _ _ (big_bytes (bytes_of c.args.s) c.args.v) _ _ c.args.a c.self.view_is c.self.invariant c.deref_mut.ensures.value c.deref_mut.ensures.len
    (subst (λ n. c.args.a + n ≤ length c.deref_mut.result.now) (sym (size-bytes c.args.s c.args.v)) within) c.write_number.ensures

pub returns-then-count-gt0 : goal.returns-then-count-gt0
returns-then-count-gt0 c =
    let none : refusal c.args.self.now c.args.a (bytes_of c.args.s) ≡ None = ap (λ n. refusal c.args.self.now c.args.a n) (sym c.bytes-count.ensures) ∙ probe-ok _ _ c.probe.ensures c.in_ok-probe.was in
    let within = room c.args.self.now _ _ _ c.args.a (bytes_of c.args.s) c.self.view_is c.deref_mut.ensures.value (subst (λ n. 0 < n) c.bytes-count.ensures c.if-count-gt0.true) none in
    is_done _ _ _ _ none
    (view_after c.args.self.now _ _ _ (big_bytes (bytes_of c.args.s) c.args.v) _ _ c.args.a c.self.view_is c.deref_mut.ensures.value c.deref_mut.ensures.len
    (subst (λ n. c.args.a + n ≤ length c.deref_mut.result.now) (sym (size-bytes c.args.s c.args.v)) within) c.write_number.ensures)

pub returns-else-count-gt0 : goal.returns-else-count-gt0
returns-else-count-gt0 c =
    let none : refusal c.args.self.now c.args.a (bytes_of c.args.s) ≡ None = ap (λ n. refusal c.args.self.now c.args.a n) (sym c.bytes-count.ensures) ∙ probe-ok _ _ c.probe.ensures c.in_ok-probe.was in
    let zero : c.bytes-count.result ≡ 0 = omega (arith, c.if-count-gt0.false) in
    is_done _ _ _ _ none (view_same c.args.self.now (big_bytes (bytes_of c.args.s) c.args.v) c.args.a (size-bytes c.args.s c.args.v ∙ sym c.bytes-count.ensures ∙ zero))
