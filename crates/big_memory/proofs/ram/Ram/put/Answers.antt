use Rattle.std.proofs.Common.{◌≡◌, ◌+◌, ◌<◌, ◌≤◌, length, arith, subst, sym, ◌∙◌}
use Rattle.byteorder.specs.Endian.{big_bytes}
use Rattle.mix_bits.specs.Sizes.{bytes_of}
use Rattle.big_memory.proofs.Longs.{size-bytes}
use Rattle.big_memory.proofs.Writes.{ram_after, room, view_after, view_same}
use Rattle.big_memory.proofs.ram.Ram.put.Goals as goal

pub write_number-requires : goal.write_number-requires
write_number-requires c =
    room c.args.self.now _ _ _ c.args.a (bytes_of c.args.s) c.self.view_is c.deref_mut.ensures.value (subst (λ n. 0 < n) c.bytes.ensures c.if-bytes-gt0.true) c.requires

pub invariant_of-self : goal.invariant_of-self
invariant_of-self c =
    let within = room c.args.self.now _ _ _ c.args.a (bytes_of c.args.s) c.self.view_is c.deref_mut.ensures.value (subst (λ n. 0 < n) c.bytes.ensures c.if-bytes-gt0.true) c.requires in
    ram_after c.args.self.now _ _ _ (big_bytes (bytes_of c.args.s) c.args.v) _ _ c.args.a c.self.view_is c.self.invariant c.deref_mut.ensures.value c.deref_mut.ensures.len
    (subst (λ n. c.args.a + n ≤ length c.deref_mut.result.now) (sym (size-bytes c.args.s c.args.v)) within) c.write_number.ensures

pub returns-then-bytes-gt0 : goal.returns-then-bytes-gt0
returns-then-bytes-gt0 c =
    let within = room c.args.self.now _ _ _ c.args.a (bytes_of c.args.s) c.self.view_is c.deref_mut.ensures.value (subst (λ n. 0 < n) c.bytes.ensures c.if-bytes-gt0.true) c.requires in
    view_after c.args.self.now _ _ _ (big_bytes (bytes_of c.args.s) c.args.v) _ _ c.args.a c.self.view_is c.deref_mut.ensures.value c.deref_mut.ensures.len
    (subst (λ n. c.args.a + n ≤ length c.deref_mut.result.now) (sym (size-bytes c.args.s c.args.v)) within) c.write_number.ensures

pub returns-else-bytes-gt0 : goal.returns-else-bytes-gt0
returns-else-bytes-gt0 c =
    let zero : c.bytes.result ≡ 0 = omega (arith, c.if-bytes-gt0.false) in
    view_same c.args.self.now (big_bytes (bytes_of c.args.s) c.args.v) c.args.a (size-bytes c.args.s c.args.v ∙ sym c.bytes.ensures ∙ zero)
