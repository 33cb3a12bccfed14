use Rattle.std.proofs.Common.{◌≡◌, ◌+◌, ◌≤◌, None, length, refl, subst, sym, ap, ◌∙◌}
use Rattle.byteorder.specs.Endian.{big_bytes}
use Rattle.mix_bits.specs.Sizes.{bytes_of}
use Rattle.big_memory.specs.Memory.{refusal}
use Rattle.big_memory.proofs.Longs.{size-bytes}
use Rattle.big_memory.proofs.Writes.{holds, is_done, ram_after, view_after}
use Rattle.big_memory.proofs.ram.Ram.store.Goals as goal

pub write_number-requires : goal.write_number-requires
write_number-requires c =
    holds c.args.self.now _ _ _ (c.args.a + bytes_of c.args.s) c.self.view_is c.deref_mut.ensures.value (subst (λ n. c.args.a + n ≤ length c.args.self.now.bytes) c.bytes.ensures (c.if-is_open.ensures.within refl))

pub invariant_of-self : goal.invariant_of-self
invariant_of-self c =
    let n = bytes_of c.args.s in
    let within = holds c.args.self.now _ _ _ (c.args.a + n) c.self.view_is c.deref_mut.ensures.value (subst (λ n. c.args.a + n ≤ length c.args.self.now.bytes) c.bytes.ensures (c.if-is_open.ensures.within refl)) in
    ram_after c.args.self.now _ _ _ (big_bytes n c.args.v) _ _ c.args.a c.self.view_is c.self.invariant c.deref_mut.ensures.value c.deref_mut.ensures.len
    (subst (λ n. c.args.a + n ≤ length c.deref_mut.result.now) (sym (size-bytes c.args.s c.args.v)) within) c.write_number.ensures

pub returns-then-is_open : goal.returns-then-is_open
returns-then-is_open c =
    let n = bytes_of c.args.s in
    let within = holds c.args.self.now _ _ _ (c.args.a + n) c.self.view_is c.deref_mut.ensures.value (subst (λ n. c.args.a + n ≤ length c.args.self.now.bytes) c.bytes.ensures (c.if-is_open.ensures.within refl)) in
    let none : refusal c.args.self.now c.args.a n ≡ None = ap (λ n. refusal c.args.self.now c.args.a n) (sym c.bytes.ensures) ∙ c.if-is_open.ensures.«open» refl in
    is_done _ _ _ _ none
    (view_after c.args.self.now _ _ _ (big_bytes n c.args.v) _ _ c.args.a c.self.view_is c.deref_mut.ensures.value c.deref_mut.ensures.len
    (subst (λ n. c.args.a + n ≤ length c.deref_mut.result.now) (sym (size-bytes c.args.s c.args.v)) within) c.write_number.ensures)
