use Rattle.std.proofs.Common.{length, ap, ◌∙◌}
use Rattle.byteorder.specs.Endian.{big_bytes}
use Rattle.big_memory.proofs.Lists.{length-put}
use Rattle.big_memory.proofs.Writes.{holds, ram_after, view_after}
use Rattle.big_memory.proofs.ram.Ram.fix_long.Goals as goal

pub write_number-requires : goal.write_number-requires
write_number-requires c = holds c.args.self.now _ _ _ _ c.self.view_is c.deref_mut.ensures.value c.requires

pub invariant_of-self : goal.invariant_of-self
invariant_of-self c =
    ram_after c.args.self.now _ _ _ (big_bytes 4 c.args.long) _ _ c.args.a c.self.view_is c.self.invariant c.deref_mut.ensures.value c.deref_mut.ensures.len
    (holds c.args.self.now _ _ _ _ c.self.view_is c.deref_mut.ensures.value c.requires) c.write_number.ensures

pub returns-clause-bytes : goal.returns-clause-bytes
returns-clause-bytes c =
    view_after c.args.self.now _ _ _ (big_bytes 4 c.args.long) _ _ c.args.a c.self.view_is c.deref_mut.ensures.value c.deref_mut.ensures.len
    (holds c.args.self.now _ _ _ _ c.self.view_is c.deref_mut.ensures.value c.requires) c.write_number.ensures

pub returns-clause-len : goal.returns-clause-len
returns-clause-len c = ap (λ m. length m.bytes) (returns-clause-bytes c) ∙ length-put c.args.a (big_bytes 4 c.args.long) c.args.self.now.bytes c.requires
