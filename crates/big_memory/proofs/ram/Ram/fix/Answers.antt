use Rattle.big_memory.proofs.Writes.{holds, ram_after, view_after}
use Rattle.big_memory.proofs.ram.Ram.fix.Goals as goal

pub write_piece-requires : goal.write_piece-requires
write_piece-requires c = holds c.args.self.now _ _ _ _ c.self.view_is c.deref_mut.ensures.value c.requires

pub invariant_of-self : goal.invariant_of-self
invariant_of-self c =
    ram_after c.args.self.now _ _ _ c.args.bytes.now _ _ c.args.a c.self.view_is c.self.invariant c.deref_mut.ensures.value c.deref_mut.ensures.len
    (holds c.args.self.now _ _ _ _ c.self.view_is c.deref_mut.ensures.value c.requires) c.write_piece.ensures

pub returns : goal.returns
returns c =
    view_after c.args.self.now _ _ _ c.args.bytes.now _ _ c.args.a c.self.view_is c.deref_mut.ensures.value c.deref_mut.ensures.len
    (holds c.args.self.now _ _ _ _ c.self.view_is c.deref_mut.ensures.value c.requires) c.write_piece.ensures
