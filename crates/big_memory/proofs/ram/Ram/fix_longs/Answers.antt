use Rattle.std.proofs.Common.{◌+◌, ◌≤◌, length, subst, sym}
use Rattle.big_memory.specs.Numbers.{bytes_of_longs}
use Rattle.big_memory.proofs.Numbers.{length_of_bytes}
use Rattle.big_memory.proofs.Writes.{holds, ram_after, view_after}
use Rattle.big_memory.proofs.ram.Ram.fix_longs.Goals as goal

pub write_longs-requires : goal.write_longs-requires
write_longs-requires c = holds c.args.self.now _ _ _ _ c.self.view_is c.deref_mut.ensures.value c.requires

pub invariant_of-self : goal.invariant_of-self
invariant_of-self c =
    let xs = c.args.longs.now in
    let within : c.args.a + length (bytes_of_longs xs) ≤ length c.deref_mut.result.now =
    subst (λ n. c.args.a + n ≤ length c.deref_mut.result.now) (sym (length_of_bytes xs)) (holds c.args.self.now _ _ _ _ c.self.view_is c.deref_mut.ensures.value c.requires) in
    ram_after c.args.self.now _ _ _ (bytes_of_longs xs) _ _ c.args.a c.self.view_is c.self.invariant c.deref_mut.ensures.value c.deref_mut.ensures.len within c.write_longs.ensures

pub returns-clause-bytes : goal.returns-clause-bytes
returns-clause-bytes c =
    let xs = c.args.longs.now in
    let within : c.args.a + length (bytes_of_longs xs) ≤ length c.deref_mut.result.now =
    subst (λ n. c.args.a + n ≤ length c.deref_mut.result.now) (sym (length_of_bytes xs)) (holds c.args.self.now _ _ _ _ c.self.view_is c.deref_mut.ensures.value c.requires) in
    view_after c.args.self.now _ _ _ (bytes_of_longs xs) _ _ c.args.a c.self.view_is c.deref_mut.ensures.value c.deref_mut.ensures.len within c.write_longs.ensures

pub returns-clause-ram : goal.returns-clause-ram
returns-clause-ram c = invariant_of-self c
