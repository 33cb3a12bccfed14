use Rattle.m68_movement.proofs.Stores.{down_along, few_bytes, some_bytes}
use Rattle.m68_movement.proofs.along.store_down.Goals as goal

pub returns : goal.returns
returns c =
    rw (down_along c.args.pc c.args.ram.now c.args.a c.args.size c.args.values.now (some_bytes c.args.size c.requires) (few_bytes c.args.size), ← c.bytes.ensures, ← c.backward-step.ensures, ← c.onward.ensures) c.store_along.ensures
