use Rattle.big_memory.proofs.Longs.{value_stores}
use Rattle.big_memory.proofs.ram.Ram.store_value.Goals as goal

pub returns : goal.returns
returns c = value_stores c.args.self.now c.store.new.self c.args.a c.args.s c.args.v c.store.result c.meets_invariant.ensures c.store.ensures
