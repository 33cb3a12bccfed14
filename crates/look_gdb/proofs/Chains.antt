-- The suspended callers of a whole machine stand in a chain of frames.
use Rattle.mix_bits.specs.declared.isa.Isa.{Isa}
use Rattle.switch_frame.specs.Chain.{Links, records}
use Rattle.mixed_machine.specs.Machine.{IsWhole, callers_of}
use Rattle.mixed_machine.specs.declared.body.Body.{Body}

pub links_of : (b : Body) (set : Isa) → IsWhole b set → Links b.ram b.top (records b.ram.bytes b.top)
unfolding callers_of
links_of b set whole = whole.chain.links
