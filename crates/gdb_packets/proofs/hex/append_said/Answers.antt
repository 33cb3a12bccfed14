use Rattle.std.proofs.Common.{sym, ◌∙◌}
use Rattle.gdb_packets.proofs.Bytes.{more_said}
use Rattle.gdb_packets.proofs.hex.append_said.Goals as goal

pub loop-rest-preserved : goal.loop-rest-preserved
loop-rest-preserved c =
    more_said c.loop-rest.buffer.items c.push.new.self.items c.loop-rest.rest.now c.in-Some.byte c.in_ok-push-in-Some.ensures.items c.in-len2-up.len_at_least (sym c.in-Some.ensures)
    ∙ c.loop-rest.invariant
