use Rattle.std.proofs.Common.{refl}
use Rattle.mix_io.specs.StreamsClauses.{output}
use Rattle.gdb_session.specs.Replies.{rules_of}
use Rattle.gdb_session.specs.Serving.{standing}
use Rattle.gdb_packets.specs.declared.event.Event.TheVariants.{Refused}
use Rattle.gdb_session.proofs.Hearing.{at-packet, refusal-cut, said-cut}
use Rattle.gdb_session.proofs.server.Server.hear.Goals as goal

pub returns-in-Err-clause-broken : goal.returns-in-Err-clause-broken
returns-in-Err-clause-broken g c =
    let rules = rules_of g.T.Target.scene g.T.Target.walks g.T.Target.inserts g.T.Target.removes g.T.Target.obeys in
    let s = standing c.args.self.now.target c.args.self.now.talk c.args.self.now.console.items c.args.self.now.sent.items in
    let out = output (g.O.Sink.held c.args.out.now) (g.O.Sink.faults c.args.out.now) in
    let end = output (g.O.Sink.held c.take_packet.new.out) (g.O.Sink.faults c.take_packet.new.out) in
    at-packet rules c.args.event c.args.data.now s out end c.in-Err.broken c.in-Packet.is c.in-Err.ensures.broken

pub returns-in-BadSum-clause-broken : goal.returns-in-BadSum-clause-broken
returns-in-BadSum-clause-broken g c =
    let rules = rules_of g.T.Target.scene g.T.Target.walks g.T.Target.inserts g.T.Target.removes g.T.Target.obeys in
    let s = standing c.args.self.now.target c.args.self.now.talk c.args.self.now.console.items c.args.self.now.sent.items in
    let out = output (g.O.Sink.held c.args.out.now) (g.O.Sink.faults c.args.out.now) in
    let end = output (g.O.Sink.held c.refuse.new.out) (g.O.Sink.faults c.refuse.new.out) in
    refusal-cut rules c.args.event c.args.data.now s out end c.refuse.result c.in-BadSum.is c.refuse.ensures.broken

pub returns-in-Refused-clause-broken : goal.returns-in-Refused-clause-broken
returns-in-Refused-clause-broken g c =
    let rules = rules_of g.T.Target.scene g.T.Target.walks g.T.Target.inserts g.T.Target.removes g.T.Target.obeys in
    let s = standing c.args.self.now.target c.args.self.now.talk c.args.self.now.console.items c.args.self.now.sent.items in
    let out = output (g.O.Sink.held c.args.out.now) (g.O.Sink.faults c.args.out.now) in
    let end = output (g.O.Sink.held c.repeat.new.out) (g.O.Sink.faults c.repeat.new.out) in
    said-cut rules c.args.event Refused c.args.data.now s.sent s out end c.repeat.result c.in-Refused.is (refl, (refl, refl)) c.repeat.ensures.broken
