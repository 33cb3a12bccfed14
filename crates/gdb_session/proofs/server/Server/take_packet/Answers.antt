use Rattle.mix_io.specs.StreamsClauses.{output}
use Rattle.gdb_session.specs.Replies.{rules_of}
use Rattle.gdb_session.specs.Serving.{standing}
use Rattle.gdb_session.proofs.Hearing.{acknowledgement-cut, behind-acknowledgement}
use Rattle.gdb_session.proofs.server.Server.take_packet.Goals as goal

pub returns-in-Ok-clause-broken : goal.returns-in-Ok-clause-broken
returns-in-Ok-clause-broken g c =
    let rules = rules_of g.T.Target.scene g.T.Target.walks g.T.Target.inserts g.T.Target.removes g.T.Target.obeys in
    let s = standing c.args.self.now.target c.args.self.now.talk c.args.self.now.console.items c.args.self.now.sent.items in
    let out = output (g.O.Sink.held c.args.out.now) (g.O.Sink.faults c.args.out.now) in
    let mid = output (g.O.Sink.held c.acknowledge.new.out) (g.O.Sink.faults c.acknowledge.new.out) in
    let end = output (g.O.Sink.held c.answer.new.out) (g.O.Sink.faults c.answer.new.out) in
    behind-acknowledgement rules c.args.data.now s out mid end c.answer.result c.in-Ok.ensures.sent c.answer.ensures.broken

pub returns-in-Err-clause-broken : goal.returns-in-Err-clause-broken
returns-in-Err-clause-broken g c =
    let rules = rules_of g.T.Target.scene g.T.Target.walks g.T.Target.inserts g.T.Target.removes g.T.Target.obeys in
    let s = standing c.args.self.now.target c.args.self.now.talk c.args.self.now.console.items c.args.self.now.sent.items in
    let out = output (g.O.Sink.held c.args.out.now) (g.O.Sink.faults c.args.out.now) in
    let end = output (g.O.Sink.held c.acknowledge.new.out) (g.O.Sink.faults c.acknowledge.new.out) in
    acknowledgement-cut rules c.args.data.now s out end c.in-Err.broken c.in-Err.ensures.broken
