use Rattle.std.proofs.Common.{sym, ◌∙◌}
use Rattle.mix_io.specs.StreamsClauses.{output}
use Rattle.gdb_session.specs.Replies.{rules_of}
use Rattle.gdb_session.specs.Serving.{standing}
use Rattle.gdb_session.proofs.Hearing.{listens-until}
use Rattle.gdb_session.proofs.server.listen.Goals as goal

pub returns-in-Some-clause-broken : goal.returns-in-Some-clause-broken
returns-in-Some-clause-broken g c =
    let rules = rules_of g.T.Target.scene g.T.Target.walks g.T.Target.inserts g.T.Target.removes g.T.Target.obeys in
    let s = standing c.args.server.now.target c.args.server.now.talk c.args.server.now.console.items c.args.server.now.sent.items in
    let out = output (g.O.Sink.held c.args.out.now) (g.O.Sink.faults c.args.out.now) in
    let end = output (g.O.Sink.held c.hear.new.out) (g.O.Sink.faults c.hear.new.out) in
    listens-until rules c.args.decoder.now c.take.new.self c.args.byte c.in-Some.event c.packet.result.now s out end c.hear.result
    (sym c.take.ensures.event ∙ c.in-Some.is) c.take.ensures.after c.packet.ensures c.hear.ensures.broken
