use Rattle.std.proofs.Common.{subst, List, ℕ}
use Rattle.mix_io.specs.StreamsClauses.{output}
use Rattle.gdb_session.specs.Replies.{rules_of}
use Rattle.gdb_session.specs.Serving.{standing}
use Rattle.gdb_session.specs.inner.Listening.{CutsOff}
use Rattle.gdb_session.proofs.Hearing.{reply-cut}
use Rattle.gdb_session.proofs.server.Server.answer.Goals as goal

pub returns-in-Err-put-clause-broken : goal.returns-in-Err-put-clause-broken
returns-in-Err-put-clause-broken g c =
    let rules = rules_of g.T.Target.scene g.T.Target.walks g.T.Target.inserts g.T.Target.removes g.T.Target.obeys in
    let s = standing c.args.self.now.target c.args.self.now.talk c.args.self.now.console.items c.args.self.now.sent.items in
    let t = standing c.reply.new.target c.reply.new.talk c.reply.new.console.items c.reply.new.sent.items in
    let out = output (g.O.Sink.held c.args.out.now) (g.O.Sink.faults c.args.out.now) in
    let end = output (g.O.Sink.held c.put.new.out) (g.O.Sink.faults c.put.new.out) in
    reply-cut rules c.args.data.now s t c.in-Ok.outcome out end c.in-Err-put.broken c.in-Ok.ensures
    (subst (λ (l : List ℕ). CutsOff out end l c.in-Err-put.broken) c.deref.ensures.value c.in-Err-put.ensures.broken)
