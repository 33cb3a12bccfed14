use Rattle.std.proofs.Common.{None}
use Rattle.mix_engine.proofs.Hosts.{asked-on, asked-untold, crossed, exited, grows-same, put-broke, read-broke, refused, went-on}
use Rattle.mix_engine.proofs.host.call.Goals as goal

pub returns-in-Done-clause-does : goal.returns-in-Done-clause-does
returns-in-Done-clause-does g c crossing =
    went-on c.body_laws.ensures crossing c.args.index None _ _ _ _ _ _ _ _ _ _ c.requires.whole c.in-Done.ensures.does (grows-same _ _ c.in-Done.ensures.trace.trace)

pub returns-in-Ok-clause-does : goal.returns-in-Ok-clause-does
returns-in-Ok-clause-does g c crossing =
    let called = c.in-Asked.ensures in
    asked-on c.body_laws.ensures crossing c.args.index c.in-Asked.slot c.in-Asked.word c.in-Asked.answer _ _ _ _ _ _ (g.W.World.seen c.args.world.now) (g.W.World.seen c.call.new.self) (g.W.World.seen c.tell_ask.new.self)
    c.requires.whole called.does called.trace c.in-Ok.ensures.puts c.in-Ok.ensures.cause.same c.in-Ok.ensures.rest

pub returns-in-Err-clause-does : goal.returns-in-Err-clause-does
returns-in-Err-clause-does g c crossing =
    let called = c.in-Asked.ensures in
    asked-untold c.body_laws.ensures crossing c.args.index c.in-Asked.slot c.in-Asked.word c.in-Asked.answer _ _ _ _ _ _ (g.W.World.seen c.args.world.now) (g.W.World.seen c.call.new.self) (g.W.World.seen c.tell_ask.new.self)
    c.requires.whole called.does called.trace c.in-Err.ensures.puts c.in-Err.ensures.cause.failed c.in-Err.ensures.rest

pub returns-in-Cross-clause-does : goal.returns-in-Cross-clause-does
returns-in-Cross-clause-does g c =
    let called = c.in-Cross.ensures in
    crossed c.body_laws.ensures c.args.index c.in-Cross.pointer c.in-Cross.info _ _ _ _ _ _ _ _ _ c.requires.whole called.does.0 called.does.1 called.trace.trace

pub returns-in-Exit-clause-does : goal.returns-in-Exit-clause-does
returns-in-Exit-clause-does g c crossing =
    let called = c.in-Exit.ensures in
    exited c.body_laws.ensures crossing c.args.index c.in-Exit.code _ _ _ _ _ _ _ _ _ _ c.requires.whole called.does.0 called.does.1 called.trace.trace

pub returns-in-Stop-clause-does : goal.returns-in-Stop-clause-does
returns-in-Stop-clause-does g c crossing =
    let called = c.in-Stop.ensures in
    refused c.body_laws.ensures crossing c.args.index c.in-Stop.reason _ _ _ _ _ _ _ _ _ c.requires.whole called.does.0 called.does.1 called.trace.trace

pub returns-in-ReadFault-clause-does : goal.returns-in-ReadFault-clause-does
returns-in-ReadFault-clause-does g c crossing =
    let called = c.in-ReadFault.ensures in
    read-broke c.body_laws.ensures crossing c.args.index _ _ _ _ _ _ _ _ _ _ c.requires.whole called.does.0 called.does.1 called.trace.trace

pub returns-in-OutFault-clause-does : goal.returns-in-OutFault-clause-does
returns-in-OutFault-clause-does g c crossing =
    let called = c.in-OutFault.ensures in
    put-broke c.body_laws.ensures crossing c.args.index _ _ _ _ _ _ _ _ _ _ c.requires.whole called.does.0 called.does.1 called.trace.trace
