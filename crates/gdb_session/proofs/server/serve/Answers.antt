use Rattle.std.proofs.Common.{refl, sym, ◌∙◌, arith}
use Rattle.mix_io.specs.StreamsClauses.{output}
use Rattle.gdb_session.specs.Replies.{rules_of}
use Rattle.gdb_session.specs.Serving.{first_standing, standing}
use Rattle.gdb_session.proofs.Serving.{blames, broke-off, bytes-ended, going-begins, input-ended, input-failed, left-off, took-byte, took-none, went-on}
use Rattle.gdb_session.proofs.server.serve.Goals as goal

pub loop-number-init : goal.loop-number-init
loop-number-init g c =
    let rules = rules_of g.T.Target.scene g.T.Target.walks g.T.Target.inserts g.T.Target.removes g.T.Target.obeys in
    let out = output (g.O.Sink.held c.args.out.now) (g.O.Sink.faults c.args.out.now) in
    let server = c.new-server.result in
    let made = c.new-server.ensures in
    record {
      calm = refl;
      going = going-begins rules c.args.target server.target server.talk server.console.items server.sent.items (g.I.Source.left c.args.input.now) out c.in-Ok.decoder
          c.in-Ok.ensures made.target made.talk made.console made.sent;
    }

pub loop-number-preserved : goal.loop-number-preserved
loop-number-preserved g c =
    let rules = rules_of g.T.Target.scene g.T.Target.walks g.T.Target.inserts g.T.Target.removes g.T.Target.obeys in
    let first = first_standing rules c.args.target in
    let left = g.I.Source.left c.args.input.now in
    let now = g.I.Source.left c.loop-number.input in
    let next = g.I.Source.left c.take.new.self in
    let out = output (g.O.Sink.held c.args.out.now) (g.O.Sink.faults c.args.out.now) in
    let mid = output (g.O.Sink.held c.loop-number.out) (g.O.Sink.faults c.loop-number.out) in
    let t = standing c.loop-number.server.target c.loop-number.server.talk c.loop-number.server.console.items c.loop-number.server.sent.items in
    let end = output (g.O.Sink.held c.listen.new.out) (g.O.Sink.faults c.listen.new.out) in
    let u = standing c.listen.new.server.target c.listen.new.server.talk c.listen.new.server.console.items c.listen.new.server.sent.items in
    let consumed = took-byte now next c.in-Ok-Some.field-0 c.in-Ok-Some.byte c.in-Ok-Some.field-0-is c.in-Ok-Some.ensures.bytes in
    record {
      calm = c.in-Ok-Some.ensures.cause.same ∙ c.loop-number.invariant.calm;
      going = went-on rules first left now next out mid end c.loop-number.decoder t c.loop-number._number c.in-Ok-Some.byte c.loop-number.invariant.going consumed
          c.in-Ok-listen.outcome u c.listen.new.decoder c.in-Ok-listen.ensures.heard (sym c.if-is_last.ensures) c.listen.ensures.decoder;
    }

pub returns-in-Ok-None-clause-serves : goal.returns-in-Ok-None-clause-serves
returns-in-Ok-None-clause-serves g c =
    let rules = rules_of g.T.Target.scene g.T.Target.walks g.T.Target.inserts g.T.Target.removes g.T.Target.obeys in
    let first = first_standing rules c.args.target in
    let left = g.I.Source.left c.args.input.now in
    let now = g.I.Source.left c.loop-number.input in
    let next = g.I.Source.left c.take.new.self in
    let out = output (g.O.Sink.held c.args.out.now) (g.O.Sink.faults c.args.out.now) in
    let mid = output (g.O.Sink.held c.loop-number.out) (g.O.Sink.faults c.loop-number.out) in
    let t = standing c.loop-number.server.target c.loop-number.server.talk c.loop-number.server.console.items c.loop-number.server.sent.items in
    input-ended rules first left now next out mid c.loop-number.decoder t c.loop-number._number c.loop-number.invariant.going
    (took-none now next c.in-Ok-None.field-0 c.in-Ok-None.field-0-is c.in-Ok-None.ensures.bytes)

pub returns-in-Err-clause-serves : goal.returns-in-Err-clause-serves
returns-in-Err-clause-serves g c =
    let rules = rules_of g.T.Target.scene g.T.Target.walks g.T.Target.inserts g.T.Target.removes g.T.Target.obeys in
    let first = first_standing rules c.args.target in
    let left = g.I.Source.left c.args.input.now in
    let now = g.I.Source.left c.loop-number.input in
    let next = g.I.Source.left c.take.new.self in
    let out = output (g.O.Sink.held c.args.out.now) (g.O.Sink.faults c.args.out.now) in
    let mid = output (g.O.Sink.held c.loop-number.out) (g.O.Sink.faults c.loop-number.out) in
    let t = standing c.loop-number.server.target c.loop-number.server.talk c.loop-number.server.console.items c.loop-number.server.sent.items in
    input-failed rules first left now next out mid c.loop-number.decoder t c.loop-number._number c.loop-number.invariant.going c.in-Err.ensures.bytes

pub returns-then-is_last-clause-serves : goal.returns-then-is_last-clause-serves
returns-then-is_last-clause-serves g c =
    let rules = rules_of g.T.Target.scene g.T.Target.walks g.T.Target.inserts g.T.Target.removes g.T.Target.obeys in
    let first = first_standing rules c.args.target in
    let left = g.I.Source.left c.args.input.now in
    let now = g.I.Source.left c.loop-number.input in
    let next = g.I.Source.left c.take.new.self in
    let out = output (g.O.Sink.held c.args.out.now) (g.O.Sink.faults c.args.out.now) in
    let mid = output (g.O.Sink.held c.loop-number.out) (g.O.Sink.faults c.loop-number.out) in
    let t = standing c.loop-number.server.target c.loop-number.server.talk c.loop-number.server.console.items c.loop-number.server.sent.items in
    let end = output (g.O.Sink.held c.listen.new.out) (g.O.Sink.faults c.listen.new.out) in
    let u = standing c.listen.new.server.target c.listen.new.server.talk c.listen.new.server.console.items c.listen.new.server.sent.items in
    let consumed = took-byte now next c.in-Ok-Some.field-0 c.in-Ok-Some.byte c.in-Ok-Some.field-0-is c.in-Ok-Some.ensures.bytes in
    left-off rules first left now next out mid end c.loop-number.decoder t c.loop-number._number c.in-Ok-Some.byte c.loop-number.invariant.going consumed
    c.in-Ok-listen.outcome u c.in-Ok-listen.ensures.heard (sym c.if-is_last.ensures)

pub returns-in-Err-listen-clause-serves : goal.returns-in-Err-listen-clause-serves
returns-in-Err-listen-clause-serves g c =
    let rules = rules_of g.T.Target.scene g.T.Target.walks g.T.Target.inserts g.T.Target.removes g.T.Target.obeys in
    let first = first_standing rules c.args.target in
    let left = g.I.Source.left c.args.input.now in
    let now = g.I.Source.left c.loop-number.input in
    let next = g.I.Source.left c.take.new.self in
    let out = output (g.O.Sink.held c.args.out.now) (g.O.Sink.faults c.args.out.now) in
    let mid = output (g.O.Sink.held c.loop-number.out) (g.O.Sink.faults c.loop-number.out) in
    let t = standing c.loop-number.server.target c.loop-number.server.talk c.loop-number.server.console.items c.loop-number.server.sent.items in
    let end = output (g.O.Sink.held c.listen.new.out) (g.O.Sink.faults c.listen.new.out) in
    let consumed = took-byte now next c.in-Ok-Some.field-0 c.in-Ok-Some.byte c.in-Ok-Some.field-0-is c.in-Ok-Some.ensures.bytes in
    broke-off rules first left now next out mid end c.loop-number.decoder t c.loop-number._number c.in-Ok-Some.byte c.loop-number.invariant.going consumed c.in-Err-listen.broken c.in-Err-listen.ensures.broken

pub returns-clause-serves : goal.returns-clause-serves
returns-clause-serves g c =
    let rules = rules_of g.T.Target.scene g.T.Target.walks g.T.Target.inserts g.T.Target.removes g.T.Target.obeys in
    let first = first_standing rules c.args.target in
    let left = g.I.Source.left c.args.input.now in
    let now = g.I.Source.left c.loop-number.input in
    let out = output (g.O.Sink.held c.args.out.now) (g.O.Sink.faults c.args.out.now) in
    let mid = output (g.O.Sink.held c.loop-number.out) (g.O.Sink.faults c.loop-number.out) in
    let t = standing c.loop-number.server.target c.loop-number.server.talk c.loop-number.server.console.items c.loop-number.server.sent.items in
    bytes-ended rules first left now out mid c.loop-number.decoder t c.loop-number._number c.loop-number.invariant.going (omega (arith, c.loop-number-test.false, c.loop-number.auto._number-end))

pub returns-in-Ok-None-clause-output : goal.returns-in-Ok-None-clause-output
returns-in-Ok-None-clause-output g c = blames (returns-in-Ok-None-clause-serves g c)

pub returns-in-Err-clause-output : goal.returns-in-Err-clause-output
returns-in-Err-clause-output g c = blames (returns-in-Err-clause-serves g c)

pub returns-then-is_last-clause-output : goal.returns-then-is_last-clause-output
returns-then-is_last-clause-output g c = blames (returns-then-is_last-clause-serves g c)

pub returns-in-Err-listen-clause-output : goal.returns-in-Err-listen-clause-output
returns-in-Err-listen-clause-output g c = blames (returns-in-Err-listen-clause-serves g c)

pub returns-clause-output : goal.returns-clause-output
returns-clause-output g c = blames (returns-clause-serves g c)
