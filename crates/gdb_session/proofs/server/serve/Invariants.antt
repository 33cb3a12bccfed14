use Rattle.std.proofs.Common.{◌≡◌}
use Rattle.mix_io.specs.StreamsClauses.{output}
use Rattle.gdb_session.specs.Replies.{rules_of}
use Rattle.gdb_session.specs.Serving.{first_standing, standing}
use Rattle.gdb_session.proofs.Serving.{Going}
use Rattle.gdb_session.proofs.server.serve.Given as goal

-- neither stream has failed so far, and all that was taken was met
pub record Begun (IsCalm Goes : Type 0) : Type 0 where
  pub calm : IsCalm
  pub going : Goes

abbrev pub invariant-loop-number : goal.invariant-loop-number
invariant-loop-number g l =
    let rules = rules_of g.T.Target.scene g.T.Target.walks g.T.Target.inserts g.T.Target.removes g.T.Target.obeys in
    Begun (g.I.Source.faults l.input ≡ g.I.Source.faults l.fn.input)
    (Going rules (first_standing rules l.fn.target) (g.I.Source.left l.fn.input) (g.I.Source.left l.input)
    (output (g.O.Sink.held l.fn.out) (g.O.Sink.faults l.fn.out)) (output (g.O.Sink.held l.out) (g.O.Sink.faults l.out))
    l.decoder (standing l.server.target l.server.talk l.server.console.items l.server.sent.items) l._number)
