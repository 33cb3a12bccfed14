use Rattle.std.proofs.Common.{◌∷◌, ap, subst, sym, ◌∙◌}
use Rattle.switch_frame.specs.Innermost.{IsInnermost}
use Rattle.switch_frame.specs.Calls.{active_set}
use Rattle.switch_frame.specs.Chain.{records}
use Rattle.mixed_machine.specs.Machine.{callers_of}
use Rattle.mix_engine.proofs.Framing.{callers-are, chain-is, innermost-is, resumes}
use Rattle.mix_engine.proofs.frames.resume.Goals as goal

pub give_up-requires-clause-chain : goal.give_up-requires-clause-chain
give_up-requires-clause-chain c = chain-is c.args.body.now c.requires.whole.chain

pub give_up-requires-clause-innermost : goal.give_up-requires-clause-innermost
give_up-requires-clause-innermost c = subst (IsInnermost c.args.held.now.lo c.args.held.now.hi) (callers-are c.args.body.now) c.requires.innermost

pub returns : goal.returns
returns c =
    let body = c.args.body.now in
    let rs = records body.ram.bytes body.top in
    let first = innermost-is c.args.held.now.lo c.args.held.now.hi rs (subst (IsInnermost c.args.held.now.lo c.args.held.now.hi) (callers-are body) c.requires.innermost) in (
      first.0,
      resumes c.call_laws.ensures body c.give_up.new.ram c.give_up.new.top (active_set body.main (callers_of body)) first.0 c.requires.whole
          (first.1 ∙ ap (λ outer. first.0 ∷ outer) (sym c.give_up.ensures.records)) c.give_up.ensures.chain c.give_up.ensures.memory c.give_up.ensures.len,
    )
