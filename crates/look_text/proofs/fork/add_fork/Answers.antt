-- A fork that was read has its resources, and one that was refused has none.
use Rattle.std.proofs.Common.{◌≡◌, ◌++◌, List, Result, IfOk, sym, subst}
use Rattle.rsrc_fork.specs.Resources.{Resource}
use Rattle.rsrc_fork.specs.declared.error.RsrcError.{RsrcError}
use Rattle.look_text.specs.Forks.{fork_end, fork_text}
use Rattle.look_text.proofs.Refused.{refused_end, refused_text}
use Rattle.look_text.proofs.fork.add_fork.Goals as goal

pub returns-in-Ok-clause-text : goal.returns-in-Ok-clause-text
returns-in-Ok-clause-text c =
    subst (λ (read : Result (List Resource) RsrcError). IfOk c.add_codes.result (λ _. c.add_codes.new.text.items ≡ c.args.text.now.items ++ fork_text c.args.ids read))
    (sym c.in-Ok.ensures.is) c.add_codes.ensures.text

pub returns-in-Ok-clause-end : goal.returns-in-Ok-clause-end
returns-in-Ok-clause-end c =
    subst (λ (read : Result (List Resource) RsrcError). IfOk c.add_codes.result (λ end. end ≡ fork_end c.args.ids read)) (sym c.in-Ok.ensures.is) c.add_codes.ensures.end

pub returns-in-Ok-clause-near : goal.returns-in-Ok-clause-near
returns-in-Ok-clause-near c = c.add_codes.ensures.near

pub returns-in-Err-clause-text : goal.returns-in-Err-clause-text
returns-in-Err-clause-text c = refused_text c.args.ids c.args.text.now.items c.args.bytes.now c.in-Err.e c.end_without.result c.end_without.ensures.why c.in-Err.ensures.is

pub returns-in-Err-clause-end : goal.returns-in-Err-clause-end
returns-in-Err-clause-end c =
    refused_end c.args.ids c.args.bytes.now c.in-Err.e c.end_without.result c.end_without.ensures.why c.end_without.ensures.end c.in-Err.ensures.is
