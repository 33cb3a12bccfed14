use Rattle.proc_info.specs.Views.{signature}
use Rattle.proc_info.proofs.Rules.{signature_keeps}
use Rattle.proc_info.proofs.sig.Sig.params.Goals as goal

pub returns-clause-rules : goal.returns-clause-rules
returns-clause-rules c = signature_keeps (signature c.args.self.now) c.args.self.now.valid
