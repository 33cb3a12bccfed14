-- Asks that are a beginning of a journal.
use Rattle.std.proofs.Common.{rules}
use Rattle.gdb_steps.proofs.Fronts.{front-no, front-yes}
use Rattle.gdb_steps.proofs.forward.is_beginning.Goals as goal

pub returns-then-asks-journal-clause-yes : goal.returns-then-asks-journal-clause-yes
returns-then-asks-journal-clause-yes c = front-yes c.args.asks.now c.args.journal.now c.eq.result c.eq.ensures (λ a b. (λ h. search rules, λ e. search rules))

pub returns-then-asks-journal-clause-no : goal.returns-then-asks-journal-clause-no
returns-then-asks-journal-clause-no c = front-no c.args.asks.now c.args.journal.now c.eq.result c.eq.ensures (λ a b. (λ h. search rules, λ e. search rules))
