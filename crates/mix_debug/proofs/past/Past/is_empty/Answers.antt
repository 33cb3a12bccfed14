use Rattle.std.proofs.Common.{◌∙◌, nat_lt, ap, sym}
use Rattle.std.specs.Option.{option_copied}
use Rattle.mix_debug.proofs.Holding.{newest-fits, none-first}
use Rattle.mix_debug.proofs.past.Past.is_empty.Goals as goal

pub returns-in-None : goal.returns-in-None
returns-in-None c = none-first 1048576 c.args.self.now.heads.items c.args.self.now.spans.items c.args.self.now.olds.items (sym c.get.ensures ∙ ap option_copied c.in-None.is)

pub returns-in-Some : goal.returns-in-Some
returns-in-Some c =
    ap (λ n. nat_lt n c.cost.result) c.from.ensures ∙ ap (nat_lt 1048576) c.cost.ensures
    ∙ newest-fits 1048576 c.args.self.now.heads.items c.args.self.now.spans.items c.args.self.now.olds.items c.in-Some.head.now (sym c.get.ensures ∙ ap option_copied c.in-Some.is)
