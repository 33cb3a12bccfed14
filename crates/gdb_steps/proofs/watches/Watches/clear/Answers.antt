-- The ranges that are left.
use Rattle.std.proofs.Common.{◌≡◌, ◌∙◌, ap, filter, map, not, rules}
use Rattle.std.proofs.lemmas.Fn.{filter_same}
use Rattle.gdb_steps.specs.Points.{is_same_range, range_of}
use Rattle.gdb_steps.proofs.Looking.{filter-map}
use Rattle.gdb_steps.proofs.watches.Watches.clear.Goals as goal

pub returns-clause-after : goal.returns-clause-after
returns-clause-after c =
    let left : c.retain.new.self.items ≡ filter (λ w. not (is_same_range (record { at = c.args.at; count = c.args.count }) (range_of w))) c.self.inside.list.items = filter_same _ _ _ (λ x b f' called. search rules) _ _ c.retain.ensures.filtered in
    ap (map range_of) left
    ∙ (filter-map (λ r. not (is_same_range (record { at = c.args.at; count = c.args.count }) r)) range_of c.self.inside.list.items
    ∙ ap (λ ws. filter (λ r. not (is_same_range (record { at = c.args.at; count = c.args.count }) r)) (map range_of ws)) c.self.view_is)
