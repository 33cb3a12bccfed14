-- Ranges by what is watched.
use Rattle.std.proofs.Common.{◌∙◌, ap, map, sym}
use Rattle.std.specs.List.{list_any}
use Rattle.gdb_steps.specs.Points.{is_same_range, range_of}
use Rattle.gdb_steps.proofs.Looking.{any-map}
use Rattle.gdb_steps.proofs.watches.Watches.has.Goals as goal

pub returns : goal.returns
returns c =
    c.is_among.ensures
    ∙ (sym (any-map (is_same_range (record { at = c.args.at; count = c.args.count })) range_of c.deref.result.now)
    ∙ ap (λ ws. list_any (is_same_range (record { at = c.args.at; count = c.args.count })) (map range_of ws)) (c.deref.ensures.value ∙ c.self.view_is))
