use Rattle.std.proofs.Common.{ℕ, ◌==◌, ◌&&◌, List, length, nat_lt, not, ap, ◌∙◌}
use Rattle.std.specs.List.{list_any}
use Rattle.look_gdb.specs.Views.{View}
use Rattle.look_gdb.specs.Walks.{other_breaks}
use Rattle.look_gdb.proofs.Points.{none_left}
use Rattle.look_gdb.proofs.served.Served.place_break.Goals as goal

pub returns-clause-exact : goal.returns-clause-exact
returns-clause-exact g c =
    let a = c.args.address in
    let bs = c.self.inside.walker.breakpoints in
    c.set_break.ensures.exact
    ∙ ap (λ (xs : List ℕ). not (list_any (λ b. b == a) xs) && nat_lt (length xs) 256) c.clear_break-was_set.ensures.after
    ∙ ap (λ t. not t && nat_lt (length (other_breaks (record { breaks = bs; watches = c.args.self.now.points.watches }) a)) 256) (none_left (λ b. b == a) bs)
    ∙ ap (λ (v : View). nat_lt (length (other_breaks v.points a)) 256) c.self.view_is
