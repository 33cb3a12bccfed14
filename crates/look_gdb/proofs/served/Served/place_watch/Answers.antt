use Rattle.std.proofs.Common.{◌&&◌, List, length, nat_le, nat_lt, not, ap, ◌∙◌}
use Rattle.std.specs.List.{list_any}
use Rattle.gdb_steps.specs.Points.{Range, is_same_range}
use Rattle.gdb_steps.specs.Walkers.{points_of}
use Rattle.look_gdb.specs.Views.{View}
use Rattle.look_gdb.specs.Walks.{other_watches, range}
use Rattle.look_gdb.proofs.Points.{none_left}
use Rattle.look_gdb.proofs.served.Served.place_watch.Goals as goal

pub returns-clause-exact : goal.returns-clause-exact
returns-clause-exact g c =
    let a = c.args.address in
    let n = c.args.count in
    let points = points_of c.self.inside.walker in
    c.set_watch.ensures.exact
    ∙ ap (λ (xs : List Range). nat_le 1 n && (nat_le n 64 && (not (list_any (is_same_range (range a n)) xs) && nat_lt (length xs) 16))) c.clear_watch-was_set.ensures.after
    ∙ ap (λ t. nat_le 1 n && (nat_le n 64 && (not t && nat_lt (length (other_watches points a n)) 16))) (none_left (is_same_range (range a n)) points.watches)
    ∙ ap (λ (v : View). nat_le 1 n && (nat_le n 64 && nat_lt (length (other_watches v.points a n)) 16)) c.self.view_is
