-- Those that are left were kept before.
use Rattle.std.proofs.Common.{◌≡◌, ◌==◌, ◌%◌, filter, rules}
use Rattle.std.proofs.lemmas.Fn.{filter_same}
use Rattle.gdb_steps.specs.Places.{IsKept}
use Rattle.gdb_steps.specs.declared.snapshot.Snapshot.{Snapshot}
use Rattle.gdb_steps.specs.inner.Held.{IsSafe}
use Rattle.gdb_steps.proofs.Keeping.{all-left}
use Rattle.gdb_steps.proofs.snapshots.Snapshots.make_room.Goals as goal

pub returns-clause-kept : goal.returns-clause-kept
returns-clause-kept c =
    let left : c.retain.new.self.items ≡ filter (λ (s : Snapshot). s.steps % c.saturating_mul-distance.result == 0) c.self.inside.later.items = filter_same _ _ _ (λ x b f' called. search rules) _ _ c.retain.ensures.filtered in
    λ b g all. all-left (IsKept b g) (λ s. s.steps % c.saturating_mul-distance.result == 0) c.self.inside.first c.self.inside.later.items c.retain.new.self.items c.args.self.now c.self.view_is left all

pub returns-clause-safe : goal.returns-clause-safe
returns-clause-safe c =
    let left : c.retain.new.self.items ≡ filter (λ (s : Snapshot). s.steps % c.saturating_mul-distance.result == 0) c.self.inside.later.items = filter_same _ _ _ (λ x b f' called. search rules) _ _ c.retain.ensures.filtered in
    λ input real all. all-left (IsSafe input real) (λ s. s.steps % c.saturating_mul-distance.result == 0) c.self.inside.first c.self.inside.later.items c.retain.new.self.items c.args.self.now c.self.view_is left all
