-- One more is kept, or none.
use Rattle.std.proofs.Common.{is_ok}
use Rattle.gdb_steps.specs.Places.{IsKept}
use Rattle.gdb_steps.specs.inner.Held.{IsSafe}
use Rattle.gdb_steps.proofs.Keeping.{all-kept, all-pushed, kept-image, safe-image}
use Rattle.gdb_steps.proofs.snapshots.Snapshots.keep.Goals as goal

pub returns-then-past-gt0-clause-kept : goal.returns-then-past-gt0-clause-kept
returns-then-past-gt0-clause-kept c =
    λ b g all is. all-kept (IsKept b g) c.self.inside.first c.self.inside.later.items c.make_room.new.self c.self.view_is (c.make_room.ensures.kept b g all)

pub returns-then-past-gt0-clause-safe : goal.returns-then-past-gt0-clause-safe
returns-then-past-gt0-clause-safe c =
    λ input real all is. all-kept (IsSafe input real) c.self.inside.first c.self.inside.later.items c.make_room.new.self c.self.view_is (c.make_room.ensures.safe input real all)

pub returns-clause-kept : goal.returns-clause-kept
returns-clause-kept c =
    λ b g all is.
    all-pushed (IsKept b g) c.self.inside.first c.self.inside.later.items c.push.new.self.items c.make_room.new.self c.in-Ok.snapshot (is_ok c.push.result) c.self.view_is c.push.ensures.items (c.make_room.ensures.kept b g all)
    (kept-image b g c.args.machine.now c.args.used c.args.steps c.in-Ok.snapshot c.in-Ok.ensures is)

pub returns-clause-safe : goal.returns-clause-safe
returns-clause-safe c =
    λ input real all is.
    all-pushed (IsSafe input real) c.self.inside.first c.self.inside.later.items c.push.new.self.items c.make_room.new.self c.in-Ok.snapshot (is_ok c.push.result) c.self.view_is c.push.ensures.items (c.make_room.ensures.safe input real all)
    (safe-image input real c.args.machine.now c.args.used c.args.steps c.in-Ok.snapshot c.in-Ok.ensures is)

pub returns-in_default-clause-kept : goal.returns-in_default-clause-kept
returns-in_default-clause-kept c =
    λ b g all is. all-kept (IsKept b g) c.self.inside.first c.self.inside.later.items c.make_room.new.self c.self.view_is (c.make_room.ensures.kept b g all)

pub returns-in_default-clause-safe : goal.returns-in_default-clause-safe
returns-in_default-clause-safe c =
    λ input real all is. all-kept (IsSafe input real) c.self.inside.first c.self.inside.later.items c.make_room.new.self c.self.view_is (c.make_room.ensures.safe input real all)
