-- The machine that was kept is that of its place.
use Rattle.std.proofs.Common.{◌≤◌, [], ap, arith}
use Rattle.mix_io.specs.Memory.{kept_as}
use Rattle.gdb_steps.proofs.Restoring.{moved-restored, restored-only}
use Rattle.gdb_steps.proofs.walker.Walker.restore.Goals as goal

pub returns-clause-moves : goal.returns-clause-moves
returns-clause-moves g c =
    let few : c.last_before-kept.result.now.steps ≤ c.args.self.now.steps = (let before = c.last_before-kept.ensures.before in let earlier = c.requires.earlier in omega (arith, before, earlier)) in (
      moved-restored c.args.self.now.input.items c.args.self.now.debug c.in-Ok-new.debug c.args.self.now.used c.args.self.now.real c.args.self.now.steps c.args.self.now.past.items c.clear.new.self.items c.args.self.now.furthest
          c.args.self.now.snapshots c.last_before-kept.result.now c.in-Ok.machine c.last_before-kept.ensures.kept few
          (restored-only c.restore.result c.kept_by.result.now (kept_as c.last_before-kept.result.now.image []) c.in-Ok.machine _ c.in-Ok.is c.kept_by.ensures c.restore.ensures.only) c.in-Ok-new.ensures (ap (λ b. b.items) c.clear.ensures),
      c.last_before-kept.ensures.before,
    )
