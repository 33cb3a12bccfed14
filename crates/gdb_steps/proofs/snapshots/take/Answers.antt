-- The image of a machine.
use Rattle.std.proofs.Common.{◌++◌, [], ap, refl, ◌∙◌}
use Rattle.mix_io.specs.Kept.{share}
use Rattle.mix_image.specs.Spelling.{spell}
use Rattle.gdb_steps.proofs.snapshots.take.Goals as goal

pub returns-in-Ok : goal.returns-in-Ok
returns-in-Ok c =
    record {
      steps_is = refl;
      used_is = refl;
      whole = c.save.ensures.spelled;
      image = c.in-Ok.ensures.bytes [] ∙ ap (λ xs. xs ++ share [] (spell c.args.machine.now) []) (c.in_ok-image.ensures.empty []);
    }
