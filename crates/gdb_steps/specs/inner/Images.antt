-- What is kept of a machine.
use Rattle.std.specs.Prelude.{◌≡◌, ℕ, []}
use Rattle.mix_engine.specs.declared.machine.Machine.{Machine}
use Rattle.mix_image.specs.Spelling.{HasSpelling, spell}
use Rattle.mix_io.specs.Memory.{kept_as}
use Rattle.gdb_steps.specs.declared.snapshot.Snapshot.{Snapshot}
use Rattle.gdb_steps.specs.declared.used.Used.{Used}

-- its image, after how many steps it was, and what was used up there
pub record IsImage (m : Machine) (used : Used) (steps : ℕ) (s : Snapshot) : Type 0 where
  pub steps_is : s.steps ≡ steps
  pub used_is : s.used ≡ used
  pub whole : HasSpelling m
  pub image : kept_as s.image [] ≡ spell m
