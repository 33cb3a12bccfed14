-- What a run keeps at its end.
use Rattle.std.specs.Prelude.{◌≡◌, ℕ, ◌≤◌, List, length, take, Option, Some, None}
use Rattle.mix_io.specs.Counts.{CountRose, CountsStay}
use Rattle.mix_io.specs.Kept.{KeepsMore}
use Rattle.mixed_machine.specs.State.{State}
use Rattle.mixed_machine.specs.Machine.{flat}
use Rattle.mixed_machine.specs.Exec.{How}
use Rattle.mixed_machine.specs.Exec.How.{Limited, Exited, Faulted}
use Rattle.mix_engine.specs.declared.machine.Machine.{Machine}
use Rattle.mix_image.specs.Spelling.{HasSpelling, spell}
use Rattle.mix_top.specs.World.{Keep}

-- a machine stands for a state, and these bytes are its spelling
pub record Spells (s : State) (bytes : List ℕ) : Type 0 where
  pub machine : Machine
  pub is : HasSpelling machine
  pub stands : flat machine.body machine.active s.around ≡ s
  pub spelled : spell machine ≡ bytes

-- these bytes were kept behind those of a name, all other names keep theirs, and no count rose
pub record KeepsAll (name bytes : List ℕ) (old new : Keep) : Type 0 where
  pub kept : KeepsMore old.kept new.kept name bytes
  pub calm : CountsStay old.faults new.faults

-- the keeper failed at them: a beginning of them was kept, and the count of the name rose
pub record KeepsPart (name bytes : List ℕ) (old new : Keep) : Type 0 where
  pub count : ℕ
  pub within : count ≤ length bytes
  pub kept : KeepsMore old.kept new.kept name (take count bytes)
  pub rose : CountRose old.faults new.faults name

-- what a run keeps that came to its end in a state: at the step limit, under the name that is given, the spelling of the
-- machine that stands for the state; and else nothing
abbrev pub KeptAt : Option (List ℕ) → How → State → Keep → Keep → Type 0
KeptAt None how last old new = new ≡ old
KeptAt (Some name) Limited last old new = (bytes : List ℕ) × Spells last bytes × KeepsAll name bytes old new
KeptAt (Some name) (Exited code) last old new = new ≡ old
KeptAt (Some name) (Faulted fault) last old new = new ≡ old
