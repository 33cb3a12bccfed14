-- What `restore` answers: the machine of an image's fields once its gate page and its frames are right, or the first refusal.
use Rattle.std.specs.Prelude.{◌≡◌, ◌⊎◌, Bool, ℕ, List, Result, Ok, Err, MatchResult}
use Rattle.switch_frame.specs.Calls.{IsOutermost, active_set}
use Rattle.switch_frame.specs.Chain.{Chain, records}
use Rattle.switch_frame.specs.Program.{HasGatePage}
use Rattle.switch_frame.specs.Records.{isa_of}
use Rattle.mix_engine.specs.declared.machine.Machine.{Machine}
use Rattle.mix_image.specs.declared.error.ImageError.{ImageError}
use Rattle.mix_image.specs.declared.error.ImageError.TheVariants.{NoMemory}
use Rattle.mix_image.specs.Fields.{fields_of}
use Rattle.mix_image.specs.Refusing.{IsWrong}

-- the machine with other marks
abbrev pub with_guard : List Bool → Machine → Machine
with_guard marks m = record m { body = record m.body { ram = record m.body.ram { marks = marks } } }

-- a machine whose gate page and frames are right, with its frames guarded
pub record IsGuarded (m result : Machine) : Type 0 where
  pub page : HasGatePage m.body.a5 m.body.ram.bytes
  pub same : result ≡ with_guard result.body.ram.marks m
  pub chain : Chain result.body.ram result.body.top (records result.body.ram.bytes result.body.top)
  pub called : isa_of result.active ≡ active_set result.body.main (records result.body.ram.bytes result.body.top)
  pub outermost : IsOutermost result.body.main (records result.body.ram.bytes result.body.top)

-- the tests behind the fields: the gate page, and the frames
abbrev pub IsTested : Machine → Result Machine ImageError → Type 0
IsTested m (Ok result) = IsGuarded m result
IsTested m (Err error) = IsWrong m error

-- what an image is restored to; once each field is right, want of memory may come instead
abbrev pub IsRestored : List ℕ → Result Machine ImageError → Type 0
IsRestored bytes result = MatchResult (fields_of bytes) (λ m. (result ≡ Err NoMemory) ⊎ IsTested m result) (λ e. result ≡ Err e)
