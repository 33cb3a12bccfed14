-- How the parts of `restore` answer.
use Rattle.std.specs.Prelude.{◌≡◌, ◌⊎◌, Result, Ok, Err}
use Rattle.switch_frame.specs.Chain.{records}
use Rattle.switch_frame.specs.ChecksClauses.{IsWholeChain}
use Rattle.switch_frame.specs.Program.{HasGatePage}
use Rattle.switch_frame.specs.Records.{isa_of}
use Rattle.mix_engine.specs.declared.machine.Machine.{Machine}
use Rattle.mix_image.specs.declared.error.ImageError.{ImageError}
use Rattle.mix_image.specs.declared.error.ImageError.TheVariants.{NoMemory}
use Rattle.mix_image.specs.Restoring.{IsTested}

-- an answer that is the one that is defined
abbrev pub Reads : {A B : Type 0} → (A → B) → Result A ImageError → Result B ImageError → Type 0
Reads view (Ok x) read = read ≡ Ok (view x)
Reads view (Err e) read = read ≡ Err e

-- or want of memory
abbrev pub Gives : {A : Type 0} → Result A ImageError → Result A ImageError → Type 0
Gives (Ok x) read = read ≡ Ok x
Gives (Err e) read = (e ≡ NoMemory) ⊎ (read ≡ Err e)

-- the same as the tests find it, before the frames are guarded
abbrev pub Passes : Machine → Result (Unit {0}) ImageError → Type 0
Passes m (Ok done) = HasGatePage m.body.a5 m.body.ram.bytes × IsWholeChain m.body.ram m.body.top (isa_of m.active) m.body.main (records m.body.ram.bytes m.body.top)
Passes m (Err e) = IsTested m (Err e)
