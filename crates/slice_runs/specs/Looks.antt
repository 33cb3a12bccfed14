-- What is read of a machine that was kept, from its image.
use Rattle.std.specs.Prelude.{◌≡◌, ℕ, List, drop, Err}
use Rattle.switch_frame.specs.Records.{isa_of, longs_of_file}
use Rattle.mix_engine.specs.declared.machine.Machine.{Machine}
use Rattle.mix_image.specs.Restoring.{IsRestored}
use Rattle.mix_image.specs.Spelling.{HasSpelling, set_number, spell}
use Rattle.mix_image.specs.declared.error.ImageError.{ImageError}
use Rattle.mix_image.specs.declared.error.ImageError.TheVariants.{NoMemory}
use Rattle.slice_parts.specs.Buffers.{Buffer, HoldsFront, IsLeft}

-- the status for an image that was not restored
abbrev pub refused_status : ImageError → ℕ
refused_status NoMemory = 9
refused_status _ = 3

pub data Looks (image : List ℕ) (at : ℕ) (longs bytes : Buffer) (set result : ℕ) : Type 0 where
  -- the bytes are no image, by the first test that they fail, or there was no memory for the machine
  refused : (error : ImageError) → IsRestored image (Err error) → result ≡ refused_status error → IsLeft longs → IsLeft bytes → Looks image at longs bytes set result
  -- the registers of the active set, and the bytes of memory from an address on, of the machine whose image it is
  seen : (machine : Machine) → HasSpelling machine → spell machine ≡ image → set ≡ set_number (isa_of machine.active)
      → HoldsFront (longs_of_file machine.active) longs → HoldsFront (drop at machine.body.ram.bytes) bytes → result ≡ 0
      → Looks image at longs bytes set result
