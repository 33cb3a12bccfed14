-- The ways in which a machine that was kept is continued.
use Rattle.std.specs.Prelude.{◌≡◌, ℕ, pos, List, codes, Option, None, Some}
use Rattle.mixed_machine.specs.Machine.{flat}
use Rattle.mix_engine.specs.declared.machine.Machine.{Machine}
use Rattle.mix_image.specs.Refusing.{IsRefused}
use Rattle.mix_image.specs.Spelling.{HasSpelling, spell}
use Rattle.mix_image.specs.declared.error.ImageError.{ImageError}
use Rattle.mix_image.specs.declared.error.ImageError.TheVariants.{NoMemory, Short, Magic, Ram, Main, StartSp, Heap, Block, Active, Ccr, Page, Extra, Gate, Frame}
use Rattle.mix_top.specs.Lines.{Refusal, load_line, memory_line, refusal}
use Rattle.mix_top.specs.Running.{MachineRan}
use Rattle.mix_top.specs.World.{Beside, Early}
use Rattle.mix_top.specs.declared.ending.Ending.{Ending}

-- why an image is refused, and the number that goes with it, 0 where there is none; none for want of memory, which has a
-- line of its own
abbrev pub image_refusal : ImageError → Option Refusal
image_refusal NoMemory = None
image_refusal (Short length) = Some (refusal (codes "image-short") (pos length))
image_refusal Magic = Some (refusal (codes "image-magic") (pos 0))
image_refusal (Ram kib) = Some (refusal (codes "image-ram") (pos kib))
image_refusal (Main set) = Some (refusal (codes "image-main") (pos set))
image_refusal (StartSp sp) = Some (refusal (codes "image-startsp") (pos sp))
image_refusal Heap = Some (refusal (codes "image-heap") (pos 0))
image_refusal (Block number) = Some (refusal (codes "image-block") (pos number))
image_refusal (Active set) = Some (refusal (codes "image-active") (pos set))
image_refusal (Ccr long) = Some (refusal (codes "image-ccr") (pos long))
image_refusal (Page number) = Some (refusal (codes "image-page") (pos number))
image_refusal (Extra place) = Some (refusal (codes "image-extra") (pos place))
image_refusal (Gate address) = Some (refusal (codes "image-gate") (pos address))
image_refusal (Frame address) = Some (refusal (codes "image-frame") (pos address))

-- the ways to end once an image was fetched
pub data ContinueWay (save : Option (List ℕ)) (steps : ℕ) (image : List ℕ) (old new : Beside) (result : Ending) : Type 0 where
  -- there was no memory for the machine
  no_memory : Early old new memory_line 9 result → ContinueWay save steps image old new result
  -- the bytes are no image, by the first test that they fail
  image_refused : (error : ImageError) (why : Refusal) → image_refusal error ≡ Some why → IsRefused image error
      → Early old new (load_line why) 3 result
      → ContinueWay save steps image old new result
  -- the machine of which they are the spelling ran on
  continued : (machine : Machine) → HasSpelling machine → spell machine ≡ image
      → MachineRan save (flat machine.body machine.active) steps old new result
      → ContinueWay save steps image old new result
