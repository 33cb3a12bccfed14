-- A call of the program over files, an input and buffers of its caller, with a counter in slot 0 and a tape in slot 1, and
-- how many steps of a run it did.
use Rattle.std.specs.Prelude.{◌≡◌, ℕ, List, [], length, Option, Some}
use Rattle.mix_io.specs.StreamsClauses.{output}
use Rattle.mix_top.specs.World.{Beside, World}
use Rattle.mix_top.specs.WorldClauses.{two_devices}
use Rattle.mix_top.specs.Ends.{EndsWith}
use Rattle.mix_top.specs.declared.ending.Ending.{Ending}
use Rattle.slice_parts.specs.Buffers.{Buffer, IsLeft, IsWithin, Shows, ShowsKept, kept_of, told_of}

-- the outside of a call as it begins: the files and the input are told, nothing was put or kept, no device was asked, and
-- no count has risen
pub record Begins (files : List ℕ → Option (List ℕ)) (input : List ℕ) (out trace kept : Buffer) (world : World) : Type 0 where
  pub contents : world.shelf.contents ≡ Some files
  pub shelf : (name : List ℕ) → world.shelf.counts.faults name ≡ 0
  pub excesses : (name : List ℕ) → world.shelf.counts.excesses name ≡ 0
  pub left : world.beside.outside.input.left ≡ Some input
  pub faults : world.beside.outside.input.faults ≡ 0
  pub rack : world.beside.outside.rack ≡ two_devices
  pub put : world.beside.outside.out ≡ output (told_of (length out.old) []) 0
  pub traced : world.beside.trace ≡ output (told_of (length trace.old) []) 0
  pub saved : world.beside.keep.kept ≡ Some (kept_of (length kept.old) [])
  pub keep : (name : List ℕ) → world.beside.keep.faults name ≡ 0

-- no more was put to the buffers than they have room for
pub record AreWithin (out trace kept : Buffer) : Type 0 where
  pub put : IsWithin out
  pub traced : IsWithin trace
  pub saved : IsWithin kept

-- nothing was put to the buffers
pub record AreLeft (out trace kept : Buffer) : Type 0 where
  pub put : IsLeft out
  pub traced : IsLeft trace
  pub saved : IsLeft kept

-- what it put and kept stands in the buffers
pub record Leaves (beside : Beside) (out trace kept : Buffer) : Type 0 where
  pub put : Shows beside.outside.out out
  pub traced : Shows beside.trace trace
  pub saved : ShowsKept beside.keep.kept beside.keep.faults kept

-- the ways to end
pub data Called (words : List (List ℕ)) (files : List ℕ → Option (List ℕ)) (input : List ℕ) (out trace kept : Buffer) (steps result : ℕ) : Type 0 where
  -- there was no memory for the words, the files, the input or as many bytes as the buffers have; nothing was done
  no_memory : result ≡ 9 → steps ≡ 0 → IsLeft out → IsLeft trace → IsLeft kept → Called words files input out trace kept steps result
  -- the program was called, and ended in one of its ways
  called : (old new : World) (ending : Ending) → ending.status ≡ result → ending.steps ≡ steps
      → Begins files input out trace kept old → EndsWith words old new ending → Leaves new.beside out trace kept
      → Called words files input out trace kept steps result
