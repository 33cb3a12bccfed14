-- Memory as loads and stores see it: the memory beside the frames, with the frames in it.
use Rattle.std.specs.Prelude.{ℕ, zero, suc, ◌/◌, Bool, List, [], ◌∷◌, ◌++◌, length}
use Rattle.big_memory.specs.Memory.{Memory}
use Rattle.switch_frame.specs.Records.{Record}
use Rattle.switch_frame.specs.Chain.{covered, view}

-- the marks of the first n units: whether each lies in a frame
unfoldable pub marks_over : ℕ → List Record → List Bool
marks_over zero rs = []
marks_over (suc n) rs = marks_over n rs ++ (covered n rs ∷ [])

-- memory as loads and stores see it: the frames' images in their ranges, and their units guarded
unfoldable pub seen_by : List ℕ → List Record → Memory
seen_by memory rs = record { bytes = view memory rs; marks = marks_over (length memory / 16) rs }
