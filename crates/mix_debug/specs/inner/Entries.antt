-- What is kept of one step: registers, frame, block, and runs of old bytes.
use Rattle.std.specs.Prelude.{ℕ, zero, suc, ◌+◌, ◌==◌, nat_lt, if◌then◌else◌, List, [], ◌∷◌, length, take, Option, Some, None}
use Rattle.mix_bits.specs.declared.isa.Isa.{Isa}
use Rattle.switch_frame.specs.declared.active.Active.{Active}
use Rattle.switch_frame.specs.Sets.{frame_size}
use Rattle.host_heap.specs.declared.block.Block.{Block}
use Rattle.mix_reach.specs.laws.Steps.{is_made}
use Rattle.mix_debug.specs.declared.head.Effect.{Effect}
use Rattle.mix_debug.specs.declared.head.Head.{Head}
use Rattle.mix_debug.specs.declared.head.Span.{Span}
use Rattle.mix_debug.specs.declared.head.FrameChange.{FrameChange}
use Rattle.mix_debug.specs.declared.head.FrameChange.TheVariants.{Stays as FrameStays, Made as FrameMade, GivenUp}
use Rattle.mix_debug.specs.declared.head.BlockChange.{BlockChange}
use Rattle.mix_debug.specs.declared.head.BlockChange.TheVariants.{Stays as BlockStays, Made as BlockMade, Freed}
use Rattle.mix_debug.specs.Changes.{Run}
use Rattle.mix_debug.specs.WrittenBack.{olds_of}
use Rattle.mix_debug.specs.Entries.{Entry}

-- registers, and what a step did that began with them
abbrev pub head_with : Active → Effect → Head
head_with file e = record { file = file; top = e.top; frame = e.frame; block = e.block; runs = e.runs; olds = e.olds }

-- a step that changed nothing but registers
abbrev pub still : ℕ → Effect
still top = record { top = top; frame = FrameStays; block = BlockStays; runs = 0; olds = 0 }

-- what a step did that changed these runs of bytes
abbrev pub effect_of : ℕ → FrameChange → BlockChange → List Run → Effect
effect_of top frame block rs = record { top = top; frame = frame; block = block; runs = length rs; olds = length (olds_of rs) }

-- a run of so many bytes in front of others, of which a ring holds at most so many; nothing where it has no byte
abbrev pub closed : ℕ → ℕ → ℕ → List Span → List Span
closed room at zero spans = spans
closed room at (suc n) spans = take room (record { at = at; count = suc n } ∷ spans)

-- such a run counts as one, or as none
abbrev pub started : ℕ → ℕ
started zero = 0
started (suc n) = 1

unfoldable pub count_of : List Span → ℕ
count_of [] = 0
count_of (s ∷ ss) = s.count + count_of ss

-- the runs of the newest step
abbrev pub newest : List Entry → List Run
newest [] = []
newest (e ∷ es) = e.runs

-- what a step did to the frames, by where the innermost one begins before and after it, and by the sets
abbrev pub frame_between : ℕ → ℕ → Isa → Isa → FrameChange
frame_between old new old_set new_set =
    if new == old then FrameStays
    else (if is_made old new then FrameMade new (new + frame_size old_set) else GivenUp old (old + frame_size new_set))

-- the first block that does not stand at the same place of another list
unfoldable pub first_other : List Block → List Block → Option Block
first_other [] ys = None
first_other (x ∷ xs) [] = Some x
first_other (x ∷ xs) (y ∷ ys) = if x.address == y.address then first_other xs ys else Some x

abbrev pub made_of : Option Block → BlockChange
made_of None = BlockStays
made_of (Some b) = BlockMade b

abbrev pub freed_of : Option Block → BlockChange
freed_of None = BlockStays
freed_of (Some b) = Freed b

-- what a step did to the blocks
abbrev pub block_between : List Block → List Block → BlockChange
block_between old new =
    if length new == length old then BlockStays
    else (if nat_lt (length old) (length new) then made_of (first_other new old) else freed_of (first_other old new))
