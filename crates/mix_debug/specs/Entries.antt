-- The steps that are kept, as they stand in the rings: heads, runs and old bytes, those of the newest step first.
use Rattle.std.specs.Prelude.{◌≡◌, ℕ, ◌+◌, ◌-◌, ◌*◌, ◌/◌, ◌%◌, ◌<◌, ◌≤◌, nat_le, Bool, true, false, if◌then◌else◌, List, [], ◌∷◌, ◌++◌, length, take, drop, replicate, All}
use Rattle.big_memory.specs.Lists.{put}
use Rattle.host_heap.specs.Space.{Space}
use Rattle.host_heap.specs.Place.{can_place, freed, placed}
use Rattle.mix_debug.specs.declared.head.Head.{Head}
use Rattle.mix_debug.specs.declared.head.Span.{Span}
use Rattle.mix_debug.specs.declared.head.FrameChange.{FrameChange}
use Rattle.mix_debug.specs.declared.head.FrameChange.TheVariants.{Stays as FrameStays, Made as FrameMade, GivenUp}
use Rattle.mix_debug.specs.declared.head.BlockChange.{BlockChange}
use Rattle.mix_debug.specs.declared.head.BlockChange.TheVariants.{Stays as BlockStays, Made as BlockMade, Freed}
use Rattle.mix_debug.specs.Changes.{Run}
use Rattle.mix_debug.specs.Costs.{file_cost}
use Rattle.mix_debug.specs.WrittenBack.{olds_of}

-- what is kept of a step
pub record Entry : Type 0 where
  pub head : Head
  pub runs : List Run

-- how many it takes, as its head tells
abbrev pub head_cost : Head → ℕ
head_cost h = file_cost h.file + 8 * h.runs + h.olds

unfoldable pub total : List Entry → ℕ
total [] = 0
total (e ∷ es) = head_cost e.head + total es

-- the newest steps that together take at most so many bytes
unfoldable pub within : ℕ → List Entry → List Entry
within room [] = []
within room (e ∷ es) = if nat_le (head_cost e.head) room then e ∷ within (room - head_cost e.head) es else []

-- where runs lie
unfoldable pub spans_of : List Run → List Span
spans_of [] = []
spans_of (r ∷ rs) = record { at = r.at; count = length r.old } ∷ spans_of rs

-- the runs that lie there, with their bytes one after another
unfoldable pub runs_of : List Span → List ℕ → List Run
runs_of [] olds = []
runs_of (s ∷ ss) olds = record { at = s.at; old = take s.count olds } ∷ runs_of ss (drop s.count olds)

unfoldable pub entries : List Head → List Span → List ℕ → List Entry
entries [] spans olds = []
entries (h ∷ hs) spans olds =
    record { head = h; runs = runs_of (take h.runs spans) olds } ∷ entries hs (drop h.runs spans) (drop h.olds olds)

-- a head tells how many runs and bytes there are
pub record IsCounted (e : Entry) : Type 0 where
  pub runs : e.head.runs ≡ length e.runs
  pub olds : e.head.olds ≡ length (olds_of e.runs)

unfoldable pub heads_of : List Entry → List Head
heads_of [] = []
heads_of (e ∷ es) = e.head ∷ heads_of es

unfoldable pub all_spans : List Entry → List Span
all_spans [] = []
all_spans (e ∷ es) = spans_of e.runs ++ all_spans es

unfoldable pub all_olds : List Entry → List ℕ
all_olds [] = []
all_olds (e ∷ es) = olds_of e.runs ++ all_olds es

-- heads, runs and bytes are those of some steps, one after another: the first h, s and o of them
pub record Spells (h s o : ℕ) (heads : List Head) (spans : List Span) (olds : List ℕ) (es : List Entry) : Type 0 where
  pub heads_are : heads ≡ take h (heads_of es)
  pub spans_are : spans ≡ take s (all_spans es)
  pub olds_are : olds ≡ take o (all_olds es)
  pub counted : All IsCounted es

-- a frame's range in so many bytes of memory
pub record IsRange (len lo hi : ℕ) : Type 0 where
  pub first : lo % 16 ≡ 0
  pub last : hi % 16 ≡ 0
  pub stack : len - len / 4 ≤ lo
  pub order : lo < hi
  pub end : hi ≤ len

abbrev pub IsFrame : ℕ → FrameChange → Type 0
IsFrame len FrameStays = Unit {0}
IsFrame len (FrameMade lo hi) = IsRange len lo hi
IsFrame len (GivenUp lo hi) = IsRange len lo hi

-- a run lies in so many bytes of memory
abbrev pub IsInside : ℕ → Run → Type 0
IsInside len r = r.at + length r.old ≤ len

-- a step of a machine with so many bytes of memory
pub record IsEntry (len : ℕ) (e : Entry) : Type 0 where
  pub frame : IsFrame len e.head.frame
  pub runs : All (IsInside len) e.runs

-- the marks and the heap before a step
abbrev pub marks_before : FrameChange → List Bool → List Bool
marks_before FrameStays marks = marks
marks_before (FrameMade lo hi) marks = put (lo / 16) (replicate ((hi - lo) / 16) false) marks
marks_before (GivenUp lo hi) marks = put (lo / 16) (replicate ((hi - lo) / 16) true) marks

abbrev pub heap_before : BlockChange → Space → Space
heap_before BlockStays s = s
heap_before (BlockMade b) s = freed s b.address
heap_before (Freed b) s = if can_place s b.size b.address then placed s b.size b.address else s
