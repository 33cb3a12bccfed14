-- The outside of a call: what it tells before and after, and the last line that a call puts.
use Rattle.std.specs.Prelude.{◌≡◌, ℕ, ◌==◌, ◌⊎◌, List, [], ◌++◌, MatchBool, Option, IsSomeAnd}
use Rattle.mix_io.specs.Counts.{CountRose, CountsStay, Rose}
use Rattle.mix_io.specs.Streams.{Output, Grows, Breaks, StopsWithin}
use Rattle.dev_rack.specs.Accounts.{Accounts}
use Rattle.toolbox.specs.Calls.{Outside}
use Rattle.mix_top.specs.declared.ending.Ending.{Ending}

-- the files of a shelf by their names, where it tells them
abbrev pub Contents : Type 0
Contents = Option (List ℕ → Option (List ℕ))

-- what a shelf counts for each name: its faults, and the times that the file was too long
pub record ShelfCounts : Type 0 where
  pub faults : List ℕ → ℕ
  pub excesses : List ℕ → ℕ

-- a shelf: its files, and its counts
pub record Shelf : Type 0 where
  pub contents : Contents
  pub counts : ShelfCounts

-- the counts of a shelf stay; or that of its faults rose for a name; or that of a file which was too long
pub record NoneRose (old new : ShelfCounts) : Type 0 where
  pub faults : CountsStay old.faults new.faults
  pub excesses : CountsStay old.excesses new.excesses

pub record HasFailed (old new : ShelfCounts) (name : List ℕ) : Type 0 where
  pub faults : CountRose old.faults new.faults name
  pub excesses : CountsStay old.excesses new.excesses

pub record HasExceeded (old new : ShelfCounts) (name : List ℕ) : Type 0 where
  pub faults : CountsStay old.faults new.faults
  pub excesses : CountRose old.excesses new.excesses name

-- a keeper: the bytes of each name, where it tells them, and the count of faults of each name
pub record Keep : Type 0 where
  pub kept : Option (List ℕ → List ℕ)
  pub faults : List ℕ → ℕ

-- what lies beside the shelf: the input, the devices and the output; the trace; and the keeper
pub record Beside : Type 0 where
  pub outside : Outside
  pub trace : Output
  pub keep : Keep

abbrev pub beside : Outside → Output → Keep → Beside
beside outside trace keep = record { outside = outside; trace = trace; keep = keep }

pub record World : Type 0 where
  pub shelf : Shelf
  pub beside : Beside

-- the trace took these bytes and then a last line, and the status is this one; or it failed within that line, and the
-- status is 7
abbrev pub Closes : Output → Output → List ℕ → List ℕ → ℕ → ℕ → Type 0
Closes old new bytes line status result = (Grows old new (bytes ++ line) × (result ≡ status)) ⊎ (Breaks old new bytes line × (result ≡ 7))

-- a call that ends before any step: nothing was taken, asked, kept or put on the output, and one line is on the trace
pub record Early (old new : Beside) (line : List ℕ) (status : ℕ) (result : Ending) : Type 0 where
  pub steps : result.steps ≡ 0
  pub outside : new.outside ≡ old.outside
  pub keep : new.keep ≡ old.keep
  pub trace : Closes old.trace new.trace [] line status result.status

-- the output took a text, and the status is this one; or it failed and holds a beginning of it, and the status is 6
abbrev pub PutsText : Output → Output → List ℕ → ℕ → ℕ → Type 0
PutsText old new text status result = (Grows old new text × (result ≡ status)) ⊎ (StopsWithin old new text × (result ≡ 6))

-- a call that puts something on the output alone: no step of a run was done, and nothing was taken, asked, kept or traced
pub record OnlyPuts (old new : Beside) (result : Ending) : Type 0 where
  pub steps : result.steps ≡ 0
  pub input : new.outside.input ≡ old.outside.input
  pub rack : new.outside.rack ≡ old.outside.rack
  pub trace : new.trace ≡ old.trace
  pub keep : new.keep ≡ old.keep

-- a text was put, or the output failed and holds a beginning of it
pub record Listed (text : List ℕ) (old new : Beside) (result : Ending) : Type 0 where
  pub only : OnlyPuts old new result
  pub out : PutsText old.outside.out new.outside.out text 0 result.status

-- a count rose exactly where the call ended with its status
abbrev pub RoseAt : ℕ → ℕ → ℕ → ℕ → Type 0
RoseAt status result old new = MatchBool (result == status) (Rose old new) (new ≡ old)

-- so did the keeper's count of the name that the call may keep something under; and else its counts of all names stay
abbrev pub RoseFor : Option (List ℕ) → ℕ → Keep → Keep → Type 0
RoseFor save result old new = MatchBool (result == 8) (IsSomeAnd save (CountRose old.faults new.faults)) (CountsStay old.faults new.faults)

-- no failure of the input, the output, the trace or the keeper is passed over, and none is made up; and the journal
-- accounts for each device
pub record Accounted (save : Option (List ℕ)) (old new : Beside) (result : ℕ) : Type 0 where
  pub input : RoseAt 5 result old.outside.input.faults new.outside.input.faults
  pub out : RoseAt 6 result old.outside.out.faults new.outside.out.faults
  pub trace : RoseAt 7 result old.trace.faults new.trace.faults
  pub keep : RoseFor save result old.keep new.keep
  pub devices : Accounts old.outside.rack new.outside.rack
