-- What a call leaves in the buffers that its caller lends, and what the objects tell that stand for them while it runs.
use Rattle.std.specs.Prelude.{◌≡◌, ℕ, ◌<◌, ◌≤◌, List, [], ◌∷◌, ◌++◌, length, take, drop, min, codes, bytes_eq, Option, Some, if◌then◌else◌}
use Rattle.mix_io.specs.Streams.{Output}

-- a buffer before and after, and how many bytes were put to its front
pub record Buffer : Type 0 where
  pub old : List ℕ
  pub new : List ℕ
  pub count : ℕ

abbrev pub buffer : List ℕ → List ℕ → ℕ → Buffer
buffer old new count = record {
  old = old;
  new = new;
  count = count;
}

-- these bytes, all of them, stand at its front, and behind them it is as it was
pub record Holds (bytes : List ℕ) (b : Buffer) : Type 0 where
  pub count : b.count ≡ length bytes
  pub front : b.new ≡ bytes ++ drop b.count b.old

-- as many of these as the buffer has room for stand at its front, and behind them it is as it was
pub record HoldsFront (bytes : List ℕ) (b : Buffer) : Type 0 where
  pub count : b.count ≡ min (length bytes) (length b.old)
  pub front : b.new ≡ take b.count bytes ++ drop b.count b.old

-- nothing was put
pub record IsLeft (b : Buffer) : Type 0 where
  pub bytes : b.new ≡ b.old
  pub count : b.count ≡ 0

-- no more was put to a buffer than it has room for
abbrev pub IsWithin : Buffer → Type 0
IsWithin b = b.count ≤ length b.old

-- a buffer has no byte left that could have taken more
abbrev pub IsFull : Buffer → Type 0
IsFull b = b.count ≡ length b.old

-- what a sink for a buffer tells: a number, how many bytes there is room for, and behind it what was put
abbrev pub told_of : ℕ → List ℕ → Option (List ℕ)
told_of room bytes = Some (room ∷ bytes)

-- what was put to the sink of a buffer stands in the buffer, all of it; and the sink failed only where that is full
pub record Shows (sink : Output) (b : Buffer) : Type 0 where
  pub all : (bytes : List ℕ) → sink.held ≡ told_of (length b.old) bytes → Holds bytes b
  pub full : (bytes : List ℕ) → sink.held ≡ told_of (length b.old) bytes → 0 < sink.faults → IsFull b

-- what a keeper for a buffer tells: under the name kept what was kept, and under the name room, where nothing is kept, a
-- number, how many bytes there is room for
abbrev pub kept_of : ℕ → List ℕ → List ℕ → List ℕ
kept_of room bytes name =
    if bytes_eq name (codes "kept") then bytes
    else if bytes_eq name (codes "room") then room ∷ []
    else []

-- what was kept stands in the buffer, all of it; and the keeper failed only where that is full
pub record ShowsKept (told : Option (List ℕ → List ℕ)) (faults : List ℕ → ℕ) (b : Buffer) : Type 0 where
  pub all : (kept : List ℕ → List ℕ) → told ≡ Some kept → kept (codes "room") ≡ length b.old ∷ [] → Holds (kept (codes "kept")) b
  pub full : (kept : List ℕ → List ℕ) → told ≡ Some kept → kept (codes "room") ≡ length b.old ∷ [] → 0 < faults (codes "kept") → IsFull b
