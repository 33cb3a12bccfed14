-- What a sink holds after several puts: all that was put, or all until the put that failed.
use Rattle.std.specs.Prelude.{◌≡◌, ℕ, ◌≤◌, List, ◌++◌, length, take, Option}
use Rattle.std.specs.Io.KnownBytes.{Appends}
use Rattle.mix_io.specs.Counts.{Rose}

-- what a sink tells: the bytes that it holds, and its count of faults
pub record Output : Type 0 where
  pub held : Option (List ℕ)
  pub faults : ℕ

-- the sink took these bytes, and no put failed
pub record Grows (old new : Output) (bytes : List ℕ) : Type 0 where
  pub taken : Appends old.held new.held bytes
  pub calm : new.faults ≡ old.faults

-- the sink took these bytes, and then a put failed, of which it kept some front of the piece
pub record Breaks (old new : Output) (bytes piece : List ℕ) : Type 0 where
  pub kept : ℕ
  pub within : kept ≤ length piece
  pub taken : Appends old.held new.held (bytes ++ take kept piece)
  pub rose : Rose old.faults new.faults

-- a put failed: the sink holds a beginning of the text
pub record StopsWithin (old new : Output) (text : List ℕ) : Type 0 where
  pub before : List ℕ
  pub line : List ℕ
  pub rest : List ℕ
  pub order : text ≡ before ++ (line ++ rest)
  pub breaks : Breaks old new before line
