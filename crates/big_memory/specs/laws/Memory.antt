-- A range without a guarded unit, as a relation.
use Rattle.std.specs.Prelude.{◌≡◌, ℕ, ◌+◌, ◌*◌, ◌<◌, false, slice_index_or}
use Rattle.big_memory.specs.Memory.{Memory}

-- the same as a relation: no unit of these bytes is guarded
abbrev pub IsFree : Memory → ℕ → ℕ → Type 0
IsFree m a n = (unit : ℕ) → a < 16 * unit + 16 → 16 * unit < a + n → slice_index_or m.marks unit false ≡ false
