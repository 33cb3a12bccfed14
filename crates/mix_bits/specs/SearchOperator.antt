-- The first of two answers that is there.
use Rattle.std.specs.Prelude.{Option, Some, None}

infixl 30 ◌or◌
-- the first of two, where it is there
abbrev pub ◌or◌ : {A : Type 0} → Option A → Option A → Option A
None or other = other
Some x or other = Some x
