-- The operations of first words by letters.
use Rattle.std.specs.Prelude.{ℕ, List}
use Rattle.m68_isa.specs.declared.op.Op68.{Op68}
use Rattle.m68_isa.specs.declared.letters.TheConstants.{LETTERS}
use Rattle.m68_isa.specs.declared.lettered.TheConstants.{LETTERED}

-- the letter of each first word, in their order
unfoldable pub letters : List ℕ
letters = LETTERS.now

-- the operation of each letter, by its code
unfoldable pub lettered : List Op68
lettered = LETTERED
