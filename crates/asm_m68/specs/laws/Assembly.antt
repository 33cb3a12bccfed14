-- How many words a text is compared with.
use Rattle.std.specs.Prelude.{ℕ}
use Rattle.m68_isa.specs.declared.instructions.Decoded68.{Decoded68}
use Rattle.m68_isa.specs.declared.instructions.Decoded68.TheVariants.{Op, Short}

-- how many words are its instruction's
abbrev pub count_of : Decoded68 → ℕ
count_of (Op i used) = used
count_of Short = 0
count_of _ = 1
