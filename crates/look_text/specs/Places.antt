-- The places of a call's values, in words.
use Rattle.std.specs.Prelude.{ℕ, ◌+◌, ◌*◌, nat_lt, List, ◌++◌, codes, decimal, if◌then◌else◌}
use Rattle.args_m68.specs.declared.places.Flag.{Flag}
use Rattle.args_m68.specs.declared.places.Flag.TheVariants.{Carry, Overflow, IsZero, Negative, Extend}
use Rattle.args_m68.specs.declared.places.Place.{Place}
use Rattle.args_m68.specs.declared.places.Place.TheVariants.{Stack, Data, Address, Condition}

abbrev pub flag_text : Flag → List ℕ
flag_text Carry = codes "condition bit C"
flag_text Overflow = codes "condition bit V"
flag_text IsZero = codes "condition bit Z"
flag_text Negative = codes "condition bit N"
flag_text Extend = codes "condition bit X"

-- a place in 68K code
abbrev pub place_text : Place → List ℕ
place_text (Stack from) = codes "A7+" ++ decimal from
place_text (Data n) = codes "D" ++ decimal n
place_text (Address n) = codes "A" ++ decimal n
place_text (Condition flag) = flag_text flag

-- the place of word i of a call in PowerPC code, as args_ppc reads it: r3 to r10, and then the stack frame
unfoldable pub ppc_place : ℕ → List ℕ
ppc_place i = if nat_lt i 8 then codes "r" ++ decimal (3 + i) else (codes "r1+" ++ decimal (24 + 4 * i))
