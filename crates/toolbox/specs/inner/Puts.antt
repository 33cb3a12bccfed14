-- What a function puts on the output.
use Rattle.std.specs.Prelude.{ℕ, ◌%◌, if◌then◌else◌, List, [], ◌∷◌}
use Rattle.big_memory.specs.Lists.{part}
use Rattle.big_memory.specs.Memory.{Memory, in_memory}
use Rattle.toolbox.specs.declared.values.Operands.{Operands}
use Rattle.toolbox.specs.declared.function.Function.{Function}
use Rattle.toolbox.specs.declared.function.Function.TheVariants.{PutByte, PutBlock}
use Rattle.toolbox.specs.Effects.{Effect}
use Rattle.toolbox.specs.Effects.Effect.{Gives, Crosses as CrossesInto, Leaves as LeavesWith, Refuses}

-- what a function puts on the output
abbrev pub piece_of : Function → Operands → Memory → List ℕ
piece_of PutByte o memory = o.first % 256 ∷ []
piece_of PutBlock o memory = if in_memory memory o.first o.second then part o.first o.second memory.bytes else []
piece_of _ o memory = []

-- what an effect says
abbrev pub said_by : Effect → List ℕ
said_by (Gives r results effects) = effects.said
said_by (CrossesInto pointer info) = []
said_by (LeavesWith code) = []
said_by (Refuses access) = []
