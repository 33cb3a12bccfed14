-- The trap of a function.
use Rattle.std.specs.Prelude.{ℕ, Option}
use Rattle.toolbox.specs.declared.function.Function.{Function}
use Rattle.toolbox.specs.Table.{row}

abbrev pub trap_of : Function → Option ℕ
trap_of f = (row f).trap
