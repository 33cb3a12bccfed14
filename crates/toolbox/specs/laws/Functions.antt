-- Each function has its own number.
use Rattle.std.specs.Prelude.{◌≡◌}
use Rattle.toolbox.specs.declared.function.Function.{Function}
use Rattle.toolbox.specs.Table.{number_of}
use Rattle.toolbox.specs.Functions.{function_at}

-- a function has its own number
abbrev pub NumbersAreOwn : Type 0
NumbersAreOwn = (f : Function) → function_at (number_of f) ≡ f
