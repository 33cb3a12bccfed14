-- The host table, as the code has it: a row for each function. What a function does stands in Effects.
use Rattle.std.specs.Prelude.{ℕ, List, map, slice_index_or, Option}
use Rattle.std.specs.Option.{option_map}
use Rattle.toolbox.specs.declared.function.Function.{Function}
use Rattle.toolbox.specs.declared.function.Function.TheVariants.{NewRoutineDescriptor, NewFatRoutineDescriptor, DisposeRoutineDescriptor, CallUniversalProc, NewPtr, NewPtrClear, DisposePtr, BlockMove, ExitToShell, PutByte, GetByte, PutBlock, AskDevice, EjectDevice, ExitWith, UnloadSeg}
use Rattle.toolbox.specs.declared.table.Row.{Row}
use Rattle.toolbox.specs.declared.function.TheConstants.{ROWS, IMPORTS}
use Rattle.toolbox.specs.declared.table.TheConstants.{NOWHERE}

-- the library and the name by which each function is imported, in the order of the rows
abbrev pub imports : List (Option (List ℕ × List ℕ))
imports = map (λ i. option_map (λ b. (b.0.now, b.1.now)) i) IMPORTS

-- the number of a function is that of its row
abbrev pub number_of : Function → ℕ
number_of NewRoutineDescriptor = 0
number_of NewFatRoutineDescriptor = 1
number_of DisposeRoutineDescriptor = 2
number_of CallUniversalProc = 3
number_of NewPtr = 4
number_of NewPtrClear = 5
number_of DisposePtr = 6
number_of BlockMove = 7
number_of ExitToShell = 8
number_of PutByte = 9
number_of GetByte = 10
number_of PutBlock = 11
number_of AskDevice = 12
number_of EjectDevice = 13
number_of ExitWith = 14
number_of UnloadSeg = 15

abbrev pub row : Function → Row
row f = slice_index_or ROWS (number_of f) NOWHERE
