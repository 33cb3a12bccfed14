-- What takes a block of the heap or gives one up does what the table says.
use Rattle.toolbox.specs.declared.function.Function.TheVariants.{NewRoutineDescriptor, NewFatRoutineDescriptor, DisposeRoutineDescriptor, NewPtr, NewPtrClear, DisposePtr}
use Rattle.toolbox.proofs.Carried.{quietly_as}
use Rattle.toolbox.proofs.perform.perform.Goals as goal

pub returns-in-NewRoutineDescriptor-clause-does : goal.returns-in-NewRoutineDescriptor-clause-does
returns-in-NewRoutineDescriptor-clause-does g c =
    let new = c.new_descriptor.ensures in quietly_as c.laws.ensures c.args.function NewRoutineDescriptor c.in-NewRoutineDescriptor.is c.args.operands c.new_descriptor.result _ _ _ _ _ new.block new.bounds new.free

pub returns-in-NewFatRoutineDescriptor-clause-does : goal.returns-in-NewFatRoutineDescriptor-clause-does
returns-in-NewFatRoutineDescriptor-clause-does g c =
    let new = c.new_descriptor-in-NewFatRoutineDescriptor.ensures in
    quietly_as c.laws.ensures c.args.function NewFatRoutineDescriptor c.in-NewFatRoutineDescriptor.is c.args.operands c.new_descriptor-in-NewFatRoutineDescriptor.result _ _ _ _ _ new.block new.bounds new.free

pub returns-in-DisposeRoutineDescriptor-clause-does : goal.returns-in-DisposeRoutineDescriptor-clause-does
returns-in-DisposeRoutineDescriptor-clause-does g c =
    let given = c.dispose.ensures in
    quietly_as c.laws.ensures c.args.function DisposeRoutineDescriptor c.in-DisposeRoutineDescriptor.is c.args.operands c.dispose.result c.args.ram.now _ _ _ _ (given.block c.args.ram.now) given.bounds (c.laws.ensures.nothing _)

pub returns-in-NewPtr-clause-does : goal.returns-in-NewPtr-clause-does
returns-in-NewPtr-clause-does g c =
    let new = c.new_block.ensures in
    quietly_as c.laws.ensures c.args.function NewPtr c.in-NewPtr.is c.args.operands c.new_block.result c.args.ram.now _ _ _ _ (new.block c.args.ram.now) new.bounds (c.laws.ensures.nothing _)

pub returns-in-NewPtrClear-clause-does : goal.returns-in-NewPtrClear-clause-does
returns-in-NewPtrClear-clause-does g c =
    let new = c.new_cleared_block.ensures in quietly_as c.laws.ensures c.args.function NewPtrClear c.in-NewPtrClear.is c.args.operands c.new_cleared_block.result _ _ _ _ _ new.block new.bounds new.free

pub returns-in-DisposePtr-clause-does : goal.returns-in-DisposePtr-clause-does
returns-in-DisposePtr-clause-does g c =
    let given = c.dispose-in-DisposePtr.ensures in
    quietly_as c.laws.ensures c.args.function DisposePtr c.in-DisposePtr.is c.args.operands c.dispose-in-DisposePtr.result c.args.ram.now _ _ _ _ (given.block c.args.ram.now) given.bounds (c.laws.ensures.nothing _)
