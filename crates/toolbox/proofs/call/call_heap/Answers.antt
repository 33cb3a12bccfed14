-- NewPtr and DisposePtr do what the table says of them.
use Rattle.std.proofs.Common.{◌∙◌, None, sym}
use Rattle.toolbox.specs.declared.function.Function.TheVariants.{NewPtr, DisposePtr}
use Rattle.toolbox.proofs.Carried.{quietly}
use Rattle.toolbox.proofs.Settled.{goes}
use Rattle.toolbox.proofs.call.call_heap.Goals as goal

pub returns-in-NewPtr-clause-done : goal.returns-in-NewPtr-clause-done
returns-in-NewPtr-clause-done c = λ tells memory around.
    let results = c.new_block-results.result in
    goes c.args.index c.args.active.now _ NewPtr _ results None _ _ (record { function = sym c.in-NewPtr.is ∙ c.at.ensures; operands = c.operands_of-operands.ensures }) c.settle.ensures
    (quietly c.laws.ensures NewPtr c.operands_of-operands.result results memory memory _ _ around (c.new_block-results.ensures.block memory) c.new_block-results.ensures.bounds (c.laws.ensures.nothing memory))

pub returns-in-DisposePtr-clause-done : goal.returns-in-DisposePtr-clause-done
returns-in-DisposePtr-clause-done c = λ tells memory around.
    let results = c.dispose-results.result in
    goes c.args.index c.args.active.now _ DisposePtr _ results None _ _ (record { function = sym c.in-DisposePtr.is ∙ c.at.ensures; operands = c.operands_of-operands-in-DisposePtr.ensures }) c.settle-in-DisposePtr.ensures
    (quietly c.laws.ensures DisposePtr c.operands_of-operands-in-DisposePtr.result results memory memory _ _ around (c.dispose-results.ensures.block memory) c.dispose-results.ensures.bounds (c.laws.ensures.nothing memory))
