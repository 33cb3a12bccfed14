use Rattle.std.proofs.Common.{◌≡◌}
use Rattle.switch_frame.specs.declared.active.Active.{Active}
use Rattle.switch_frame.specs.declared.kind.Kind.TheVariants.{PpcToPpc}
use Rattle.switch_frame.specs.CallsClauses.{IsCalled}
use Rattle.switch_frame.specs.Chain.{Chain, records}
use Rattle.switch_frame.specs.Records.{isa_of}
use Rattle.switch_frame.specs.Sets.{callee_isa}
use Rattle.call_tests.proofs.frames.fill.Given as goal

abbrev pub invariant-loop : goal.invariant-loop
invariant-loop l = record { chain : Chain l.ram l.innermost (records l.ram.bytes l.innermost); called : (next : Active) → callee_isa PpcToPpc ≡ isa_of next → IsCalled next (records l.ram.bytes l.innermost) }
