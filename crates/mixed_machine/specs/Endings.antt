-- The end of a run, as its line in a trace tells it.
use Rattle.mix_bits.specs.declared.isa.Isa.{Isa}
use Rattle.call_trace.specs.declared.end.End.{End}
use Rattle.call_trace.specs.declared.end.End.TheVariants.{Exit, Fault, Limit}
use Rattle.mixed_machine.specs.Exec.{How}
use Rattle.mixed_machine.specs.Exec.How.{Limited, Exited, Faulted}

-- while a set was active
abbrev pub end_of : Isa → How → End
end_of set Limited = Limit
end_of set (Exited code) = Exit code
end_of set (Faulted fault) = Fault set fault
