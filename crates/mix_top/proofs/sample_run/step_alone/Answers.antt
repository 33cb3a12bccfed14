-- How the run of one step stopped.
use Rattle.mix_top.proofs.Alone.{alone-exits, alone-faults, alone-goes}
use Rattle.mix_top.proofs.sample_run.step_alone.Goals as goal

pub returns-in-Exit-clause-step : goal.returns-in-Exit-clause-step
returns-in-Exit-clause-step c = alone-exits _ _ _ _ c.in-Exit.code c.in-Exit.ensures.run

pub returns-in-Fault-clause-step : goal.returns-in-Fault-clause-step
returns-in-Fault-clause-step c = alone-faults _ _ _ _ _ c.in-Fault.fault c.isa.ensures c.in-Fault.ensures.run

pub returns-in-Limit-clause-step : goal.returns-in-Limit-clause-step
returns-in-Limit-clause-step c = alone-goes _ _ _ _ c.in-Limit.ensures.run
