-- The way in which the run ended.
use Rattle.std.proofs.Common.{refl}
use Rattle.switch_frame.specs.Records.{isa_of}
use Rattle.mix_top.proofs.Ways.{ends-run, ends-unkept}
use Rattle.mix_top.proofs.run.run_machine_beside.Goals as goal

pub returns-in-Ok-clause-ends : goal.returns-in-Ok-clause-ends
returns-in-Ok-clause-ends g c =
    ends-run _ _ c.run_counted-stop.result c.args.steps c.run_counted-stop.new.left _ _ c.run_counted-stop.new.m _ _ (isa_of c.run_counted-stop.new.m.active) _ _ c.due.ensures refl refl refl c.in-Ok.ensures refl
    c.run_counted-stop.ensures.run c.run_counted-stop.ensures.blames c.run_counted-stop.ensures.devices c.finish.ensures

pub returns-in-Err-clause-ends : goal.returns-in-Err-clause-ends
returns-in-Err-clause-ends g c =
    ends-unkept _ _ c.run_counted-stop.result c.args.steps c.run_counted-stop.new.left _ _ c.run_counted-stop.new.m _ _ _ _ c.due.ensures refl refl refl c.in-Err.ensures refl refl
    c.run_counted-stop.ensures.run c.run_counted-stop.ensures.blames c.run_counted-stop.ensures.devices
