use Rattle.mixed_machine.proofs.Runs.{no-steps, exec-continues, exec-stays, backs-stay, limits-last, backs-continue, ends-reach, never-back}
use Rattle.mixed_machine.proofs.Logs.{log-continues}
use Rattle.mixed_machine.proofs.Machines.{cuts-continue}
use Rattle.mixed_machine.proofs.laws.run_laws.Goals as goal

pub returns : goal.returns
returns c =
    record {
      none = no-steps;
      continues = exec-continues;
      stays = exec-stays;
      backs_stay = backs-stay;
      last = limits-last;
      backs = backs-continue;
      reaches = ends-reach;
      never_back = never-back;
      cuts = cuts-continue;
      logs = log-continues;
    }
