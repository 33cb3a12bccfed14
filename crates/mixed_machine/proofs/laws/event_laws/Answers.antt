use Rattle.mixed_machine.proofs.Machines.{begins-at, goes-on-at, comes-back-at, limit-at, exits-at, faults-at, read-breaks-at, out-breaks-at, trace-breaks-at, callee-back, callee-stopped, cut-goes-on, stops-imply}
use Rattle.mixed_machine.proofs.laws.event_laws.Goals as goal

pub returns : goal.returns
returns c =
    record {
      begins = begins-at;
      goes_on = goes-on-at;
      comes_back = comes-back-at;
      limit = limit-at;
      exits = exits-at;
      faults = faults-at;
      read_breaks = read-breaks-at;
      out_breaks = out-breaks-at;
      trace_breaks = trace-breaks-at;
      callee_back = callee-back;
      callee_stopped = callee-stopped;
      cut = cut-goes-on;
      implied = stops-imply;
    }
