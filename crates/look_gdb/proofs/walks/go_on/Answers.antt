use Rattle.std.proofs.Common.{◌≡◌, ◌++◌, ap, subst, ◌∙◌, true, Some, None, if◌then◌else◌, ◌-◌, ◌^◌, min}
use Rattle.mix_io.specs.StreamsClauses.{output}
use Rattle.mixed_machine.specs.Runs.{Sinks}
use Rattle.gdb_steps.specs.Walkers.{points_of, run_of, sinks}
use Rattle.gdb_steps.specs.Walks.{Forward}
use Rattle.look_gdb.specs.Walks.{bytes_put, empty}
use Rattle.look_gdb.proofs.walks.go_on.Goals as goal

pub returns-clause-goes : goal.returns-clause-goes
returns-clause-goes g c =
    let out = output (if c.forward-came.new.out.is_kept then Some c.forward-came.new.out.bytes.items else None) c.forward-came.new.out.faults in
    let trace = output (if c.forward-came.new.trace.is_kept then Some c.forward-came.new.trace.bytes.items else None) c.forward-came.new.trace.faults in
    let begun : sinks (output (if c.new-out.result.is_kept then Some c.new-out.result.bytes.items else None) c.new-out.result.faults)
    (output (if c.new-trace.result.is_kept then Some c.new-trace.result.bytes.items else None) c.new-trace.result.faults)
    ≡ sinks (empty true) (empty c.args.is_traced) = cc (c.new-out.ensures.held, c.new-out.ensures.faults, c.new-trace.ensures.held, c.new-trace.ensures.faults) in
    record {
      out = out;
      trace = trace;
      walks = λ b run. subst
          (λ (s : Sinks). Forward b (points_of c.args.walker.now) c.args.bounds.until (min c.args.bounds.steps (2 ^ 64 - 1 - c.args.walker.now.steps)) c.forward-came.result (run_of c.args.walker.now) (run_of c.forward-came.new.self) s (sinks out trace))
          begun (c.forward-came.ensures.walks b run);
      devices = c.forward-came.ensures.devices;
      tells = c.in_ok-tell-2.ensures ∙ ap (λ xs. xs ++ bytes_put trace.held) (c.in_ok-tell.ensures ∙ ap (λ xs. xs ++ bytes_put out.held) c.requires);
    }
