-- One step further.
use Rattle.std.proofs.Common.{◌==◌, ap, ◌∙◌}
use Rattle.std.specs.List.{list_any}
use Rattle.mix_engine.specs.declared.machine.Machine.{Machine}
use Rattle.gdb_steps.proofs.Passing.{passed}
use Rattle.gdb_steps.proofs.walker.Walker.pass.Goals as goal

pub returns-clause-passes : goal.returns-clause-passes
returns-clause-passes g c =
    passed c.args.until c.args.self.now c.look.new.self c.step_over.new.self c.machine-machine.result.now c.bytes.result.now c.stop_by.result c.look.ensures.beside c.look.ensures.ranges
    (record { input = c.step_over.ensures.keeps.input; breakpoints = c.step_over.ensures.keeps.breakpoints; watches = c.step_over.ensures.keeps.watches; snapshots = c.step_over.ensures.keeps.snapshots }) c.look.ensures.seen
    c.machine-machine.ensures.whole c.machine.ensures.whole c.in_ok-step_over.ensures.moves.0 c.in_ok-step_over.ensures.moves.1
    (record {
      is_break = c.has-is_break.result;
      set = c.isa-set.result;
      changed = c.changed-changed.result;
      machine = c.machine-machine.ensures.machine;
      ram = c.bytes.ensures.is ∙ ap (λ (m : Machine). m.body.ram.bytes) c.machine.ensures.machine;
      break_is = c.has-is_break.ensures ∙ ap (λ a. list_any (λ b. b == a) c.look.new.self.breakpoints) c.pc.ensures;
      set_is = c.isa-set.ensures;
      changed_is = c.changed-changed.ensures;
      halt_is = c.stop_by.ensures;
    })
