-- The state in which a program starts, beside what the outside holds for it.
use Rattle.std.specs.Prelude.{[]}
use Rattle.switch_frame.specs.declared.program.Program.{Program}
use Rattle.toolbox.specs.Effects.{Around}
use Rattle.mixed_machine.specs.State.{State}

abbrev pub start_of : Program → Around → State
start_of p around =
    record {
      memory = p.ram.bytes;
      active = p.active;
      callers = [];
      heap = record { low = p.heap_lo; high = p.heap_hi; blocks = [] };
      around = around;
      main = p.main;
      a5 = p.a5;
      start_sp = p.start_sp;
    }
