-- Machines before the steps that are kept.
use Rattle.std.specs.Prelude.{List, [], ◌∷◌}
use Rattle.switch_frame.specs.Records.{isa_of}
use Rattle.mixed_machine.specs.Machine.{IsWhole}
use Rattle.mix_engine.specs.declared.machine.Machine.{Machine}
use Rattle.mix_debug.specs.WrittenBack.{undone}
use Rattle.mix_debug.specs.Entries.{Entry, head_cost, heap_before, marks_before}
use Rattle.mix_debug.specs.CostsClauses.{Kept}

-- a whole machine
abbrev pub IsSound : Machine → Type 0
IsSound m = IsWhole m.body (isa_of m.active)

-- the machine before a step that led to another
unfoldable pub before : Entry → Machine → Machine
before e m =
    record {
      active = e.head.file;
      body = record {
        ram = record { bytes = undone e.runs m.body.ram.bytes; marks = marks_before e.head.frame m.body.ram.marks };
        heap = heap_before e.head.block m.body.heap;
        top = e.head.top;
        a5 = m.body.a5;
        main = m.body.main;
        start_sp = m.body.start_sp;
      };
    }

-- the machines before the steps that are kept, the newest first
unfoldable pub earlier : Machine → List Entry → List Kept
earlier m [] = []
earlier m (e ∷ es) = record { machine = before e m; cost = head_cost e.head } ∷ earlier (before e m) es
