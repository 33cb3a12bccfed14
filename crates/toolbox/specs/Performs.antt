-- What a function does beside the registers, as it is answered to the call.
use Rattle.big_memory.specs.Memory.{Memory}
use Rattle.host_heap.specs.Space.{Space}
use Rattle.toolbox.specs.Effects.{Around, Resources}

-- the resources of the table
abbrev pub resources : Memory → Space → Around → Resources
resources memory heap around = record { memory = memory; heap = heap; around = around }
