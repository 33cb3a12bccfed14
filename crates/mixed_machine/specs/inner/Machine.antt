-- What loads and stores see of a machine.
use Rattle.big_memory.specs.Memory.{Memory}
use Rattle.switch_frame.specs.Seen.{seen_by}
use Rattle.mixed_machine.specs.declared.body.Body.{Body}
use Rattle.mixed_machine.specs.Machine.{callers_of, memory_of}

-- what loads and stores see of it
abbrev pub seen_of : Body → Memory
seen_of b = seen_by (memory_of b) (callers_of b)
