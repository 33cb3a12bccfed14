-- Registers that wait for the step that they are before.
use Rattle.std.specs.Prelude.{◌≡◌, ℕ}
use Rattle.switch_frame.specs.declared.active.Active.{Active}
use Rattle.mix_debug.specs.declared.past.Past.{Past}
use Rattle.mix_debug.specs.inner.Entries.{head_with, still}

-- the registers that were written before a step
abbrev pub ready_in : Past → Active
ready_in p = p.ready.file

-- they wait as those of a step that changes nothing else, with the innermost frame at `top`
abbrev pub Waits : Past → ℕ → Type 0
Waits p top = p.ready ≡ head_with p.ready.file (still top)
