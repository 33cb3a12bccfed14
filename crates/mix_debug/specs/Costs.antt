-- How many bytes of history a step takes, and which steps are kept.
use Rattle.std.specs.Prelude.{ℕ}
use Rattle.switch_frame.specs.declared.active.Active.{Active}
use Rattle.switch_frame.specs.declared.active.Active.TheVariants.{M68, Ppc}

-- how many bytes of history a step takes beside its runs: its register file, top and block
abbrev pub file_cost : Active → ℕ
file_cost (M68 file) = 98
file_cost (Ppc file) = 174
