-- A run of the sample, to which nothing outside is given.
use Rattle.std.specs.Prelude.{◌≡◌, ℕ, ◌-◌, ◌*◌, [], Result, Ok}
use Rattle.mix_bits.specs.declared.isa.Isa.TheVariants.{M68}
use Rattle.switch_frame.specs.declared.program.Program.{Program}
use Rattle.switch_frame.specs.Records.{isa_of}
use Rattle.toolbox.specs.Effects.{Around}
use Rattle.mixed_machine.specs.State.{State}
use Rattle.mixed_machine.specs.Exec.{How}
use Rattle.mixed_machine.specs.Endings.{end_of}
use Rattle.mixed_machine.specs.Crossings.{Counted}
use Rattle.mix_engine.specs.Start.{start_of}
use Rattle.mix_load.specs.Load.{load_of}
use Rattle.mix_load.specs.declared.error.LoadError.{LoadError}
use Rattle.mix_gen.specs.Sample.{sample_files}
use Rattle.mix_top.specs.declared.sampled.Sampled.{Sampled}

-- no input, no device and no answer
abbrev pub nothing : Around
nothing = record { input = []; slots = []; asks = []; answers = [] }

-- the RAM of the sample, in KiB, and how many steps are done at most
abbrev pub sample_ram : ℕ
sample_ram = 1024

abbrev pub sample_steps : ℕ
sample_steps = 4294967295

-- the sample image as a program in so many KiB of RAM
unfoldable pub sample_program : ℕ → ℕ → ℕ → Result Program LoadError
sample_program kib n depth = load_of (sample_files n depth) M68 (1024 * kib)

-- what a run of at most so many steps did from a state
pub record CountedRun (steps : ℕ) (start : State) (sampled : Sampled) : Type 0 where
  pub left : ℕ
  pub last : State
  pub how : How
  pub counted : Counted steps left start last how sampled.calls sampled.returns
  pub end_is : sampled.end ≡ end_of (isa_of last.active) how
  pub done : sampled.steps ≡ steps - left

-- what the run of the sample did
pub record IsSample (kib steps n depth : ℕ) (sampled : Sampled) : Type 0 where
  pub program : Program
  pub loaded : sample_program kib n depth ≡ Ok program
  pub ran : CountedRun steps (start_of program nothing) sampled
