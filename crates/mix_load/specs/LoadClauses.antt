-- The files that a job can name.
use Rattle.std.specs.Prelude.{◌≡◌, ℕ, ◌≤◌, List, length, Option, Some, None, IsSome}
use Rattle.mix_bits.specs.declared.file.TheConstants.{MOST_BYTES}
use Rattle.mix_bits.specs.declared.isa.Isa.{Isa}
use Rattle.mix_bits.specs.declared.isa.Isa.TheVariants.{M68, Ppc}
use Rattle.mix_load.specs.declared.files.Files.{Files}

-- the files that a job can name: a flat file alone, or a fork, a container or both, with that of the main program
abbrev pub IsSmall : Option (List ℕ) → Type 0
IsSmall None = Unit {0}
IsSmall (Some bytes) = length bytes ≤ MOST_BYTES

abbrev pub HasMain : Isa → Files → Type 0
HasMain M68 files = IsSome files.rsrc
HasMain Ppc files = IsSome files.pef

abbrev pub IsAlone : Option (List ℕ) → Isa → Files → Type 0
IsAlone None main files = HasMain main files
IsAlone (Some flat) main files = (files.rsrc ≡ None) × (files.pef ≡ None)

pub record AreLoadable (files : Files) (main : Isa) : Type 0 where
  pub named : IsAlone files.flat main files
  pub flat : IsSmall files.flat
  pub rsrc : IsSmall files.rsrc
  pub pef : IsSmall files.pef
