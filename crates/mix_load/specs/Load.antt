-- Loading files: the program as it starts, or the first rule that is broken.
use Rattle.std.specs.Prelude.{ℕ, ◌+◌, ◌==◌, if◌then◌else◌, List, [], ◌∷◌, length, Option, Some, None, Result, Ok, Err}
use Rattle.mix_bits.specs.Results.{◌>>=◌}
use Rattle.mix_bits.specs.declared.isa.Isa.{Isa}
use Rattle.mix_bits.specs.declared.isa.Isa.TheVariants.{M68, Ppc}
use Rattle.big_memory.specs.Memory.{floor_of, zeroed}
use Rattle.switch_frame.specs.declared.program.Program.{Program}
use Rattle.switch_frame.specs.Pieces.{piece}
use Rattle.switch_frame.specs.Program.{program_start}
use Rattle.mix_bits.specs.declared.file.File.{File}
use Rattle.mix_bits.specs.declared.file.File.TheVariants.{Flat, Rsrc, Pef}
use Rattle.mix_load.specs.declared.error.LoadError.{LoadError}
use Rattle.mix_load.specs.declared.error.LoadError.TheVariants.{Empty}
use Rattle.mix_load.specs.declared.files.Files.{Files}
use Rattle.mix_load.specs.declared.image.Image.{Image}
use Rattle.mix_load.specs.Pieces.{with_pieces}
use Rattle.mix_load.specs.Outcome.{unless}
use Rattle.mix_load.specs.ForkImage.{too_large, with_fork}
use Rattle.mix_load.specs.ContainerImage.{with_container}
use Rattle.mix_load.specs.Start.{program_of}

-- memory of zeros, with no program
abbrev pub no_image : ℕ → Image
no_image len = record { ram = zeroed len; end = program_start; entry = 0; vector = 0; a5 = 0 }

-- where the 68K code of a flat file starts, 0 where it is PowerPC code
abbrev pub flat_entry : Isa → ℕ
flat_entry M68 = program_start
flat_entry Ppc = 0

abbrev pub flat_image : Isa → List ℕ → Image → Image
flat_image main bytes image =
    record image {
      ram = with_pieces (piece program_start bytes ∷ []) image.ram;
      end = program_start + length bytes;
      entry = flat_entry main;
    }

-- what a flat file adds
abbrev pub with_flat : Isa → List ℕ → Image → Result Image LoadError
with_flat main bytes image =
    unless (too_large (floor_of image.ram) (program_start + length bytes)) (flat_image main bytes image)

-- what a file adds, if it is given: it has a byte, and what it holds is placed
abbrev pub with_file : File → (List ℕ → Image → Result Image LoadError) → Option (List ℕ) → Image → Result Image LoadError
with_file file add None image = Ok image
with_file file add (Some bytes) image = if length bytes == 0 then Err (Empty file) else add bytes image

-- the program of files in `len` bytes of memory: the fork is placed before the container is read
abbrev pub load_of : Files → Isa → ℕ → Result Program LoadError
load_of files main len =
    with_file Flat (with_flat main) files.flat (no_image len)
    >>= (λ image. with_file Rsrc with_fork files.rsrc image
    >>= (λ image. with_file Pef (with_container main) files.pef image
    >>= (λ image. Ok (program_of main image))))
