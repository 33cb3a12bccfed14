-- Loading one file after the other.
use Rattle.std.proofs.Common.{◌≡◌, sym, ap, ◌∙◌, ℕ, Result, Ok, Err}
use Rattle.mix_bits.specs.declared.isa.Isa.{Isa}
use Rattle.switch_frame.specs.declared.program.Program.{Program}
use Rattle.mix_bits.specs.declared.file.File.TheVariants.{Flat, Rsrc, Pef}
use Rattle.mix_load.specs.declared.error.LoadError.{LoadError}
use Rattle.mix_load.specs.declared.files.Files.{Files}
use Rattle.mix_load.specs.declared.image.Image.{Image}
use Rattle.mix_bits.specs.Results.{◌>>=◌}
use Rattle.mix_load.specs.ContainerImage.{with_container}
use Rattle.mix_load.specs.ForkImage.{with_fork}
use Rattle.mix_load.specs.Load.{load_of, no_image, with_file, with_flat}
use Rattle.mix_load.specs.Start.{program_of}

abbrev after-pef : Isa → Result Image LoadError → Result Program LoadError
after-pef main r = r >>= (λ image. Ok (program_of main image))

abbrev after-fork : Files → Isa → Result Image LoadError → Result Program LoadError
after-fork files main r = r >>= (λ image. after-pef main (with_file Pef (with_container main) files.pef image))

abbrev after-flat : Files → Isa → Result Image LoadError → Result Program LoadError
after-flat files main r = r >>= (λ image. after-fork files main (with_file Rsrc with_fork files.rsrc image))

from-empty : (files : Files) (main : Isa) (len : ℕ) (none : Image) → none ≡ no_image len → load_of files main len ≡ after-flat files main (with_file Flat (with_flat main) files.flat none)
from-empty files main len none is = ap (λ (i : Image). after-flat files main (with_file Flat (with_flat main) files.flat i)) (sym is)

pub loads : (files : Files) (main : Isa) (len : ℕ) (none flat fork pef : Image) → none ≡ no_image len → with_file Flat (with_flat main) files.flat none ≡ Ok flat
    → with_file Rsrc with_fork files.rsrc flat ≡ Ok fork → with_file Pef (with_container main) files.pef fork ≡ Ok pef → load_of files main len ≡ Ok (program_of main pef)
loads files main len none flat fork pef is one two three =
    from-empty files main len none is ∙ (ap (after-flat files main) one ∙ (ap (after-fork files main) two ∙ ap (after-pef main) three))

pub fails-flat : (files : Files) (main : Isa) (len : ℕ) (none : Image) (e : LoadError) → none ≡ no_image len → with_file Flat (with_flat main) files.flat none ≡ Err e → load_of files main len ≡ Err e
fails-flat files main len none e is one = from-empty files main len none is ∙ ap (after-flat files main) one

pub fails-fork : (files : Files) (main : Isa) (len : ℕ) (none flat : Image) (e : LoadError) → none ≡ no_image len → with_file Flat (with_flat main) files.flat none ≡ Ok flat
    → with_file Rsrc with_fork files.rsrc flat ≡ Err e → load_of files main len ≡ Err e
fails-fork files main len none flat e is one two = from-empty files main len none is ∙ (ap (after-flat files main) one ∙ ap (after-fork files main) two)

pub fails-pef : (files : Files) (main : Isa) (len : ℕ) (none flat fork : Image) (e : LoadError) → none ≡ no_image len → with_file Flat (with_flat main) files.flat none ≡ Ok flat
    → with_file Rsrc with_fork files.rsrc flat ≡ Ok fork → with_file Pef (with_container main) files.pef fork ≡ Err e → load_of files main len ≡ Err e
fails-pef files main len none flat fork e is one two three =
    from-empty files main len none is ∙ (ap (after-flat files main) one ∙ (ap (after-fork files main) two ∙ ap (after-pef main) three))
