-- What is told of a program's files, and what its load answers.
use Rattle.std.proofs.Common.{◌≡◌, ◌≢◌, ℕ, List, ◌++◌, Result, Err, refl, ap, sym, ◌∙◌}
use Rattle.mix_load.specs.declared.error.LoadError.{LoadError}
use Rattle.mix_load.specs.declared.error.LoadError.TheVariants.{NoMemory}
use Rattle.mix_load.specs.declared.files.Files.{Files}
use Rattle.mix_load.specs.Segments.{id_count}
use Rattle.look_text.specs.Maps.{files_text}

pub ids_are : 32768 ≡ id_count
unfolding id_count
ids_are = refl

pub whole_text : (ids len : ℕ) (files : Files) (text : List ℕ) → ids ≡ id_count → text ≡ files_text ids len files → text ≡ files_text id_count len files
whole_text ids len files text are is = is ∙ ap (λ (n : ℕ). files_text n len files) are

pub more_text : (more text start whole : List ℕ) → more ≡ text ++ start → text ≡ whole → more ≡ whole ++ start
more_text more text start whole is are = is ∙ ap (λ (t : List ℕ). t ++ start) are

pub refused_so : {A : Type 0} (load : Result A LoadError) (e error : LoadError) → (error ≢ NoMemory → load ≡ Err error) → (e ≡ error) × (error ≢ NoMemory) → load ≡ Err e
refused_so load e error is why = is why.1 ∙ ap (λ (r : LoadError). Err r) (sym why.0)
