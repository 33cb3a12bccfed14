-- The sample image is loaded.
use Rattle.std.proofs.Common.{◌≡◌, ◌≢◌, ℕ, ◌+◌, ◌-◌, ◌/◌, ◌*◌, ◌≤◌, ◌==◌, List, length, false, Some, None, Result, Ok, Err, if◌then◌else◌, ◌^◌, sym, ap, ◌∙◌, subst, refl, arith}
use Rattle.std.proofs.lemmas.Bool.Decides.{nat_tests}
use Rattle.std.proofs.lemmas.List.{length-replicate}
use Rattle.mix_bits.specs.declared.isa.Isa.TheVariants.{M68}
use Rattle.big_memory.specs.Memory.{floor_of, zeroed}
use Rattle.switch_frame.specs.declared.program.Program.{Program}
use Rattle.switch_frame.specs.Program.{program_start}
use Rattle.mix_load.specs.declared.error.LoadError.{LoadError}
use Rattle.mix_bits.specs.Results.{◌>>=◌}
use Rattle.mix_load.specs.declared.files.Files.{Files}
use Rattle.mix_load.specs.declared.image.Image.{Image}
use Rattle.mix_load.specs.ForkImage.{too_large, with_fork}
use Rattle.mix_load.specs.LoadClauses.{AreLoadable}
use Rattle.mix_load.specs.Load.{flat_image, load_of, no_image, with_file, with_flat}
use Rattle.mix_load.specs.ContainerImage.{with_container}
use Rattle.mix_load.specs.Outcome.{unless}
use Rattle.mix_bits.specs.declared.file.File.TheVariants.{Flat, Pef, Rsrc}
use Rattle.mix_load.specs.declared.error.LoadError.TheVariants.{NoMemory, Empty, Rsrc as NoFork, NoCode, Far, JumpTable, Pef as NoHead, TooLarge, Reloc, Unresolved, NoMain}
use Rattle.mix_load.specs.Start.{program_of}
use Rattle.mix_gen.specs.Sample.{sample_files, sample_image}
use Rattle.mix_gen.proofs.Images.{length-sample}
use Rattle.mix_top.specs.Samples.{sample_program}

-- the room that the image has, in RAM of the least size and of each other
room : (len size : ℕ) → 131072 ≤ len → size ≡ 236 → too_large (len - len / 4) (program_start + size) ≡ None
room len size least is = grind (arith, nat_tests, least, is)

-- a flat file with a byte, for which there is room, is placed
placed : (bytes : List ℕ) (image : Image) → (length bytes == 0) ≡ false → too_large (floor_of image.ram) (program_start + length bytes) ≡ None
    → with_file Flat (with_flat M68) (Some bytes) image ≡ Ok (flat_image M68 bytes image)
placed bytes image some fits =
    ap (λ b. if b then Err (Empty Flat) else with_flat M68 bytes image) some ∙ ap (λ o. unless o (flat_image M68 bytes image)) fits

-- a program without a fork and a container
rest : Result Image LoadError → Result Program LoadError
rest r = r >>= (λ image. with_file Rsrc with_fork None image >>= (λ image. with_file Pef (with_container M68) None image >>= (λ image. Ok (program_of M68 image))))

floor-zeroed : (len : ℕ) → floor_of (zeroed len) ≡ len - len / 4
floor-zeroed len = ap (λ n. n - n / 4) (length-replicate len 0)

some-bytes : (size : ℕ) → size ≡ 236 → (size == 0) ≡ false
some-bytes size is = ap (λ n. n == 0) is

-- the sample image is a program, in RAM of each size
pub sample-loads : (kib n depth : ℕ) → 128 ≤ kib → sample_program kib n depth ≡ Ok (program_of M68 (flat_image M68 (sample_image n depth) (no_image (1024 * kib))))
unfolding sample_program rest
sample-loads kib n depth least =
    ap rest (placed (sample_image n depth) (no_image (1024 * kib)) (some-bytes (length (sample_image n depth)) (length-sample n depth))
    (ap (λ floor. too_large floor (program_start + length (sample_image n depth))) (floor-zeroed (1024 * kib))
    ∙ room (1024 * kib) (length (sample_image n depth)) (omega (arith, least)) (length-sample n depth)))

-- what was loaded of its files is that program
pub sample-loaded : (kib n depth : ℕ) (files : Files) (program : Program) → files ≡ sample_files n depth → load_of files M68 (1024 * kib) ≡ Ok program
    → sample_program kib n depth ≡ Ok program
unfolding sample_program
sample-loaded kib n depth files program is loads = subst (λ f. load_of f M68 (1024 * kib) ≡ Ok program) is loads

-- so nothing of it is refused
never-refused : (kib n depth : ℕ) (files : Files) (e : LoadError) → 128 ≤ kib → files ≡ sample_files n depth → load_of files M68 (1024 * kib) ≡ Err e → ⊥
unfolding sample_program
never-refused kib n depth files e least is refused =
    let loads = sample-loads kib n depth least in
    let same : load_of (sample_files n depth) M68 (1024 * kib) ≡ Err e = subst (λ f. load_of f M68 (1024 * kib) ≡ Err e) is refused in
    cc (loads, same)

-- a refusal that is no want of memory
abbrev IsOther : LoadError → Type 0
IsOther NoMemory = ⊥
IsOther error = Unit {0}

other : (e : LoadError) → IsOther e → e ≢ NoMemory
other e is same = subst IsOther same is

memory-alone : (e : LoadError) (r : Result Program LoadError) → (r ≡ Err e → ⊥) → (e ≢ NoMemory → r ≡ Err e) → e ≡ NoMemory
memory-alone NoMemory r never gives = refl
memory-alone (Empty file) r never gives = absurd (never (gives (other (Empty file) tt)))
memory-alone (NoFork e) r never gives = absurd (never (gives (other (NoFork e) tt)))
memory-alone (NoCode id) r never gives = absurd (never (gives (other (NoCode id) tt)))
memory-alone (Far id) r never gives = absurd (never (gives (other (Far id) tt)))
memory-alone (JumpTable at) r never gives = absurd (never (gives (other (JumpTable at) tt)))
memory-alone (NoHead e) r never gives = absurd (never (gives (other (NoHead e) tt)))
memory-alone (TooLarge end) r never gives = absurd (never (gives (other (TooLarge end) tt)))
memory-alone (Reloc e) r never gives = absurd (never (gives (other (Reloc e) tt)))
memory-alone (Unresolved n) r never gives = absurd (never (gives (other (Unresolved n) tt)))
memory-alone NoMain r never gives = absurd (never (gives (other NoMain tt)))

-- want of memory is all that the loader can answer
pub only-memory : (kib n depth : ℕ) (files : Files) (e : LoadError) → 128 ≤ kib → files ≡ sample_files n depth
    → (e ≢ NoMemory → load_of files M68 (1024 * kib) ≡ Err e) → e ≡ NoMemory
only-memory kib n depth files e least is gives = memory-alone e (load_of files M68 (1024 * kib)) (never-refused kib n depth files e least is) gives

-- a file of this size can be loaded
pub sample-loadable : (n depth : ℕ) (files : Files) → files ≡ sample_files n depth → AreLoadable files M68
sample-loadable n depth files is =
    let small : length (sample_image n depth) ≤ 2 ^ 24 = omega (arith, length-sample n depth) in
    subst (λ f. AreLoadable f M68) (sym is) (record { named = (refl, refl); flat = small; rsrc = tt; pef = tt })
