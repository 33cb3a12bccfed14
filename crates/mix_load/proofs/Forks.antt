-- A fork's segments and jump table, put one after the other.
use Rattle.std.proofs.Common.{◌≡◌, ◌≢◌, refl, subst, sym, ap, ◌∙◌, ℕ, List, Option, Some, None, Result, Ok, Err}
use Rattle.big_memory.specs.Memory.{Memory, floor_of}
use Rattle.rsrc_fork.specs.declared.error.RsrcError.{RsrcError}
use Rattle.rsrc_fork.specs.declared.error.RsrcError.TheVariants.{NoMemory as NoForkMemory}
use Rattle.rsrc_fork.specs.References.{resources_of}
use Rattle.rsrc_fork.specs.Resources.{Resource}
use Rattle.mix_load.specs.declared.error.LoadError.TheVariants.{NoMemory, Rsrc}
use Rattle.mix_load.specs.declared.error.LoadError.{LoadError}
use Rattle.mix_load.specs.declared.image.Image.{Image}
use Rattle.mix_load.specs.Pieces.{with_pieces}
use Rattle.mix_load.specs.OutcomeClauses.{Gives}
use Rattle.mix_load.specs.Outcome.{unless}
use Rattle.mix_load.specs.Segments.{a5_of, entry_count, header_of, id_count, segment_pieces, segments_start, table_pieces, table_start}
use Rattle.mix_load.specs.SegmentsClauses.{entry_of, segment_places}
use Rattle.mix_load.specs.inner.ForkImage.{HasRoom}
use Rattle.mix_load.specs.ForkImage.{fork_end, fork_image, fork_memory, fork_refusal, with_codes, with_fork, with_resources}
use Rattle.mix_load.specs.inner.Loaded.{IsImage}
use Rattle.mix_load.proofs.Wholes.{fork_whole}

pub codes-memory : (ids : ℕ) (resources : List Resource) (code0 : List ℕ) (start : ℕ) (places : List ℕ) (new held old : Memory) → start ≡ segments_start (header_of code0)
    → places ≡ segment_places resources start ids → held ≡ with_pieces (segment_pieces resources start ids) old
    → new ≡ with_pieces (table_pieces places (table_start (header_of code0)) code0 (entry_count code0)) held → new ≡ fork_memory ids resources code0 old
codes-memory ids resources code0 start places new held old start_is places_is held_is new_is =
    new_is
    ∙ (ap (with_pieces (table_pieces places (table_start (header_of code0)) code0 (entry_count code0))) held_is
    ∙ (ap (λ (ps : List ℕ). with_pieces (table_pieces ps (table_start (header_of code0)) code0 (entry_count code0)) (with_pieces (segment_pieces resources start ids) old)) places_is
    ∙ ap (λ (s : ℕ). with_pieces (table_pieces (segment_places resources s ids) (table_start (header_of code0)) code0 (entry_count code0)) (with_pieces (segment_pieces resources s ids) old)) start_is))

abbrev with_parts : Image → Memory → ℕ → ℕ → ℕ → Image
with_parts image ram end entry a5 = record image { ram = ram; end = end; entry = entry; a5 = a5 }

pub fork-image-is : (ids : ℕ) (resources : List Resource) (code0 : List ℕ) (image : Image) (ram : Memory) (end entry a5 : ℕ) → ram ≡ fork_memory ids resources code0 image.ram → end ≡ fork_end ids resources (header_of code0)
    → entry ≡ entry_of (header_of code0) → a5 ≡ a5_of (header_of code0) → record { ram = ram; end = end; entry = entry; vector = image.vector; a5 = a5 } ≡ fork_image ids resources code0 image
fork-image-is ids resources code0 image ram end entry a5 ram_is end_is entry_is a5_is =
    ap (λ (m : Memory). with_parts image m end entry a5) ram_is
    ∙ (ap (λ (e : ℕ). with_parts image (fork_memory ids resources code0 image.ram) e entry a5) end_is
    ∙ (ap (λ (e : ℕ). with_parts image (fork_memory ids resources code0 image.ram) (fork_end ids resources (header_of code0)) e a5) entry_is
    ∙ ap (with_parts image (fork_memory ids resources code0 image.ram) (fork_end ids resources (header_of code0)) (entry_of (header_of code0))) a5_is))

pub codes-fail : (ids floor : ℕ) (resources : List Resource) (code0 : List ℕ) (image : Image) (e : LoadError) → floor ≡ floor_of image.ram → Some e ≡ fork_refusal ids floor resources code0
    → with_codes ids resources (Some code0) image ≡ Err e
codes-fail ids floor resources code0 image e floor_is refusal =
    ap (λ (r : Option LoadError). unless r (fork_image ids resources code0 image)) (ap (λ (f : ℕ). fork_refusal ids f resources code0) (sym floor_is) ∙ sym refusal)

pub codes-load : (ids floor : ℕ) (resources : List Resource) (code0 : List ℕ) (image new : Image) → floor ≡ floor_of image.ram → None ≡ fork_refusal ids floor resources code0
    → new ≡ fork_image ids resources code0 image → with_codes ids resources (Some code0) image ≡ Ok new
codes-load ids floor resources code0 image new floor_is passes new_is =
    ap (λ (r : Option LoadError). unless r (fork_image ids resources code0 image)) (ap (λ (f : ℕ). fork_refusal ids f resources code0) (sym floor_is) ∙ sym passes)
    ∙ ap Ok (sym new_is)

pub codes-whole : (ids floor : ℕ) (resources : List Resource) (code0 : List ℕ) (image new : Image) → floor ≡ floor_of image.ram → HasRoom ids floor resources code0 → IsImage image
    → new ≡ fork_image ids resources code0 image → IsImage new
codes-whole ids floor resources code0 image new floor_is room whole new_is =
    subst IsImage (sym new_is) (fork_whole ids resources code0 image (subst (λ (f : ℕ). HasRoom ids f resources code0) floor_is room) whole)

pub ids-are : id_count ≡ 32768
unfolding id_count
ids-are = refl

pub fork-gives : (ids : ℕ) (bytes : List ℕ) (image : Image) (result : Result Image LoadError) (resources : List Resource) → id_count ≡ ids → resources_of bytes ≡ Ok resources
    → Gives result (with_resources ids (Ok resources) image) → Gives result (with_fork bytes image)
unfolding with_fork
fork-gives ids bytes image result resources ids_are read gives =
    subst (λ (n : ℕ). Gives result (with_resources n (resources_of bytes) image)) (sym ids_are)
    (subst (λ (r : Result (List Resource) RsrcError). Gives result (with_resources ids r image)) (sym read) gives)

pub fork-refuses : (bytes : List ℕ) (image : Image) (e : RsrcError) (r : LoadError) → (e ≡ NoForkMemory → r ≡ NoMemory) → (e ≢ NoForkMemory → r ≡ Rsrc e)
    → (e ≢ NoForkMemory → resources_of bytes ≡ Err e) → r ≢ NoMemory → with_fork bytes image ≡ Err r
unfolding with_fork
fork-refuses bytes image e r memory other read real =
    let plain : e ≢ NoForkMemory = λ q. real (memory q) in
    ap (λ (x : Result (List Resource) RsrcError). with_resources id_count x image) (read plain) ∙ ap Err (sym (other plain))
