-- A container that is placed, refused by the first rule that it breaks.
use Rattle.std.proofs.Common.{◌≡◌, subst, sym, ap, ◌∙◌, ℕ, List, Option, Some, None, Result, Err, unwrap_or}
use Rattle.big_memory.specs.Memory.{Memory, floor_of}
use Rattle.mix_bits.specs.declared.isa.Isa.{Isa}
use Rattle.pef_head.specs.Container.{instantiated_count}
use Rattle.pef_head.specs.declared.error.PefError.{PefError}
use Rattle.pef_head.specs.Refusals.{refusal_of}
use Rattle.mix_load.specs.declared.error.LoadError.TheVariants.{Pef}
use Rattle.mix_bits.specs.SearchOperator.{◌or◌}
use Rattle.mix_load.specs.declared.error.LoadError.{LoadError}
use Rattle.mix_load.specs.declared.image.Image.{Image}
use Rattle.mix_load.specs.Pieces.{with_pieces}
use Rattle.mix_load.specs.OutcomeClauses.{Gives}
use Rattle.mix_load.specs.Outcome.{unless}
use Rattle.mix_load.specs.ContainerImage.{container_image, with_container, with_head, with_sections}
use Rattle.mix_load.specs.inner.Container.{imports_refusal, main_refusal, patterns_of, relocations_refusal}
use Rattle.mix_load.specs.ForkImage.{too_large}
use Rattle.mix_load.specs.Sections.{main_vector, sections_end}
use Rattle.mix_load.specs.inner.Sections.{relocated_pieces}

abbrev unpacking : List ℕ → ℕ → Option LoadError
unpacking bytes start = patterns_of bytes or imports_refusal bytes or relocations_refusal bytes start

abbrev placing : Isa → List ℕ → Image → Option LoadError → Option LoadError → Result Image LoadError
placing main bytes image first second = unless (first or second or main_refusal main bytes image.end) (container_image bytes image)

end-refusal : (floor end : ℕ) (bytes : List ℕ) (image : Image) (r : Option LoadError) → floor ≡ floor_of image.ram → end ≡ sections_end bytes image.end (instantiated_count bytes) → r ≡ too_large floor end
    → too_large (floor_of image.ram) (sections_end bytes image.end (instantiated_count bytes)) ≡ r
end-refusal floor end bytes image r floor_is end_is is =
    ap (λ (f : ℕ). too_large f (sections_end bytes image.end (instantiated_count bytes))) (sym floor_is) ∙ (ap (too_large floor) (sym end_is) ∙ sym is)

-- it ends too high
pub sections-large : (main : Isa) (bytes : List ℕ) (image : Image) (floor end : ℕ) (e : LoadError) → floor ≡ floor_of image.ram → end ≡ sections_end bytes image.end (instantiated_count bytes) → Some e ≡ too_large floor end
    → with_sections main bytes image ≡ Err e
sections-large main bytes image floor end e floor_is end_is refusal =
    ap (λ (r : Option LoadError). placing main bytes image r (unpacking bytes image.end)) (end-refusal floor end bytes image (Some e) floor_is end_is refusal)

-- a section or an import is refused
pub sections-fail : (main : Isa) (bytes : List ℕ) (image : Image) (floor end : ℕ) (e : LoadError) → floor ≡ floor_of image.ram → end ≡ sections_end bytes image.end (instantiated_count bytes) → None ≡ too_large floor end
    → unpacking bytes image.end ≡ Some e → with_sections main bytes image ≡ Err e
sections-fail main bytes image floor end e floor_is end_is passes refusal =
    ap (λ (r : Option LoadError). placing main bytes image r (unpacking bytes image.end)) (end-refusal floor end bytes image None floor_is end_is passes)
    ∙ ap (placing main bytes image None) refusal

-- all sections are placed: what is left is the main vector
pub sections-placed : (main : Isa) (bytes : List ℕ) (image : Image) (floor end : ℕ) → floor ≡ floor_of image.ram → end ≡ sections_end bytes image.end (instantiated_count bytes) → None ≡ too_large floor end
    → unpacking bytes image.end ≡ None → with_sections main bytes image ≡ unless (main_refusal main bytes image.end) (container_image bytes image)
sections-placed main bytes image floor end floor_is end_is passes refusal =
    ap (λ (r : Option LoadError). placing main bytes image r (unpacking bytes image.end)) (end-refusal floor end bytes image None floor_is end_is passes)
    ∙ ap (placing main bytes image None) refusal

abbrev with_parts : Image → Memory → ℕ → ℕ → Image
with_parts image ram end vector = record image { ram = ram; end = end; vector = vector }

pub container-image-is : (bytes : List ℕ) (image : Image) (ram : Memory) (end vector : ℕ) → ram ≡ with_pieces (relocated_pieces bytes image.end (instantiated_count bytes)) image.ram
    → end ≡ sections_end bytes image.end (instantiated_count bytes) → vector ≡ unwrap_or (main_vector bytes image.end) 0
    → record { ram = ram; end = end; entry = image.entry; vector = vector; a5 = image.a5 } ≡ container_image bytes image
container-image-is bytes image ram end vector ram_is end_is vector_is =
    ap (λ (m : Memory). with_parts image m end vector) ram_is
    ∙ (ap (λ (e : ℕ). with_parts image (with_pieces (relocated_pieces bytes image.end (instantiated_count bytes)) image.ram) e vector) end_is
    ∙ ap (with_parts image (with_pieces (relocated_pieces bytes image.end (instantiated_count bytes)) image.ram) (sections_end bytes image.end (instantiated_count bytes))) vector_is)

-- a container's head, read or refused
pub container-gives : (main : Isa) (bytes pef : List ℕ) (image : Image) (result : Result Image LoadError) → None ≡ refusal_of bytes → pef ≡ bytes → Gives result (with_sections main pef image) → Gives result (with_container main bytes image)
unfolding with_container
container-gives main bytes pef image result passes same gives =
    subst (λ (r : Option PefError). Gives result (with_head r (with_sections main bytes image))) passes
    (subst (λ (b : List ℕ). Gives result (with_sections main b image)) same gives)

pub container-refuses : (main : Isa) (bytes : List ℕ) (image : Image) (e : PefError) → Some e ≡ refusal_of bytes → with_container main bytes image ≡ Err (Pef e)
unfolding with_container
container-refuses main bytes image e refusal = ap (λ (r : Option PefError). with_head r (with_sections main bytes image)) (sym refusal)
