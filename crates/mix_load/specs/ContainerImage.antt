-- A container as a program in memory, or why it is refused.
use Rattle.std.specs.Prelude.{ℕ, Bool, true, false, List, Option, Some, None, unwrap_or, Result, Err, ◌&&◌, is_none, option_map}
use Rattle.mix_bits.specs.declared.isa.Isa.{Isa}
use Rattle.mix_bits.specs.declared.isa.Isa.TheVariants.{M68, Ppc}
use Rattle.big_memory.specs.Memory.{floor_of}
use Rattle.pef_head.specs.declared.error.PefError.{PefError}
use Rattle.pef_head.specs.Container.{instantiated_count}
use Rattle.pef_head.specs.Refusals.{refusal_of}
use Rattle.mix_bits.specs.SearchOperator.{◌or◌}
use Rattle.mix_load.specs.declared.error.LoadError.{LoadError}
use Rattle.mix_load.specs.declared.error.LoadError.TheVariants.{Pef, Reloc, Unresolved, NoMain}
use Rattle.mix_load.specs.declared.image.Image.{Image}
use Rattle.mix_load.specs.Pieces.{with_pieces, numbered_pieces}
use Rattle.mix_load.specs.Outcome.{unless}
use Rattle.mix_load.specs.ForkImage.{too_large}
use Rattle.mix_load.specs.Sections.{sections_end, main_vector, section_base, pattern_refusal, import_address, first_refusal, relocated_section}
use Rattle.pef_head.specs.Parts.{section_at, import_count, import_of}
use Rattle.mix_bits.specs.Search.{refused, least}

abbrev pub is_ppc : Isa → Bool
is_ppc M68 = false
is_ppc Ppc = true

-- the first rule that a container's sections break, which are placed behind `start`
abbrev pub container_refusal : Isa → ℕ → List ℕ → ℕ → Option LoadError
container_refusal main floor bytes start =
    too_large floor (sections_end bytes start (instantiated_count bytes))
    or (option_map (λ e. Reloc e) (first_refusal (λ k. pattern_refusal (section_at bytes k)) (instantiated_count bytes))
    or option_map (λ i. Unresolved i) (least (λ i. is_none (import_address (import_of bytes i))) (import_count bytes))
    or option_map (λ e. Reloc e) (first_refusal (λ k. (relocated_section bytes start k).refusal) (instantiated_count bytes)))
    or refused (is_ppc main && is_none (main_vector bytes start)) NoMain

abbrev pub container_image : List ℕ → Image → Image
container_image bytes image =
    let held : ℕ → List ℕ = λ k. (relocated_section bytes image.end k).section in
    record image {
      ram = with_pieces (numbered_pieces (section_base bytes image.end) held (instantiated_count bytes)) image.ram;
      end = sections_end bytes image.end (instantiated_count bytes);
      vector = unwrap_or (main_vector bytes image.end) 0;
    }

abbrev pub with_sections : Isa → List ℕ → Image → Result Image LoadError
with_sections main bytes image =
    unless (container_refusal main (floor_of image.ram) bytes image.end) (container_image bytes image)

-- what follows a head that is read
abbrev pub with_head : Option PefError → Result Image LoadError → Result Image LoadError
with_head None placed = placed
with_head (Some e) placed = Err (Pef e)

-- what a container's file adds to what is loaded
unfoldable pub with_container : Isa → List ℕ → Image → Result Image LoadError
with_container main bytes image = with_head (refusal_of bytes) (with_sections main bytes image)
