-- The refusals of the sections of a container, one kind at a time.
use Rattle.std.specs.Prelude.{ℕ, ◌&&◌, List, Option, is_none, option_map}
use Rattle.mix_bits.specs.declared.isa.Isa.{Isa}
use Rattle.pef_head.specs.Container.{instantiated_count}
use Rattle.pef_head.specs.Parts.{import_count}
use Rattle.mix_bits.specs.Search.{refused, least}
use Rattle.mix_load.specs.declared.error.LoadError.{LoadError}
use Rattle.mix_load.specs.declared.error.LoadError.TheVariants.{Reloc, Unresolved, NoMain}
use Rattle.mix_load.specs.Sections.{first_refusal, main_vector}
use Rattle.mix_load.specs.inner.Sections.{is_missing, relocs_refusal}
use Rattle.mix_load.specs.SectionsClauses.{patterns_refusal}
use Rattle.mix_load.specs.ContainerImage.{is_ppc}

-- the refusals of pattern data, of imports and of relocations
abbrev pub patterns_of : List ℕ → Option LoadError
patterns_of bytes = option_map (λ e. Reloc e) (first_refusal (patterns_refusal bytes) (instantiated_count bytes))

abbrev pub imports_refusal : List ℕ → Option LoadError
imports_refusal bytes = option_map (λ i. Unresolved i) (least (is_missing bytes) (import_count bytes))

abbrev pub relocations_refusal : List ℕ → ℕ → Option LoadError
relocations_refusal bytes start =
    option_map (λ e. Reloc e) (first_refusal (relocs_refusal bytes start) (instantiated_count bytes))

-- a PowerPC program needs its main vector
abbrev pub main_refusal : Isa → List ℕ → ℕ → Option LoadError
main_refusal main bytes start = refused (is_ppc main && is_none (main_vector bytes start)) NoMain
