-- What holds of each section and each import of a container that is read.
use Rattle.std.specs.Prelude.{◌≡◌, ◌%◌, ◌≤◌, ◌⊎◌, false, length}
use Rattle.mix_bits.specs.declared.file.TheConstants.{MOST_BYTES}
use Rattle.pef_head.specs.declared.section.Section.{Section}
use Rattle.pef_head.specs.declared.import.Import.{Import}
use Rattle.pef_head.specs.Container.{is_pattern}
use Rattle.pef_head.specs.ContainerClauses.{is_uninstantiable}
use Rattle.pef_head.specs.Parts.{SectionParts, ImportParts}

abbrev pub parts : Section → SectionParts
parts s = record { kind = s.kind; total = s.total; unpacked = s.unpacked; align = s.align; bytes = s.bytes.now }

-- what holds of each instantiated section: its unpacked bytes fit its total size, and are the bytes of the file unless it
-- is pattern data; and of its alignment and 16 one divides the other
pub record IsLoadable (s : SectionParts) : Type 0 where
  pub kind : is_uninstantiable s.kind ≡ false
  pub kept : s.unpacked ≤ s.total
  pub aligned : s.align ≤ 4096
  pub positive : 1 ≤ s.align
  pub divides : (s.align % 16 ≡ 0) ⊎ (16 % s.align ≡ 0)
  pub whole : is_pattern s.kind ≡ false → length s.bytes ≡ s.unpacked
  pub small : length s.bytes ≤ MOST_BYTES

abbrev pub names : Import → ImportParts
names i = record { library = i.library.now; name = i.name.now; weak = i.weak }
