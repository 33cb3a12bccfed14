-- Where the pieces of a loaded program lie.
use Rattle.std.specs.Prelude.{◌≡◌, ℕ, ◌+◌, ◌*◌, ◌<◌, ◌≤◌, ◌^◌, List, length, Ok, Some, IfSome}
use Rattle.mix_bits.specs.declared.isa.Isa.{Isa}
use Rattle.big_memory.specs.Numbers.{long_at}
use Rattle.pef_head.specs.Container.{instantiated_count}
use Rattle.rsrc_fork.specs.References.{resources_of}
use Rattle.rsrc_fork.specs.Resources.{Resource}
use Rattle.switch_frame.specs.declared.program.Program.{Program}
use Rattle.switch_frame.specs.Program.{program_start}
use Rattle.mix_load.specs.declared.files.Files.{Files}
use Rattle.mix_load.specs.LoadClauses.{AreLoadable}
use Rattle.mix_load.specs.Load.{load_of}
use Rattle.mix_load.specs.Sections.{section_base}
use Rattle.mix_load.specs.laws.Sections.{total_at}
use Rattle.mix_load.specs.Segments.{a5_of, code_at, entry_count, header_of, id_count, jump_target, segment_at, segment_in, segment_place, segments_start, table_start}
use Rattle.mix_load.specs.SegmentsClauses.{segment_places}

-- the segments of a fork lie behind `start` and below `end`, each behind those with a lower id
pub record SegmentsLie (resources : List Resource) (start end : ℕ) : Type 0 where
  pub behind : (id : ℕ) → start ≤ segment_place resources start id
  pub apart : (i j : ℕ) (segment : List ℕ) → i < j → segment_at resources i ≡ Some segment → segment_place resources start i + length segment ≤ segment_place resources start j
  pub below : (id : ℕ) (segment : List ℕ) → segment_at resources id ≡ Some segment → segment_place resources start id + length segment ≤ end

-- an entry of the jump table leads into its segment, behind its header of four bytes, and at most to its end
pub record Leads (resources : List Resource) (code0 : List ℕ) (start i : ℕ) : Type 0 where
  pub segment : List ℕ
  pub found : segment_at resources (segment_in code0 i) ≡ Some segment
  pub behind : segment_place resources start (segment_in code0 i) + 4 ≤ jump_target (segment_places resources start id_count) code0 i
  pub within : jump_target (segment_places resources start id_count) code0 i ≤ segment_place resources start (segment_in code0 i) + length segment

-- a fork lies in order below `end`: the world below A5, the jump table above it, and the segments; and in memory each
-- entry of the table has where it leads
pub record ForkLies (bytes memory : List ℕ) (end : ℕ) : Type 0 where
  pub resources : List Resource
  pub code0 : List ℕ
  pub read : resources_of bytes ≡ Ok resources
  pub first : code_at resources 0 ≡ Some code0
  pub world : program_start + (header_of code0).below ≤ a5_of (header_of code0)
  pub table : table_start (header_of code0) + 8 * entry_count code0 ≤ segments_start (header_of code0)
  pub segments : SegmentsLie resources (segments_start (header_of code0)) end
  pub room : segments_start (header_of code0) ≤ end
  pub entries : (i : ℕ) → i < entry_count code0 → Leads resources code0 (segments_start (header_of code0)) i
  pub jumps : (i : ℕ) → i < entry_count code0
      → long_at (table_start (header_of code0) + 8 * i + 4) memory ≡ jump_target (segment_places resources (segments_start (header_of code0)) id_count) code0 i

-- the sections of a container lie behind `start` and below `end`, each behind those before it
pub record SectionsLie (bytes : List ℕ) (start end : ℕ) : Type 0 where
  pub behind : (k : ℕ) → start ≤ section_base bytes start k
  pub apart : (j k : ℕ) → j < k → section_base bytes start j + total_at bytes j ≤ section_base bytes start k
  pub below : (k : ℕ) → k < instantiated_count bytes → section_base bytes start k + total_at bytes k ≤ end

-- what the files hold lies in order: a flat file or a fork from the program's start up to `middle`, a container from
-- there on, and the heap behind all of them
pub record LieInOrder (files : Files) (p : Program) : Type 0 where
  pub middle : ℕ
  pub flat : IfSome files.flat (λ bytes. program_start + length bytes ≤ middle)
  pub fork : IfSome files.rsrc (λ bytes. ForkLies bytes p.ram.bytes middle)
  pub container : IfSome files.pef (λ bytes. SectionsLie bytes middle p.heap_lo)
  pub heap : middle ≤ p.heap_lo

-- so they lie in every program that is loaded
abbrev pub PiecesLie : Type 0
PiecesLie = (files : Files) (main : Isa) (len : ℕ) (p : Program) → AreLoadable files main → len ≤ 2 ^ 24 → load_of files main len ≡ Ok p → LieInOrder files p
