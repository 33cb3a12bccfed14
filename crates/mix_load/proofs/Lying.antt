-- The pieces of a loaded program lie in order.
use Rattle.std.proofs.Common.{◌≡◌, ℕ, ◌+◌, ◌*◌, ◌/◌, ◌%◌, ◌^◌, ◌<◌, ◌≤◌, ◌∙◌, Bool, true, false, not, ◌==◌, ◌&&◌, ◌||◌, nat_lt, nat_le, List, length, get_or, Option, Some, None, option_map, Result, Ok, Err, refl, sym, ap, subst, arith}
use Rattle.std.specs.Prelude.{IfSome, if◌then◌else◌}
use Rattle.std.proofs.lemmas.List.{length-replicate}
use Rattle.std.proofs.lemmas.Bool.Decides.{nat_tests}
use Rattle.mix_bits.specs.declared.isa.Isa.{Isa}
use Rattle.mix_bits.specs.Multiples.{rounded_up}
use Rattle.mix_bits.specs.Results.{◌>>=◌}
use Rattle.big_memory.specs.Memory.{floor_of}
use Rattle.pef_head.specs.declared.error.PefError.{PefError}
use Rattle.pef_head.specs.Container.{instantiated_count}
use Rattle.pef_head.specs.Refusals.{refusal_of}
use Rattle.mix_bits.specs.SearchOperator.{◌or◌}
use Rattle.mix_bits.specs.Search.{least, refused}
use Rattle.mix_bits.proofs.Searches.{fails_below}
use Rattle.rsrc_fork.specs.declared.error.RsrcError.{RsrcError}
use Rattle.rsrc_fork.specs.References.{resources_of}
use Rattle.rsrc_fork.specs.Resources.{Resource}
use Rattle.switch_frame.specs.declared.program.Program.{Program}
use Rattle.switch_frame.specs.Pieces.{puts}
use Rattle.switch_frame.specs.Program.{gate_longs, program_start}
use Rattle.mix_bits.specs.declared.file.File.{File}
use Rattle.mix_bits.specs.declared.file.File.TheVariants.{Flat, Rsrc, Pef}
use Rattle.mix_load.specs.declared.error.LoadError.{LoadError}
use Rattle.mix_load.specs.declared.error.LoadError.TheVariants.{Empty, JumpTable}
use Rattle.mix_load.specs.declared.files.Files.{Files}
use Rattle.mix_load.specs.declared.header.CodeHeader.{CodeHeader}
use Rattle.mix_load.specs.declared.image.Image.{Image}
use Rattle.mix_load.specs.ContainerImage.{container_image, container_refusal, with_container, with_head, with_sections}
use Rattle.mix_load.specs.ForkImage.{fork_end, fork_image, fork_memory, fork_refusal, too_large, with_codes, with_fork, with_resources}
use Rattle.mix_load.specs.inner.ForkImage.{segments_refusal, table_refusal}
use Rattle.mix_load.specs.laws.Laws.{ForkLies, Leads, PiecesLie, SectionsLie, SegmentsLie}
use Rattle.mix_load.specs.LoadClauses.{IsAlone}
use Rattle.mix_load.specs.Load.{flat_image, no_image, with_file, with_flat}
use Rattle.mix_load.specs.Outcome.{unless}
use Rattle.mix_load.specs.Sections.{section_base, sections_end}
use Rattle.mix_load.specs.inner.Sections.{relocated_bytes}
use Rattle.mix_load.specs.Segments.{code_at, entry_count, entry_place, has_table, header_of, id_count, is_bad_entry, is_unloaded, jump_target, offset_in, reaches, segment_at, segment_in, segment_pieces, segment_place, segments_end, segments_start, table_start, with_segment}
use Rattle.mix_load.specs.SegmentsClauses.{segment_places}
use Rattle.mix_load.specs.Start.{program_of}
use Rattle.mix_load.proofs.Ends.{end_within, section_above, section_within, sections_apart, start_within, ends_grow}
use Rattle.mix_load.proofs.Forks.{ids-are}
use Rattle.mix_load.proofs.Images.{segments-length, table-length}
use Rattle.mix_load.proofs.Jumping.{Alike, alike-then, entry-jumps, gate-over, pieces-alike, pieces-grow, same-long, stack-alike}
use Rattle.mix_load.proofs.Numbered.{numbered-at}

-- what a chain of parts gives, and what is not refused
bound : {A B E : Type 0} (x : Result A E) (f : A → Result B E) (y : B) → (x >>= f) ≡ Ok y → (v : A) × ((x ≡ Ok v) × (f v ≡ Ok y))
bound (Ok v) f y is = (v, (refl, is))
bound (Err e) f y is = absurd (cc)

unrefused : (reason : Option LoadError) (x y : Image) → unless reason x ≡ Ok y → (reason ≡ None) × (y ≡ x)
unrefused None x y is = (refl, let same : x ≡ y = cc in sym same)
unrefused (Some e) x y is = absurd (cc)

pub neither : (a b : Option LoadError) → (a or b) ≡ None → (a ≡ None) × (b ≡ None)
neither None b is = (refl, is)
neither (Some e) b is = absurd (cc)

pub not-here : {A : Type 0} (condition : Bool) (x : A) → refused condition x ≡ None → condition ≡ false
not-here true x is = absurd (cc)
not-here false x is = refl

pub unmapped : (f : ℕ → LoadError) (o : Option ℕ) → option_map f o ≡ None → o ≡ None
unmapped f None is = refl
unmapped f (Some i) is = absurd (cc)

-- parts of tests
pub last-of : (a b : Bool) → (a && b) ≡ true → b ≡ true
last-of true b is = is
last-of false b is = absurd (cc)

pub negated : (b : Bool) → not b ≡ false → b ≡ true
negated true is = refl
negated false is = absurd (cc)

at-least : (a b : ℕ) → nat_le a b ≡ true → a ≤ b
at-least a b is = grind (arith, nat_tests, is)

at-most : (a b : ℕ) → nat_lt a b ≡ false → b ≤ a
at-most a b is = grind (arith, nat_tests, is)

-- ends
up : (n : ℕ) → n ≤ rounded_up 16 n
up n = omega arith

entries-long : (n : ℕ) → 8 * (n / 8) ≤ n
entries-long n = omega arith

-- segments
if-none : (b : Bool) (o : Option (List ℕ)) (segment : List ℕ) → (if b then None else o) ≡ Some segment → b ≡ false
if-none true o segment is = absurd (cc)
if-none false o segment is = refl

numbered-id : (resources : List Resource) (id : ℕ) (segment : List ℕ) → segment_at resources id ≡ Some segment → id < id_count
numbered-id resources id segment is =
    let outside : ((id == 0) || nat_le 32768 id) ≡ false = if-none ((id == 0) || nat_le 32768 id) (code_at resources id) segment is in
    let few : id < 32768 = grind (arith, nat_tests, outside) in
    rw ids-are few

segment-end : (resources : List Resource) (start i : ℕ) (segment : List ℕ) → segment_at resources i ≡ Some segment → with_segment (segments_end resources start i) (segment_at resources i) ≡ segment_place resources start i + length segment
segment-end resources start i segment is = ap (with_segment (segments_end resources start i)) is

segments-lie : (resources : List Resource) (start : ℕ) → SegmentsLie resources start (segments_end resources start id_count)
segments-lie resources start = record {
  behind = λ id. let grown = ends_grow resources start 0 id (omega arith) in omega (arith, grown, up (segments_end resources start id));
  apart = λ i j segment before is.
      let ended = end_within resources start i j before in
      omega (arith, ended, segment-end resources start i segment is, up (segments_end resources start j));
  below = λ id segment is.
      let ended = end_within resources start id id_count (numbered-id resources id segment is) in
      omega (arith, ended, segment-end resources start id segment is);
}

-- an entry of the table
pub reached : (offset : ℕ) (found : Option (List ℕ)) → reaches offset found ≡ true → (segment : List ℕ) × ((found ≡ Some segment) × (4 + offset ≤ length segment))
reached offset None is = absurd (cc)
reached offset (Some segment) is = (segment, (refl, at-least (4 + offset) (length segment) is))

target-is : (resources : List Resource) (code0 : List ℕ) (start i : ℕ) → segment_in code0 i < id_count → segment_place resources start (segment_in code0 i) + 4 + offset_in code0 i < 2 ^ 32
    → jump_target (segment_places resources start id_count) code0 i ≡ segment_place resources start (segment_in code0 i) + 4 + offset_in code0 i
target-is resources code0 start i few fits =
    let place : get_or (segment_places resources start id_count) (segment_in code0 i) 0 ≡ segment_place resources start (segment_in code0 i) =
    numbered-at (segment_place resources start) id_count (segment_in code0 i) 0 few in
    ap (λ at. (at + 4 + offset_in code0 i) % 2 ^ 32) place ∙ omega (arith, fits)

leads : (resources : List Resource) (code0 : List ℕ) (start i : ℕ) → segments_end resources start id_count ≤ 2 ^ 24 → is_bad_entry resources code0 i ≡ false → Leads resources code0 start i
leads resources code0 start i small good =
    let tests : (is_unloaded code0 i && reaches (offset_in code0 i) (segment_at resources (segment_in code0 i))) ≡ true = negated _ good in
    let found = reached (offset_in code0 i) (segment_at resources (segment_in code0 i)) (last-of (is_unloaded code0 i) _ tests) in
    let few = numbered-id resources (segment_in code0 i) found.0 found.1.0 in
    let ended = (segments-lie resources start).below (segment_in code0 i) found.0 found.1.0 in
    let within : 4 + offset_in code0 i ≤ length found.0 = found.1.1 in
    let target = target-is resources code0 start i few (omega (arith, ended, small, within)) in
    record { segment = found.0; found = found.1.0; behind = omega (arith, target); within = omega (arith, target, within) }

-- a fork
table-within : (h : CodeHeader) (n : ℕ) → h.table_offset + h.table_len ≤ h.above → n ≡ 8 * (h.table_len / 8) → table_start h + n ≤ segments_start h
table-within h n within is = omega (arith, within, is, up h.above, entries-long h.table_len)

world-holds : (code0 : List ℕ) → has_table code0 ≡ true → (header_of code0).table_offset + (header_of code0).table_len ≤ (header_of code0).above
world-holds code0 has = at-least ((header_of code0).table_offset + (header_of code0).table_len) (header_of code0).above (last-of _ _ has)

-- a fork as it is placed, with room behind it
record IsForkPlaced (bytes : List ℕ) (image : Image) : Type 0 where
  lies : ForkLies bytes image.ram.bytes image.end
  high : 0x2000 ≤ image.end
  low : image.end + 4 ≤ length image.ram.bytes

fork-long : (resources : List Resource) (code0 : List ℕ) (image : Image) → segments_end resources (segments_start (header_of code0)) id_count ≤ length image.ram.bytes
    → table_start (header_of code0) + 8 * entry_count code0 ≤ length image.ram.bytes → length (fork_memory id_count resources code0 image.ram).bytes ≡ length image.ram.bytes
fork-long resources code0 image within table =
    let start : ℕ = segments_start (header_of code0) in
    let segments : List ℕ = puts (segment_pieces resources start id_count) image.ram.bytes in
    let long : length segments ≡ length image.ram.bytes = segments-length resources start id_count image.ram.bytes within in
    table-length (segment_places resources start id_count) (table_start (header_of code0)) code0 (entry_count code0) segments (omega (arith, long, table)) ∙ long

placed-fork : (bytes code0 : List ℕ) (resources : List Resource) (image next : Image) → resources_of bytes ≡ Ok resources → code_at resources 0 ≡ Some code0 → floor_of image.ram ≤ 2 ^ 24
    → unless (fork_refusal id_count (floor_of image.ram) resources code0) (fork_image id_count resources code0 image) ≡ Ok next → IsForkPlaced bytes next
placed-fork bytes code0 resources image next read first small is =
    let h : CodeHeader = header_of code0 in
    let done = unrefused (fork_refusal id_count (floor_of image.ram) resources code0) (fork_image id_count resources code0 image) next is in
    let parts = neither (segments_refusal id_count resources or table_refusal resources code0) (too_large (floor_of image.ram) (fork_end id_count resources h)) done.0 in
    let before = neither (segments_refusal id_count resources) (table_refusal resources code0) parts.0 in
    let table = neither (refused (not (has_table code0)) (JumpTable 0)) (option_map (λ i. JumpTable (entry_place i)) (least (is_bad_entry resources code0) (entry_count code0))) before.1 in
    let has : has_table code0 ≡ true = negated (has_table code0) (not-here (not (has_table code0)) (JumpTable 0) table.0) in
    let above : h.table_offset + h.table_len ≤ h.above = world-holds code0 has in
    let entries = unmapped (λ i. JumpTable (entry_place i)) (least (is_bad_entry resources code0) (entry_count code0)) table.1 in
    let room : rounded_up 16 (fork_end id_count resources h) ≤ floor_of image.ram = at-most (floor_of image.ram) (rounded_up 16 (fork_end id_count resources h)) (not-here _ _ parts.1) in
    let low : segments_end resources (segments_start h) id_count ≤ 2 ^ 24 = omega (arith, room, small, up (fork_end id_count resources h)) in
    let end : ℕ = fork_end id_count resources h in
    let start : ℕ = segments_start h in
    let table-low : table_start h + 8 * entry_count code0 ≤ start = table-within h (8 * entry_count code0) above refl in
    let grown : start ≤ end = ends_grow resources start 0 id_count (omega arith) in
    let origin : 0x10000 ≤ start = omega (arith, up h.below, up h.above) in
    let fits : end ≤ length image.ram.bytes = omega (arith, room, up end) in
    let segments : List ℕ = puts (segment_pieces resources start id_count) image.ram.bytes in
    let segments-long : length segments ≡ length image.ram.bytes = segments-length resources start id_count image.ram.bytes fits in
    let long : length (fork_memory id_count resources code0 image.ram).bytes ≡ length image.ram.bytes = fork-long resources code0 image fits (omega (arith, table-low, grown, fits)) in
    let placed : IsForkPlaced bytes (fork_image id_count resources code0 image) = record {
      high = omega (arith, origin, grown);
      low = omega (arith, long, room, up end, origin, grown);
      lies = record {
        resources = resources;
        code0 = code0;
        read = read;
        first = first;
        world = omega (arith, up h.below);
        table = table-low;
        segments = segments-lie resources start;
        room = grown;
        entries = λ i below. leads resources code0 start i low (fails_below (is_bad_entry resources code0) (entry_count code0) i entries below);
        jumps = λ i below. entry-jumps (segment_places resources start id_count) (table_start h) code0 (entry_count code0) i segments below (omega (arith, segments-long, table-low, grown, fits));
      };
    } in
    subst (IsForkPlaced bytes) (sym done.1) placed

from-codes : (bytes : List ℕ) (resources : List Resource) (found : Option (List ℕ)) (image next : Image) → resources_of bytes ≡ Ok resources → code_at resources 0 ≡ found → floor_of image.ram ≤ 2 ^ 24
    → with_codes id_count resources found image ≡ Ok next → IsForkPlaced bytes next
from-codes bytes resources None image next read first small is = absurd (cc)
from-codes bytes resources (Some code0) image next read first small is = placed-fork bytes code0 resources image next read first small is

from-resources : (bytes : List ℕ) (read : Result (List Resource) RsrcError) (image next : Image) → resources_of bytes ≡ read → floor_of image.ram ≤ 2 ^ 24
    → with_resources id_count read image ≡ Ok next → IsForkPlaced bytes next
from-resources bytes (Ok resources) image next read small is = from-codes bytes resources (code_at resources 0) image next read refl small is
from-resources bytes (Err e) image next read small is = absurd (cc)

fork-lies : (bytes : List ℕ) (image next : Image) → floor_of image.ram ≤ 2 ^ 24 → with_fork bytes image ≡ Ok next → IsForkPlaced bytes next
unfolding with_fork
fork-lies bytes image next small is = from-resources bytes (resources_of bytes) image next refl small is

-- a container
record IsPlacedBehind (bytes : List ℕ) (start end : ℕ) : Type 0 where
  grown : start ≤ end
  lies : SectionsLie bytes start end

from-head : (main : Isa) (bytes : List ℕ) (head : Option PefError) (image next : Image) → with_head head (with_sections main bytes image) ≡ Ok next → IsPlacedBehind bytes image.end next.end
from-head main bytes (Some e) image next is = absurd (cc)
from-head main bytes None image next is =
    let done = unrefused (container_refusal main (floor_of image.ram) bytes image.end) (container_image bytes image) next is in
    let end-is : next.end ≡ sections_end bytes image.end (instantiated_count bytes) = ap (λ (i : Image). i.end) done.1 in
    record {
      grown = omega (arith, end-is, start_within bytes image.end (instantiated_count bytes));
      lies = record {
        behind = section_above bytes image.end;
        apart = sections_apart bytes image.end;
        below = λ k few. omega (arith, end-is, section_within bytes image.end k (instantiated_count bytes) few);
      };
    }

container-lies : (main : Isa) (bytes : List ℕ) (image next : Image) → with_container main bytes image ≡ Ok next → IsPlacedBehind bytes image.end next.end
unfolding with_container
container-lies main bytes image next is = from-head main bytes (refusal_of bytes) image next is

over-head : (main : Isa) (bytes : List ℕ) (head : Option PefError) (image next : Image) → image.end ≤ length image.ram.bytes → with_head head (with_sections main bytes image) ≡ Ok next
    → Alike 0x2000 image.end next.ram.bytes image.ram.bytes × (length image.ram.bytes ≤ length next.ram.bytes)
over-head main bytes (Some e) image next fits is = absurd (cc)
over-head main bytes None image next fits is =
    let done = unrefused (container_refusal main (floor_of image.ram) bytes image.end) (container_image bytes image) next is in
    subst (λ (i : Image). Alike 0x2000 image.end i.ram.bytes image.ram.bytes × (length image.ram.bytes ≤ length i.ram.bytes)) (sym done.1) (
      pieces-alike (section_base bytes image.end) (relocated_bytes bytes image.end) (instantiated_count bytes) 0x2000 image.end image.ram.bytes (section_above bytes image.end) fits,
      pieces-grow (section_base bytes image.end) (relocated_bytes bytes image.end) (instantiated_count bytes) image.ram.bytes,
    )

container-over : (main : Isa) (bytes : List ℕ) (image next : Image) → image.end ≤ length image.ram.bytes → with_container main bytes image ≡ Ok next
    → Alike 0x2000 image.end next.ram.bytes image.ram.bytes × (length image.ram.bytes ≤ length next.ram.bytes)
unfolding with_container
container-over main bytes image next fits is = over-head main bytes (refusal_of bytes) image next fits is

-- a file that is given, and one that is not
given : (file : File) (add : List ℕ → Image → Result Image LoadError) (bytes : List ℕ) (empty : Bool) (image next : Image)
    → (if empty then Err (Empty file) else add bytes image) ≡ Ok next → add bytes image ≡ Ok next
given file add bytes true image next is = absurd (cc)
given file add bytes false image next is = is

-- each file's part
flat-placed : (files : Files) (main : Isa) (len : ℕ) (flat : Option (List ℕ)) (image : Image) → len ≤ 2 ^ 24 → IsAlone flat main files → with_file Flat (with_flat main) flat (no_image len) ≡ Ok image
    → IfSome flat (λ bytes. (files.rsrc ≡ None) × (program_start + length bytes ≡ image.end)) × ((flat ≡ None) → floor_of image.ram ≤ 2 ^ 24)
flat-placed files main len None image small alone is =
    let same : no_image len ≡ image = cc in
    (tt, λ none. subst (λ (i : Image). floor_of i.ram ≤ 2 ^ 24) same (let long : length (no_image len).ram.bytes ≡ len = length-replicate len 0 in omega (arith, long, small)))
flat-placed files main len (Some bytes) image small alone is =
    let done = unrefused (too_large (floor_of (no_image len).ram) (program_start + length bytes)) (flat_image main bytes (no_image len)) image (given Flat (with_flat main) bytes (length bytes == 0) (no_image len) image is) in
    ((alone.0, ap (λ (i : Image). i.end) (sym done.1)), λ none. absurd (cc))

fork-placed : (rsrc : Option (List ℕ)) (image next : Image) → IfSome rsrc (λ bytes. floor_of image.ram ≤ 2 ^ 24) → with_file Rsrc with_fork rsrc image ≡ Ok next
    → IfSome rsrc (λ bytes. IsForkPlaced bytes next) × ((rsrc ≡ None) → next ≡ image)
fork-placed None image next small is = (tt, λ none. let same : image ≡ next = cc in sym same)
fork-placed (Some bytes) image next small is = (fork-lies bytes image next small (given Rsrc with_fork bytes (length bytes == 0) image next is), λ none. absurd (cc))

container-placed : (main : Isa) (pef : Option (List ℕ)) (image next : Image) → with_file Pef (with_container main) pef image ≡ Ok next
    → IfSome pef (λ bytes. SectionsLie bytes image.end (rounded_up 16 next.end)) × (image.end ≤ next.end)
container-placed main None image next is = (tt, let same : image ≡ next = cc in subst (λ (i : Image). image.end ≤ i.end) same (omega arith))
container-placed main (Some bytes) image next is =
    let placed = container-lies main bytes image next (given Pef (with_container main) bytes (length bytes == 0) image next is) in
    (record { behind = placed.lies.behind; apart = placed.lies.apart; below = λ k few. omega (arith, placed.lies.below k few, up next.end) }, placed.grown)

-- a fork stands alone in memory, where it is given
low-by : (flat rsrc : Option (List ℕ)) (image : Image) → IfSome flat (λ bytes. (rsrc ≡ None) × (program_start + length bytes ≡ image.end)) → ((flat ≡ None) → floor_of image.ram ≤ 2 ^ 24)
    → IfSome rsrc (λ bytes. floor_of image.ram ≤ 2 ^ 24)
low-by None None image alone low = tt
low-by None (Some bytes) image alone low = low refl
low-by (Some flat) None image alone low = tt
low-by (Some flat) (Some bytes) image alone low = absurd (let never = alone.0 in cc)

flat-by : (flat rsrc : Option (List ℕ)) (image next : Image) → IfSome flat (λ bytes. (rsrc ≡ None) × (program_start + length bytes ≡ image.end)) → ((rsrc ≡ None) → next ≡ image)
    → IfSome flat (λ bytes. program_start + length bytes ≤ next.end)
flat-by None rsrc image next alone same = tt
flat-by (Some bytes) rsrc image next alone same =
    let is : next.end ≡ image.end = ap (λ (i : Image). i.end) (same alone.0) in
    omega (arith, is, alone.1)

-- what is put after a fork leaves it
container-alike : (main : Isa) (pef : Option (List ℕ)) (image next : Image) → image.end ≤ length image.ram.bytes → with_file Pef (with_container main) pef image ≡ Ok next
    → Alike 0x2000 image.end next.ram.bytes image.ram.bytes × (length image.ram.bytes ≤ length next.ram.bytes)
container-alike main None image next fits is =
    let same : image ≡ next = cc in
    subst (λ (i : Image). Alike 0x2000 image.end i.ram.bytes image.ram.bytes × (length image.ram.bytes ≤ length i.ram.bytes)) same (λ k above below. refl, omega arith)
container-alike main (Some bytes) image next fits is = container-over main bytes image next fits (given Pef (with_container main) bytes (length bytes == 0) image next is)

program-alike : (main : Isa) (image : Image) (high : ℕ) → 0x2000 ≤ high → high + 4 ≤ length image.ram.bytes → Alike 0x2000 high (program_of main image).ram.bytes image.ram.bytes
program-alike main image high above below =
    let gate = gate-over image.entry image.vector image.a5 (length image.ram.bytes) high image.ram.bytes (omega arith) in
    let gated : List ℕ = puts (gate_longs image.entry image.vector image.a5 (length image.ram.bytes)) image.ram.bytes in
    alike-then 0x2000 high (program_of main image).ram.bytes gated image.ram.bytes (stack-alike main (length image.ram.bytes) 0x2000 high gated (omega arith) (omega (arith, gate.long))) gate.alike

still-lies : (bytes memory old : List ℕ) (end : ℕ) → Alike 0x2000 end memory old → ForkLies bytes old end → ForkLies bytes memory end
still-lies bytes memory old end alike lies = record {
  resources = lies.resources;
  code0 = lies.code0;
  read = lies.read;
  first = lies.first;
  world = lies.world;
  table = lies.table;
  segments = lies.segments;
  room = lies.room;
  entries = lies.entries;
  jumps = λ i below.
      let low = lies.table in
      let high = lies.room in
      same-long (table_start (header_of lies.code0) + 8 * i + 4) 0x2000 end memory old (omega arith) (omega (arith, low, high, below)) alike ∙ lies.jumps i below;
}

fork-stays : (main : Isa) (rsrc pef : Option (List ℕ)) (image next : Image) → IfSome rsrc (λ bytes. IsForkPlaced bytes image) → with_file Pef (with_container main) pef image ≡ Ok next
    → IfSome rsrc (λ bytes. ForkLies bytes (program_of main next).ram.bytes image.end)
fork-stays main None pef image next placed is = tt
fork-stays main (Some bytes) pef image next placed is =
    let low : image.end + 4 ≤ length image.ram.bytes = placed.low in
    let behind = container-alike main pef image next (omega arith) is in
    still-lies bytes (program_of main next).ram.bytes image.ram.bytes image.end
    (alike-then 0x2000 image.end (program_of main next).ram.bytes next.ram.bytes image.ram.bytes (program-alike main next image.end placed.high (omega (arith, low, behind.1))) behind.0) placed.lies

abbrev after_container : Isa → Image → Result Program LoadError
after_container main image = Ok (program_of main image)

abbrev after_fork : Files → Isa → Image → Result Program LoadError
after_fork files main image = with_file Pef (with_container main) files.pef image >>= after_container main

abbrev after_flat : Files → Isa → Image → Result Program LoadError
after_flat files main image = with_file Rsrc with_fork files.rsrc image >>= after_fork files main

pub pieces_lie : PiecesLie
pieces_lie files main len p loadable small is =
    let one = bound (with_file Flat (with_flat main) files.flat (no_image len)) (after_flat files main) p is in
    let two = bound (with_file Rsrc with_fork files.rsrc one.0) (after_fork files main) p one.1.1 in
    let three = bound (with_file Pef (with_container main) files.pef two.0) (after_container main) p two.1.1 in
    let flat = flat-placed files main len files.flat one.0 small loadable.named one.1.0 in
    let fork = fork-placed files.rsrc one.0 two.0 (low-by files.flat files.rsrc one.0 flat.0 flat.1) two.1.0 in
    let container = container-placed main files.pef two.0 three.0 three.1.0 in
    let program-is : program_of main three.0 ≡ p = cc (three.1.1) in
    let three-end : ℕ = three.0.end in
    let heap : p.heap_lo ≡ rounded_up 16 three-end = ap (λ (q : Program). q.heap_lo) (sym program-is) in
    record {
      middle = two.0.end;
      flat = flat-by files.flat files.rsrc one.0 two.0 flat.0 fork.1;
      fork = subst (λ (q : Program). IfSome files.rsrc (λ bytes. ForkLies bytes q.ram.bytes two.0.end)) program-is (fork-stays main files.rsrc files.pef two.0 three.0 fork.0 three.1.0);
      container = subst (λ low. IfSome files.pef (λ bytes. SectionsLie bytes two.0.end low)) (sym heap) container.0;
      heap = omega (arith, heap, container.1, up three-end);
    }
