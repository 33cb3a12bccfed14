-- Ids behind that of the last CODE add nothing to a fork's image.
use Rattle.std.proofs.Common.{◌≡◌, ℕ, zero, suc, ◌+◌, ◌*◌, ◌%◌, ◌^◌, ◌<◌, ◌≤◌, ◌∙◌, pos, Bool, true, false, not, ◌==◌, ◌&&◌, ◌||◌, nat_lt, nat_le, List, ◌∷◌, get_or, Option, Some, None, is_some, option_map, Result, Ok, refl, sym, ap, subst, arith}
use Rattle.std.specs.Prelude.{if◌then◌else◌}
use Rattle.std.specs.Option.{option_map_or}
use Rattle.std.proofs.lemmas.Bool.Decides.{nat_tests}
use Rattle.mix_bits.specs.SearchOperator.{◌or◌}
use Rattle.mix_bits.specs.Search.{any_below, least, refused}
use Rattle.mix_bits.proofs.Searches.{fails_below}
use Rattle.big_memory.specs.Memory.{Memory, floor_of}
use Rattle.rsrc_fork.specs.References.{resources_of}
use Rattle.rsrc_fork.specs.Resources.{Resource}
use Rattle.switch_frame.specs.Pieces.{Piece, long_piece}
use Rattle.mix_load.specs.declared.error.LoadError.{LoadError}
use Rattle.mix_load.specs.declared.error.LoadError.TheVariants.{NoCode, Far, JumpTable}
use Rattle.mix_load.specs.declared.image.Image.{Image}
use Rattle.mix_load.specs.ForkImage.{fork_end, fork_image, fork_memory, fork_refusal, too_large, with_codes, with_fork, with_resources}
use Rattle.mix_load.specs.inner.ForkImage.{segments_refusal, table_refusal}
use Rattle.mix_load.specs.Outcome.{unless}
use Rattle.mix_load.specs.OutcomeClauses.{Gives}
use Rattle.mix_load.specs.Pieces.{with_pieces}
use Rattle.mix_load.specs.Segments.{a5_of, added_segment, code_at, entry_count, entry_place, has_table, header_of, is_bad_entry, is_far_code, is_short_code, is_unloaded, jump_target, offset_in, reaches, segment_at, segment_in, segment_pieces, segment_place, segments_end, segments_start, table_pieces, table_start, with_segment}
use Rattle.mix_load.specs.SegmentsClauses.{entry_of, is_far, is_segment, is_short, segment_places}
use Rattle.mix_load.proofs.Forks.{fork-gives, ids-are}
use Rattle.mix_load.proofs.Lying.{last-of, negated, neither, reached, unmapped}
use Rattle.mix_load.proofs.Numbered.{numbered-at}

-- what no step from n on changes
stays : {A : Type 0} (f : ℕ → A) (n m : ℕ) → ((k : ℕ) → n ≤ k → f (suc k) ≡ f k) → n ≤ m → f m ≡ f n
stays f n zero step up = ap f (omega (arith, up))
stays f n (suc m) step up = by (nat_lt m n) refl (λ h. stays f n m step h)
  where
    by : (b : Bool) → nat_lt m n ≡ b → (n ≤ m → f m ≡ f n) → f (suc m) ≡ f n
    by true q rest = let below : m < n = grind (arith, nat_tests) in ap f (omega (arith, below, up))
    by false q rest = let above : n ≤ m = grind (arith, nat_tests) in step m above ∙ rest above

-- no CODE has an id from n on, and so there is no segment
abbrev pub IsEnd : List Resource → ℕ → Type 0
IsEnd resources n = (id : ℕ) → n ≤ id → code_at resources id ≡ None

either-none : (b : Bool) (o : Option (List ℕ)) → o ≡ None → (if b then None else o) ≡ None
either-none true o is = refl
either-none false o is = is

no-segment : (resources : List Resource) (n id : ℕ) → IsEnd resources n → n ≤ id → segment_at resources id ≡ None
no-segment resources n id end above = either-none ((id == 0) || nat_le 32768 id) (code_at resources id) (end id above)

or-false : (b : Bool) → (b || false) ≡ b
or-false true = refl
or-false false = refl

or-none : {A : Type 0} (o : Option A) → (o or None) ≡ o
or-none None = refl
or-none (Some x) = refl

same-end : (resources : List Resource) (start n m : ℕ) → IsEnd resources n → n ≤ m → segments_end resources start m ≡ segments_end resources start n
same-end resources start n m end up =
    stays (segments_end resources start) n m (λ k above. ap (with_segment (segments_end resources start k)) (no-segment resources n k end above)) up

same-pieces : (resources : List Resource) (start n m : ℕ) → IsEnd resources n → n ≤ m → segment_pieces resources start m ≡ segment_pieces resources start n
same-pieces resources start n m end up =
    stays (segment_pieces resources start) n m
    (λ k above. ap (λ o. added_segment (segment_place resources start k) o (segment_pieces resources start k)) (no-segment resources n k end above)) up

same-some : (resources : List Resource) (n m : ℕ) → IsEnd resources n → n ≤ m → any_below (is_segment resources) m ≡ any_below (is_segment resources) n
same-some resources n m end up =
    stays (any_below (is_segment resources)) n m
    (λ k above. ap (λ (o : Option (List ℕ)). any_below (is_segment resources) k || is_some o) (no-segment resources n k end above) ∙ or-false _) up

same-short : (resources : List Resource) (n m : ℕ) → IsEnd resources n → n ≤ m → any_below (is_short resources) m ≡ any_below (is_short resources) n
same-short resources n m end up =
    stays (any_below (is_short resources)) n m
    (λ k above. ap (λ (o : Option (List ℕ)). any_below (is_short resources) k || option_map_or is_short_code o false) (no-segment resources n k end above) ∙ or-false _) up

same-far : (resources : List Resource) (n m : ℕ) → IsEnd resources n → n ≤ m → least (is_far resources) m ≡ least (is_far resources) n
same-far resources n m end up =
    stays (least (is_far resources)) n m
    (λ k above. ap (λ (o : Option (List ℕ)). least (is_far resources) k or refused (option_map_or is_far_code o false) k) (no-segment resources n k end above) ∙ or-none _) up

-- so the refusals are the same
abbrev refusal-by : Bool → Option ℕ → Bool → Option LoadError
refusal-by some far short = refused (not some) (NoCode (pos 1)) or option_map (λ id. Far (pos id)) far or refused short (JumpTable 0)

same-refusal : (resources : List Resource) (code0 : List ℕ) (floor n m : ℕ) → IsEnd resources n → n ≤ m → fork_refusal m floor resources code0 ≡ fork_refusal n floor resources code0
same-refusal resources code0 floor n m end up =
    let segments : segments_refusal m resources ≡ segments_refusal n resources =
    ap (λ b. refusal-by b (least (is_far resources) m) (any_below (is_short resources) m)) (same-some resources n m end up)
    ∙ ap (λ o. refusal-by (any_below (is_segment resources) n) o (any_below (is_short resources) m)) (same-far resources n m end up)
    ∙ ap (λ b. refusal-by (any_below (is_segment resources) n) (least (is_far resources) n) b) (same-short resources n m end up) in
    ap (λ r. r or table_refusal resources code0 or too_large floor (fork_end m resources (header_of code0))) segments
    ∙ ap (λ e. segments_refusal n resources or table_refusal resources code0 or too_large floor e) (same-end resources (segments_start (header_of code0)) n m end up)

-- and so is the image of a fork that is not refused: its entries name segments that there are
same-table : (one other : List ℕ) (table : ℕ) (code0 : List ℕ) (count : ℕ) → ((i : ℕ) → i < count → jump_target one code0 i ≡ jump_target other code0 i)
    → table_pieces one table code0 count ≡ table_pieces other table code0 count
same-table one other table code0 zero same = refl
same-table one other table code0 (suc i) same =
    ap (λ target. long_piece (table + 8 * i + 4) target ∷ long_piece (table + 8 * i) (segment_in code0 i * 65536 + 0x4EF9) ∷ table_pieces one table code0 i) (same i (omega arith))
    ∙ ap (λ (pieces : List Piece). long_piece (table + 8 * i + 4) (jump_target other code0 i) ∷ long_piece (table + 8 * i) (segment_in code0 i * 65536 + 0x4EF9) ∷ pieces)
    (same-table one other table code0 i (λ j below. same j (omega (arith, below))))

below-end : (resources : List Resource) (n id : ℕ) (segment : List ℕ) → IsEnd resources n → segment_at resources id ≡ Some segment → id < n
below-end resources n id segment end is = by (nat_lt id n) refl
  where
    by : (b : Bool) → nat_lt id n ≡ b → id < n
    by true q = grind (arith, nat_tests)
    by false q =
        let above : n ≤ id = grind (arith, nat_tests) in
        let none = no-segment resources n id end above in
        absurd (cc)

same-target : (resources : List Resource) (code0 : List ℕ) (start n m i : ℕ) → IsEnd resources n → n ≤ m → is_bad_entry resources code0 i ≡ false
    → jump_target (segment_places resources start n) code0 i ≡ jump_target (segment_places resources start m) code0 i
same-target resources code0 start n m i end up good =
    let tests : (is_unloaded code0 i && reaches (offset_in code0 i) (segment_at resources (segment_in code0 i))) ≡ true = negated _ good in
    let found = reached (offset_in code0 i) (segment_at resources (segment_in code0 i)) (last-of (is_unloaded code0 i) _ tests) in
    let few : segment_in code0 i < n = below-end resources n (segment_in code0 i) found.0 end found.1.0 in
    let one : get_or (segment_places resources start n) (segment_in code0 i) 0 ≡ segment_place resources start (segment_in code0 i) =
    numbered-at (segment_place resources start) n (segment_in code0 i) 0 few in
    let other : get_or (segment_places resources start m) (segment_in code0 i) 0 ≡ segment_place resources start (segment_in code0 i) =
    numbered-at (segment_place resources start) m (segment_in code0 i) 0 (omega (arith, few, up)) in
    ap (λ at. (at + 4 + offset_in code0 i) % 2 ^ 32) (one ∙ sym other)

good-entries : (resources : List Resource) (code0 : List ℕ) (floor n : ℕ) → fork_refusal n floor resources code0 ≡ None → least (is_bad_entry resources code0) (entry_count code0) ≡ None
good-entries resources code0 floor n passes =
    let parts = neither (segments_refusal n resources or table_refusal resources code0) (too_large floor (fork_end n resources (header_of code0))) passes in
    let before = neither (segments_refusal n resources) (table_refusal resources code0) parts.0 in
    let table = neither (refused (not (has_table code0)) (JumpTable 0)) (option_map (λ i. JumpTable (entry_place i)) (least (is_bad_entry resources code0) (entry_count code0))) before.1 in
    unmapped (λ i. JumpTable (entry_place i)) (least (is_bad_entry resources code0) (entry_count code0)) table.1

abbrev image-by : Image → List ℕ → Memory → ℕ → Image
image-by image code0 ram end = record image { ram = ram; end = end; entry = entry_of (header_of code0); a5 = a5_of (header_of code0) }

same-image : (resources : List Resource) (code0 : List ℕ) (image : Image) (floor n m : ℕ) → IsEnd resources n → n ≤ m → fork_refusal n floor resources code0 ≡ None
    → fork_image n resources code0 image ≡ fork_image m resources code0 image
same-image resources code0 image floor n m end up passes =
    let start : ℕ = segments_start (header_of code0) in
    let good = good-entries resources code0 floor n passes in
    let table : table_pieces (segment_places resources start n) (table_start (header_of code0)) code0 (entry_count code0) ≡ table_pieces (segment_places resources start m) (table_start (header_of code0)) code0 (entry_count code0) =
    same-table (segment_places resources start n) (segment_places resources start m) (table_start (header_of code0)) code0 (entry_count code0)
    (λ i below. same-target resources code0 start n m i end up (fails_below (is_bad_entry resources code0) (entry_count code0) i good below)) in
    let memory : fork_memory n resources code0 image.ram ≡ fork_memory m resources code0 image.ram =
    ap (λ pieces. with_pieces pieces (with_pieces (segment_pieces resources start n) image.ram)) table
    ∙ ap (λ pieces. with_pieces (table_pieces (segment_places resources start m) (table_start (header_of code0)) code0 (entry_count code0)) (with_pieces pieces image.ram))
    (sym (same-pieces resources start n m end up)) in
    ap (λ ram. image-by image code0 ram (fork_end n resources (header_of code0))) memory
    ∙ ap (image-by image code0 (fork_memory m resources code0 image.ram)) (sym (same-end resources start n m end up))

same-codes : (resources : List Resource) (code0 : List ℕ) (image : Image) (n m : ℕ) → IsEnd resources n → n ≤ m
    → with_codes n resources (Some code0) image ≡ with_codes m resources (Some code0) image
same-codes resources code0 image n m end up = by (fork_refusal n floor resources code0) refl
  where
    floor : ℕ
    floor = floor_of image.ram

    same : fork_refusal n floor resources code0 ≡ fork_refusal m floor resources code0
    same = sym (same-refusal resources code0 floor n m end up)

    by : (o : Option LoadError) → fork_refusal n floor resources code0 ≡ o
        → unless (fork_refusal n floor resources code0) (fork_image n resources code0 image) ≡ unless (fork_refusal m floor resources code0) (fork_image m resources code0 image)
    by None q =
        ap (unless (fork_refusal n floor resources code0)) (same-image resources code0 image floor n m end up q)
        ∙ ap (λ r. unless r (fork_image m resources code0 image)) same
    by (Some e) q =
        ap (λ r. unless r (fork_image n resources code0 image)) q
        ∙ sym (ap (λ r. unless r (fork_image m resources code0 image)) (sym same ∙ q))

same-resources : (resources : List Resource) (image : Image) (n m : ℕ) → ((id : ℕ) → n ≤ id → code_at resources id ≡ None) → n ≤ m
    → with_resources n (Ok resources) image ≡ with_resources m (Ok resources) image
same-resources resources image n m end up = by (code_at resources 0)
  where
    by : (found : Option (List ℕ)) → with_codes n resources found image ≡ with_codes m resources found image
    by None = refl
    by (Some code0) = same-codes resources code0 image n m end up

-- what a fork adds by the ids up to its last CODE is what it adds by all of them
pub fork-counted : (n : ℕ) (bytes : List ℕ) (image : Image) (result : Result Image LoadError) (resources : List Resource) → resources_of bytes ≡ Ok resources
    → Gives result (with_resources n (Ok resources) image) → ((id : ℕ) → n ≤ id → code_at resources id ≡ None) → n ≤ 32768 → Gives result (with_fork bytes image)
fork-counted n bytes image result resources read gives end up =
    fork-gives 32768 bytes image result resources ids-are read (subst (Gives result) (same-resources resources image n 32768 end up) gives)
