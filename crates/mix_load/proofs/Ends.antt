-- Where segments end: each end is at or above those before it.
use Rattle.std.proofs.Common.{◌≡◌, subst, refl, ap, ◌∙◌, ℕ, zero, suc, ◌+◌, ◌-◌, ◌*◌, ◌/◌, ◌<◌, ◌≤◌, max, Bool, true, false, nat_lt, List, [], Option, Some, None, arith}
use Rattle.std.proofs.lemmas.Bool.Decides.{nat_tests}
use Rattle.rsrc_fork.specs.Resources.{Resource}
use Rattle.big_memory.specs.Memory.{Memory}
use Rattle.pef_head.specs.Parts.{SectionParts, section_at}
use Rattle.switch_frame.specs.Pieces.{Piece}
use Rattle.mix_bits.specs.Multiples.{rounded_up}
use Rattle.mix_load.specs.Pieces.{with_pieces}
use Rattle.mix_load.specs.Segments.{added_segment, segment_at, segment_pieces, segments_end, with_segment}
use Rattle.mix_load.specs.Sections.{base_behind, section_base, sections_end}
use Rattle.mix_load.specs.laws.Sections.{total_at}

segment_grows : (end : ℕ) (segment : Option (List ℕ)) → end ≤ with_segment end segment
segment_grows end None = omega arith
segment_grows end (Some segment) = omega arith

pub ends_grow : (resources : List Resource) (start k n : ℕ) → k ≤ n → segments_end resources start k ≤ segments_end resources start n
ends_grow resources start k zero le = subst (λ (m : ℕ). segments_end resources start k ≤ segments_end resources start m) same (omega arith)
  where
    same : k ≡ zero
    same = omega arith
ends_grow resources start k (suc n) le = by (nat_lt n k) refl (λ h. ends_grow resources start k n h)
  where
    step : segments_end resources start n ≤ segments_end resources start (suc n)
    step = segment_grows (segments_end resources start n) (segment_at resources n)

    by : (b : Bool) → nat_lt n k ≡ b → (k ≤ n → segments_end resources start k ≤ segments_end resources start n) → segments_end resources start k ≤ segments_end resources start (suc n)
    by false q earlier = omega (arith, earlier (grind (arith, nat_tests)), step)
    by true q earlier =
        let same : k ≡ suc n = grind (arith, nat_tests) in
        subst (λ (m : ℕ). segments_end resources start k ≤ segments_end resources start m) same (omega arith)

-- the end behind a segment is in room for all
pub end_within : (resources : List Resource) (start id n : ℕ) → id < n → with_segment (segments_end resources start id) (segment_at resources id) ≤ segments_end resources start n
end_within resources start id n lt = ends_grow resources start (suc id) n (omega arith)

-- a segment over the pieces before it
pub added_over : (place : ℕ) (segment : Option (List ℕ)) (pieces : List Piece) (m : Memory) → with_pieces (added_segment place segment []) (with_pieces pieces m) ≡ with_pieces (added_segment place segment pieces) m
added_over place None pieces m = refl
added_over place (Some segment) pieces m = refl

-- the sections' ends
base_above : (s : SectionParts) (end : ℕ) → end ≤ base_behind s end
base_above s end = at_least (max 16 s.align) end (omega arith)
  where
    at_least : (unit n : ℕ) → 0 < unit → n ≤ (n + (unit - 1)) / unit * unit
    at_least unit n some = omega arith

pub sections_grow : (bytes : List ℕ) (start k n : ℕ) → k ≤ n → sections_end bytes start k ≤ sections_end bytes start n
sections_grow bytes start k zero le = subst (λ (m : ℕ). sections_end bytes start k ≤ sections_end bytes start m) same (omega arith)
  where
    same : k ≡ zero
    same = omega arith
sections_grow bytes start k (suc n) le = by (nat_lt n k) refl (λ h. sections_grow bytes start k n h)
  where
    step : sections_end bytes start n ≤ sections_end bytes start (suc n)
    step = omega (arith, base_above (section_at bytes n) (sections_end bytes start n))

    by : (b : Bool) → nat_lt n k ≡ b → (k ≤ n → sections_end bytes start k ≤ sections_end bytes start n) → sections_end bytes start k ≤ sections_end bytes start (suc n)
    by false q earlier = omega (arith, earlier (grind (arith, nat_tests)), step)
    by true q earlier =
        let same : k ≡ suc n = grind (arith, nat_tests) in
        subst (λ (m : ℕ). sections_end bytes start k ≤ sections_end bytes start m) same (omega arith)

-- a section ends in room for all, and begins behind those before it
pub section_within : (bytes : List ℕ) (start k n : ℕ) → k < n → section_base bytes start k + total_at bytes k ≤ sections_end bytes start n
section_within bytes start k n lt = sections_grow bytes start (suc k) n (omega arith)

pub sections_apart : (bytes : List ℕ) (start j k : ℕ) → j < k → section_base bytes start j + total_at bytes j ≤ section_base bytes start k
sections_apart bytes start j k lt =
    omega (arith, section_within bytes start j k lt, base_above (section_at bytes k) (sections_end bytes start k))

pub start_within : (bytes : List ℕ) (start n : ℕ) → start ≤ sections_end bytes start n
start_within bytes start n = sections_grow bytes start 0 n (omega arith)

pub section_above : (bytes : List ℕ) (start k : ℕ) → start ≤ section_base bytes start k
section_above bytes start k = omega (arith, start_within bytes start k, base_above (section_at bytes k) (sections_end bytes start k))

-- the end behind one more segment
pub step-end : (resources : List Resource) (start id end : ℕ) (segment : Option (List ℕ)) (next : ℕ) → end ≡ segments_end resources start id → segment ≡ segment_at resources id
    → next ≡ with_segment end segment → next ≡ segments_end resources start (suc id)
step-end resources start id end segment next end_is segment_is is =
    is ∙ (ap (λ (e : ℕ). with_segment e segment) end_is ∙ ap (λ (o : Option (List ℕ)). with_segment (segments_end resources start id) o) segment_is)

-- one segment more
pub step-memory : (resources : List Resource) (start id end : ℕ) (segment : Option (List ℕ)) (new old first : Memory) → end ≡ segments_end resources start id → segment ≡ segment_at resources id
    → new ≡ with_pieces (added_segment (rounded_up 16 end) segment []) old → old ≡ with_pieces (segment_pieces resources start id) first → new ≡ with_pieces (segment_pieces resources start (suc id)) first
step-memory resources start id end segment new old first end_is segment_is new_is old_is =
    new_is ∙ (ap (with_pieces (added_segment (rounded_up 16 end) segment [])) old_is
    ∙ (added_over (rounded_up 16 end) segment (segment_pieces resources start id) first
    ∙ (ap (λ (e : ℕ). with_pieces (added_segment (rounded_up 16 e) segment (segment_pieces resources start id)) first) end_is
    ∙ ap (λ (o : Option (List ℕ)). with_pieces (added_segment (rounded_up 16 (segments_end resources start id)) o (segment_pieces resources start id)) first) segment_is)))
