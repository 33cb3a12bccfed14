-- Laws of the memory beside the frames: what loads and stores see of it, and what stands in it.
use Rattle.std.proofs.Common.{◌≡◌, inl, inr, ℕ, zero, suc, ◌+◌, ◌-◌, ◌/◌, ◌<◌, ◌≤◌, Bool, false, List, [], ◌∷◌, ◌++◌, length, get_or, arith, ap, sym, ◌∙◌, refl}
use Rattle.std.proofs.lemmas.Bool.{cases_lt}
use Rattle.std.proofs.lemmas.List.{length-append, get_or_append_left, get_or-append-add, ext_get_or}
use Rattle.big_memory.specs.Lists.{part, put}
use Rattle.big_memory.proofs.Lists.{part-put_apart, part-put_same}
use Rattle.switch_frame.specs.Records.{Record}
use Rattle.switch_frame.specs.laws.Chain.{Above}
use Rattle.switch_frame.specs.Chain.{Frames, covered, cleared}
use Rattle.big_memory.specs.Lists.{zeros}
use Rattle.switch_frame.specs.Seen.{marks_over, seen_by}
use Rattle.switch_frame.specs.laws.Laws.{LowIsMemory, SeenIsMemory}
use Rattle.switch_frame.specs.laws.FrameLaws.{AreZeros, ZerosBeside}
use Rattle.switch_frame.proofs.Pieces.{length-zeros}
use Rattle.switch_frame.proofs.Linked.{IsLen, IsRange, frames_above, keeps_length, len-ram, length-cleared, range-fits}
use Rattle.switch_frame.proofs.Beside.{view_is_memory}

-- the marks of units, counted and one by one
length-marks_over : (n : ℕ) (rs : List Record) → length (marks_over n rs) ≡ n
unfolding marks_over
length-marks_over zero rs = refl
length-marks_over (suc n) rs =
    let rest : length (marks_over n rs) ≡ n = length-marks_over n rs in
    let more : length (marks_over n rs ++ (covered n rs ∷ [])) ≡ length (marks_over n rs) + 1 = length-append (marks_over n rs) (covered n rs ∷ []) in
    omega (arith, rest, more)

get_or-marks_over : (n unit : ℕ) (rs : List Record) → unit < n → get_or (marks_over n rs) unit false ≡ covered unit rs
unfolding marks_over
get_or-marks_over zero unit rs within = absurd (omega arith)
get_or-marks_over (suc n) unit rs within =
    let count : length (marks_over n rs) ≡ n = length-marks_over n rs in
    elim (cases_lt unit n) [
      | inl before ↦ get_or_append_left (marks_over n rs) (covered n rs ∷ []) false unit (omega arith) ∙ get_or-marks_over n unit rs before
      | inr last ↦
          let here : unit ≡ length (marks_over n rs) + 0 = omega arith in
          let same : n ≡ unit = omega arith in
          ap (λ k. get_or (marks_over n rs ++ (covered n rs ∷ [])) k false) here
          ∙ get_or-append-add (marks_over n rs) (covered n rs ∷ []) 0 false ∙ ap (λ k. covered k rs) same
    ]

marks-are : (n : ℕ) (marks : List Bool) (rs : List Record) → n ≡ length marks → ((unit : ℕ) → get_or marks unit false ≡ covered unit rs) → marks_over n rs ≡ marks
marks-are n marks rs count guarded =
    let long : length (marks_over n rs) ≡ n = length-marks_over n rs in
    ext_get_or false _ _ (long ∙ count) (λ unit within. get_or-marks_over n unit rs (omega arith) ∙ sym (guarded unit))

pub seen_is_memory : SeenIsMemory
unfolding seen_by
seen_is_memory m top rs chain =
    let ram = chain.links.ram in
    let long : length (cleared m.bytes rs) ≡ length m.bytes = keeps_length m top rs chain.links in
    let count : length (cleared m.bytes rs) / 16 ≡ length m.marks = omega (arith, long, ram.units) in
    let bytes = view_is_memory m top rs chain.links in
    let marks = marks-are (length (cleared m.bytes rs) / 16) m.marks rs count chain.guarded in
    λ i. record { bytes = bytes i; marks = marks i }

low-cleared : (a n : ℕ) (bytes : List ℕ) (rs : List Record) → a + n ≤ length bytes - length bytes / 4 → IsLen (length bytes) → Frames (length bytes) bytes rs → part a n (cleared bytes rs) ≡ part a n bytes
low-cleared a n bytes [] low ok frames = refl
low-cleared a n bytes (r ∷ rs) low ok frames =
    let range : IsRange (length bytes) r = range-fits (length bytes) r rs ok frames.1 in
    let rest : length (cleared bytes rs) ≡ length bytes = length-cleared bytes rs frames.2 ok in
    let size : length (zeros (r.hi - r.lo)) ≡ r.hi - r.lo = length-zeros (r.hi - r.lo) in
    let below : a + n ≤ r.lo = omega (arith, low, frames.1.alone.stack) in
    part-put_apart a n r.lo (zeros (r.hi - r.lo)) (cleared bytes rs) (omega (arith, range.some, range.end)) (inl below) ∙ low-cleared a n bytes rs low ok frames.2

pub low_is_memory : LowIsMemory
low_is_memory m top rs a n links low = low-cleared a n m.bytes rs low (len-ram m links.ram) links.frames

-- a write below the records keeps the zeros in their ranges
zeros-kept : (at : ℕ) (ys bytes : List ℕ) (rs : List Record) → at + length ys ≤ length bytes → Above (at + length ys) rs → AreZeros bytes rs → AreZeros (put at ys bytes) rs
zeros-kept at ys bytes [] within above none = tt
zeros-kept at ys bytes (r ∷ rs) within above none =
    (part-put_apart r.lo (r.hi - r.lo) at ys bytes within (inr above.0) ∙ none.0, zeros-kept at ys bytes rs within above.1 none.1)

cleared-zeros : (bytes : List ℕ) (rs : List Record) → IsLen (length bytes) → Frames (length bytes) bytes rs → AreZeros (cleared bytes rs) rs
cleared-zeros bytes [] ok frames = tt
cleared-zeros bytes (r ∷ rs) ok frames =
    let range : IsRange (length bytes) r = range-fits (length bytes) r rs ok frames.1 in
    let rest : length (cleared bytes rs) ≡ length bytes = length-cleared bytes rs frames.2 ok in
    let size : length (zeros (r.hi - r.lo)) ≡ r.hi - r.lo = length-zeros (r.hi - r.lo) in
    let end : r.lo + length (zeros (r.hi - r.lo)) ≡ r.hi = omega (arith, range.some) in
    let above : Above (r.lo + length (zeros (r.hi - r.lo))) rs = rw end (frames_above (length bytes) bytes r rs frames.1.inside frames.2) in (
      part-put_same r.lo (r.hi - r.lo) (zeros (r.hi - r.lo)) (cleared bytes rs) size (omega (arith, range.some, range.end)),
      zeros-kept r.lo (zeros (r.hi - r.lo)) (cleared bytes rs) rs (omega (arith, range.end)) above (cleared-zeros bytes rs ok frames.2),
    )

pub zeros_beside : ZerosBeside
zeros_beside m top rs links = cleared-zeros m.bytes rs (len-ram m links.ram) links.frames
